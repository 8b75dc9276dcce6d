-- Why a text isn't read, as calls that can leave a cell in error say it.
use Rattle.notebook_grammar.specs.declared.fault.ParseFault.{ParseFault}
use Rattle.notebook_grammar.specs.declared.fault.ParseFault.TheVariants as parse
use Rattle.cell_errors.specs.declared.fault.CellError.TheVariants as error
use Rattle.cell_errors.specs.declared.fault.EvalFault.{EvalFault}
use Rattle.cell_errors.specs.declared.fault.EvalFault.TheVariants as fault

-- the error of the cell at the same place, or want of memory
abbrev pub fault_of : ParseFault → EvalFault
fault_of (parse.Syntax at) = fault.Error (error.Syntax at)
fault_of parse.NoMemory = fault.NoMemory
