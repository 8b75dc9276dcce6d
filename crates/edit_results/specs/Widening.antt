-- Ints that go into Fixed columns.
use Rattle.std.specs.Prelude.{ℤ, Option, Some, None, Ok, Err}
use Rattle.value_types.specs.Numbers.{widened}
use Rattle.value_types.specs.declared.value.Value.{Value}
use Rattle.value_types.specs.declared.value.Value.TheVariants.{Fixed}
use Rattle.cell_errors.specs.Answers.{Answer}
use Rattle.cell_errors.specs.declared.fault.CellError.TheVariants.{Overflow}

-- a Fixed of this many ten-thousandths, where there is one
abbrev pub fixed_or : Option ℤ → Answer Value
fixed_or None = Err Overflow
fixed_or (Some count) = Ok (Fixed count)

-- an Int as a Fixed: its widening
abbrev pub as_fixed : ℤ → Answer Value
as_fixed n = fixed_or (widened n)
