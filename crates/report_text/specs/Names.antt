-- The names that a report prints: of types, of statuses and errors of cells, and of refusals.
use Rattle.std.specs.Prelude.{ℕ, List, ◌++◌, codes, decimal}
use Rattle.value_types.specs.declared.value.ColumnType.{ColumnType}
use Rattle.value_types.specs.declared.value.ColumnType.TheVariants as kind
use Rattle.cell_model.specs.declared.cell_result.CellStatus.{CellStatus}
use Rattle.cell_model.specs.declared.cell_result.CellStatus.TheVariants as status
use Rattle.cell_errors.specs.declared.fault.CellError.{CellError}
use Rattle.cell_errors.specs.declared.fault.CellError.TheVariants as error
use Rattle.cell_model.specs.declared.refusal.EditRefusal.{EditRefusal}
use Rattle.cell_model.specs.declared.refusal.EditRefusal.TheVariants as refusal

-- a column's type
abbrev pub type_name : ColumnType → List ℕ
type_name kind.Bool = codes "bool"
type_name kind.Int = codes "int"
type_name kind.Fixed = codes "fixed"
type_name kind.Text = codes "text"

-- an error of a cell; one of syntax has the byte that it is at
abbrev pub error_name : CellError → List ℕ
error_name (error.Syntax at) = codes "Syntax at " ++ decimal at
error_name error.NoDataset = codes "NoDataset"
error_name error.NoColumn = codes "NoColumn"
error_name error.TypeFault = codes "TypeFault"
error_name error.Overflow = codes "Overflow"
error_name error.ZeroDivisor = codes "ZeroDivisor"
error_name error.TooLarge = codes "TooLarge"
error_name error.Fuel = codes "Fuel"
error_name error.NameTaken = codes "NameTaken"
error_name error.NoRow = codes "NoRow"
error_name error.RowTaken = codes "RowTaken"
error_name error.NoHeader = codes "NoHeader"
error_name error.BadCast = codes "BadCast"

-- a cell's status
abbrev pub status_name : CellStatus → List ℕ
status_name status.Ok = codes "ok"
status_name (status.Error e) = codes "error " ++ error_name e
status_name status.Blocked = codes "blocked"

-- a refusal: its number and its name
abbrev pub refusal_name : EditRefusal → List ℕ
refusal_name refusal.BadJson = codes "E1 BadJson"
refusal_name refusal.BadEdit = codes "E2 BadEdit"
refusal_name refusal.NoBranch = codes "E3 NoBranch"
refusal_name refusal.NoVersion = codes "E4 NoVersion"
refusal_name refusal.NoCell = codes "E5 NoCell"
refusal_name refusal.BranchTaken = codes "E6 BranchTaken"
refusal_name refusal.TooMany = codes "E7 TooMany"
refusal_name refusal.NoFile = codes "E8 NoFile"
refusal_name refusal.FileTooLong = codes "E9 FileTooLong"
refusal_name refusal.FileFault = codes "E10 FileFault"
refusal_name refusal.LineTooLong = codes "E11 LineTooLong"
