-- Worked reports, each a text of the format.
use Rattle.std.proofs.Common.{◌≡◌, ◌++◌, ◌∷◌, [], ℕ, List, refl, codes, Bool, true, false, Option, Some, None, pos}
use Rattle.std.specs.Fmt.{digits}
use Rattle.std.specs.Str.{chars}
use lib.Utf8.{encode}
use Rattle.value_types.specs.declared.value.ColumnType.TheVariants as kind
use Rattle.value_types.specs.declared.value.Value.{Value}
use Rattle.value_types.specs.declared.value.Value.TheVariants.{Null, Bool as Truth, Int, Fixed, Text}
use Rattle.value_types.specs.declared.row_id.RowId.{RowId, Rec, Named, Emit, Pair, Alone, First, Key}
use Rattle.value_types.proofs.IdTexts.{id-Rec, id-Named, id-Emit, id-Pair, id-Alone, id-First, id-Key}
use Rattle.dataset_types.specs.Envs.{EnvData}
use Rattle.dataset_types.specs.Tables.{TableData}
use Rattle.dataset_types.specs.declared.column.Column.{Column}
use Rattle.dataset_types.specs.declared.row.Marked.{Marked}
use Rattle.dataset_types.specs.declared.row.Row.{Row}
use Rattle.dataset_types.specs.declared.slot.Named.{Named as Entry}
use Rattle.cell_model.specs.declared.cell.Cell.{Cell}
use Rattle.cell_model.specs.declared.cell.CellKind.TheVariants.{Make}
use Rattle.cell_model.specs.declared.cell_result.Line.{Line}
use Rattle.cell_model.specs.declared.cell_result.CellResult.{CellResult}
use Rattle.cell_model.specs.declared.cell_result.CellStatus.{CellStatus}
use Rattle.cell_model.specs.declared.cell_result.CellStatus.TheVariants as status
use Rattle.cell_errors.specs.declared.fault.CellError.TheVariants as error
use Rattle.cell_model.specs.declared.refusal.EditRefusal.TheVariants as refusal
use Rattle.report_text.specs.Report.{block_text, starved_text, refusal_text}

-- a table that is neither open nor loose
abbrev table_of : List Column → List Row → TableData
table_of columns rows = record { columns = columns; rows = rows; is_open = false; is_loose = false }

-- the cell of an id; what it does isn't printed
abbrev cell_of : ℕ → Cell
cell_of id = record { id = id; kind = Make (codes "t") (table_of [] []); picks = [] }

-- what a cell of this status and these lines gave; what it wrote isn't printed
abbrev given : CellStatus → List Line → CellResult
given s lines = record { status = s; lines = lines; writes = []; blur = false }

abbrev ok : CellResult
ok = given status.Ok []

abbrev plain : Value → Marked
plain v = record { value = v; marked = false }

abbrev marked : Value → Marked
marked v = record { value = v; marked = true }

abbrev row : RowId → List Marked → Row
row id values = record { id = id; sure = true; values = values }

abbrev unsure : RowId → List Marked → Row
unsure id values = record { id = id; sure = false; values = values }

abbrev int_column : List ℕ → Column
int_column name = record { name = name; kind = kind.Int }

-- a name that has a table, or none
abbrev entry : List ℕ → Bool → Option TableData → Entry
entry name doubt table = record { name = name; slot = record { table = table; doubt = doubt } }

abbrev env_of : List Entry → EnvData
env_of slots = record { slots = slots; blurred = false }

-- the plainest block
plainest :
    block_text 1 (codes "main") (cell_of 1 ∷ []) (ok ∷ [])
    (env_of (entry (codes "t") false (Some (table_of
    (int_column (codes "a") ∷ record { name = codes "b"; kind = kind.Text } ∷ [])
    (row (Rec 1) (plain (Int (pos 1)) ∷ plain (Text (codes "x")) ∷ [])
    ∷ row (Rec 2) (plain (Int (pos 2)) ∷ plain Null ∷ [])
    ∷ []))) ∷ []))
    ≡ codes "version 1 main\n"
    ++ codes "cell 1 #1 ok\n"
    ++ codes "dataset t\n"
    ++ codes "  columns a int, b text\n"
    ++ codes "  #1: 1, \"x\"\n"
    ++ codes "  #2: 2, null\n"
    ++ codes "end 1\n"
unfolding digits chars encode
plainest = simp id-Rec

-- a version whose cells were deleted
emptied : block_text 2 (codes "main") [] [] (env_of []) ≡ codes "version 2 main\n" ++ codes "end 2\n"
unfolding digits
emptied = refl

-- an error, and the cells after it
stopped :
    block_text 3 (codes "main") (cell_of 1 ∷ cell_of 2 ∷ cell_of 3 ∷ [])
    (ok ∷ given (status.Error error.ZeroDivisor) [] ∷ given status.Blocked [] ∷ [])
    (env_of (entry (codes "t") false (Some (table_of (int_column (codes "a") ∷ [])
    (row (Rec 1) (plain (Int (pos 1)) ∷ []) ∷ []))) ∷ []))
    ≡ codes "version 3 main\n"
    ++ codes "cell 1 #1 ok\n"
    ++ codes "cell 2 #2 error ZeroDivisor\n"
    ++ codes "cell 3 #3 blocked\n"
    ++ codes "dataset t\n"
    ++ codes "  columns a int\n"
    ++ codes "  #1: 1\n"
    ++ codes "end 3\n"
unfolding digits
stopped = simp id-Rec

-- an error of syntax has its byte
unread :
    block_text 1 (codes "main") (cell_of 1 ∷ [])
    (given (status.Error (error.Syntax 13)) [] ∷ []) (env_of [])
    ≡ codes "version 1 main\n" ++ codes "cell 1 #1 error Syntax at 13\n" ++ codes "end 1\n"
unfolding digits
unread = refl

-- the fields of a short record and a surplus record, and a row that was put after it
ragged :
    block_text 2 (codes "main") (cell_of 1 ∷ cell_of 2 ∷ []) (ok ∷ ok ∷ [])
    (env_of (entry (codes "r") false (Some (record {
      columns = int_column (codes "a") ∷ int_column (codes "b") ∷ [];
      rows = row (Rec 1) (plain (Int (pos 1)) ∷ marked Null ∷ [])
          ∷ unsure (Rec 2) (plain (Int (pos 2)) ∷ plain (Int (pos 3)) ∷ [])
          ∷ row (Named (codes "z")) (plain Null ∷ plain Null ∷ [])
          ∷ [];
      is_open = true;
      is_loose = true;
    })) ∷ []))
    ≡ codes "version 2 main\n"
    ++ codes "cell 1 #1 ok\n"
    ++ codes "cell 2 #2 ok\n"
    ++ codes "dataset r open loose\n"
    ++ codes "  columns a int, b int\n"
    ++ codes "  #1: 1, ~null\n"
    ++ codes "  ?#2: 2, 3\n"
    ++ codes "  @z: null, null\n"
    ++ codes "end 2\n"
unfolding digits
ragged = simp (id-Rec, id-Named)

-- a marked line, and a doubtful name that has a dataset
doubtful :
    block_text 2 (codes "main") (cell_of 1 ∷ cell_of 2 ∷ [])
    (ok ∷ given status.Ok (record { text = codes "true"; marked = true } ∷ []) ∷ [])
    (env_of (entry (codes "u") true (Some (table_of (int_column (codes "a") ∷ [])
    (row (Emit 1) (plain (Int (pos 1)) ∷ []) ∷ []))) ∷ []))
    ≡ codes "version 2 main\n"
    ++ codes "cell 1 #1 ok\n"
    ++ codes "cell 2 #2 ok\n"
    ++ codes "  |~ true\n"
    ++ codes "dataset ?u\n"
    ++ codes "  columns a int\n"
    ++ codes "  +1: 1\n"
    ++ codes "end 2\n"
unfolding digits
doubtful = simp id-Emit

-- lines without a mark, a doubtful name that is absent, and one that is absent without doubt
missing :
    block_text 2 (codes "main") (cell_of 2 ∷ [])
    (given status.Ok (record { text = codes "false"; marked = false }
    ∷ record { text = codes "null"; marked = true } ∷ []) ∷ [])
    (env_of (entry (codes "t") false None ∷ entry (codes "u") true None ∷ []))
    ≡ codes "version 2 main\n"
    ++ codes "cell 1 #2 ok\n"
    ++ codes "  | false\n"
    ++ codes "  |~ null\n"
    ++ codes "absent ?u\n"
    ++ codes "end 2\n"
unfolding digits
missing = refl

-- a blurred environment: a table without rows, a name absent without doubt, and every other name
blurred :
    block_text 2 (codes "b") (cell_of 1 ∷ cell_of 2 ∷ []) (ok ∷ ok ∷ [])
    (record {
      slots = entry (codes "t") true (Some (table_of (int_column (codes "a") ∷ []) []))
          ∷ entry (codes "u") false None
          ∷ [];
      blurred = true;
    })
    ≡ codes "version 2 b\n"
    ++ codes "cell 1 #1 ok\n"
    ++ codes "cell 2 #2 ok\n"
    ++ codes "dataset ?t\n"
    ++ codes "  columns a int\n"
    ++ codes "absent u\n"
    ++ codes "absent ?*\n"
    ++ codes "end 2\n"
unfolding digits
blurred = refl

-- a table without columns
narrow :
    block_text 1 (codes "main") (cell_of 1 ∷ []) (ok ∷ [])
    (env_of (entry (codes "t") false (Some (table_of []
    (row (Rec 1) [] ∷ unsure (Rec 2) [] ∷ []))) ∷ []))
    ≡ codes "version 1 main\n"
    ++ codes "cell 1 #1 ok\n"
    ++ codes "dataset t\n"
    ++ codes "  columns\n"
    ++ codes "  #1:\n"
    ++ codes "  ?#2:\n"
    ++ codes "end 1\n"
unfolding digits
narrow = simp id-Rec

-- joined rows, groups and a marked count
derived :
    block_text 5 (codes "main") [] []
    (env_of (entry (codes "g") false (Some (record {
      columns = record { name = codes "price"; kind = kind.Fixed } ∷ int_column (codes "n") ∷ [];
      rows = unsure (Key (Null ∷ [])) (plain Null ∷ marked (Int (pos 1)) ∷ [])
          ∷ row (Key (Fixed (pos 25000) ∷ [])) (plain (Fixed (pos 25000)) ∷ marked (Int (pos 1)) ∷ []) ∷ [];
      is_open = true;
      is_loose = false;
    }))
    ∷ entry (codes "j") false (Some (record {
      columns = int_column (codes "id") ∷ [];
      rows = row (Pair (Rec 1) (Rec 1)) (plain (Int (pos 1)) ∷ [])
          ∷ unsure (Alone (Rec 2)) (plain (Int (pos 3)) ∷ []) ∷ [];
      is_open = false;
      is_loose = true;
    })) ∷ []))
    ≡ codes "version 5 main\n"
    ++ codes "dataset g open\n"
    ++ codes "  columns price fixed, n int\n"
    ++ codes "  ?[null]: null, ~1\n"
    ++ codes "  [2.5000]: 2.5000, ~1\n"
    ++ codes "dataset j loose\n"
    ++ codes "  columns id int\n"
    ++ codes "  (#1,#1): 1\n"
    ++ codes "  ?(#2,-): 3\n"
    ++ codes "end 5\n"
unfolding digits
derived = simp (id-Key, id-Pair, id-Alone, id-Rec)

-- no memory was found at the first cell
starved :
    starved_text 1 (codes "main") 1 1
    ≡ codes "version 1 main\n" ++ codes "starved cell 1 #1\n" ++ codes "end 1\n"
unfolding digits
starved = refl

-- each refusal
bad_json : refusal_text 1 refusal.BadJson ≡ codes "line 1 refused E1 BadJson\n"
unfolding digits
bad_json = refl

bad_edit : refusal_text 2 refusal.BadEdit ≡ codes "line 2 refused E2 BadEdit\n"
unfolding digits
bad_edit = refl

no_branch : refusal_text 3 refusal.NoBranch ≡ codes "line 3 refused E3 NoBranch\n"
unfolding digits
no_branch = refl

no_version : refusal_text 4 refusal.NoVersion ≡ codes "line 4 refused E4 NoVersion\n"
unfolding digits
no_version = refl

no_cell : refusal_text 5 refusal.NoCell ≡ codes "line 5 refused E5 NoCell\n"
unfolding digits
no_cell = refl

branch_taken : refusal_text 6 refusal.BranchTaken ≡ codes "line 6 refused E6 BranchTaken\n"
unfolding digits
branch_taken = refl

too_many : refusal_text 7 refusal.TooMany ≡ codes "line 7 refused E7 TooMany\n"
unfolding digits
too_many = refl

no_file : refusal_text 8 refusal.NoFile ≡ codes "line 8 refused E8 NoFile\n"
unfolding digits
no_file = refl

file_too_long : refusal_text 9 refusal.FileTooLong ≡ codes "line 9 refused E9 FileTooLong\n"
unfolding digits
file_too_long = refl

file_fault : refusal_text 10 refusal.FileFault ≡ codes "line 10 refused E10 FileFault\n"
unfolding digits
file_fault = refl

line_too_long : refusal_text 11 refusal.LineTooLong ≡ codes "line 11 refused E11 LineTooLong\n"
unfolding digits
line_too_long = refl
