-- The texts of a report: the block of a version, a refused line, and a block that starved.
use Rattle.std.specs.Prelude.{ℕ, ◌+◌, List, [], ◌∷◌, ◌++◌, codes, decimal, Bool, not, ◌||◌, if◌then◌else◌, Option, Some, None}
use Rattle.std.specs.List.{flat_map}
use Rattle.value_types.specs.Text.{literal, id}
use Rattle.dataset_types.specs.Envs.{EnvData}
use Rattle.dataset_types.specs.Tables.{TableData}
use Rattle.dataset_types.specs.declared.column.Column.{Column}
use Rattle.dataset_types.specs.declared.row.Marked.{Marked}
use Rattle.dataset_types.specs.declared.row.Row.{Row}
use Rattle.dataset_types.specs.declared.slot.Named.{Named}
use Rattle.cell_model.specs.declared.cell.Cell.{Cell}
use Rattle.cell_model.specs.declared.cell_result.Line.{Line}
use Rattle.cell_model.specs.declared.cell_result.CellResult.{CellResult}
use Rattle.cell_model.specs.declared.refusal.EditRefusal.{EditRefusal}
use Rattle.report_text.specs.Names.{type_name, status_name, refusal_name}

-- the text where this holds, else nothing
abbrev pub text_if : Bool → List ℕ → List ℕ
text_if holds text = if holds then text else []

-- the texts of the items, the first after a space, each other after a comma and a space
abbrev pub listed : {A : Type 0} → (A → List ℕ) → List A → List ℕ
listed text [] = []
listed text (x ∷ xs) = codes " " ++ text x ++ flat_map (λ y. codes ", " ++ text y) xs

-- `  | TEXT`, or `  |~ TEXT` where the line is marked
abbrev pub output_text : Line → List ℕ
output_text l = codes "  |" ++ text_if l.marked (codes "~") ++ codes " " ++ l.text ++ codes "\n"

-- `cell P #ID`
abbrev pub cell_at : ℕ → ℕ → List ℕ
cell_at position cell = codes "cell " ++ decimal position ++ codes " #" ++ decimal cell

-- `cell P #ID STATUS`
abbrev pub cell_line : ℕ → Cell → CellResult → List ℕ
cell_line position cell r =
    cell_at position cell.id ++ codes " " ++ status_name r.status ++ codes "\n"

-- a cell, followed by its lines
abbrev pub cell_text : ℕ → Cell → CellResult → List ℕ
cell_text position cell r = cell_line position cell r ++ flat_map output_text r.lines

-- the cells with their results, from a position on
abbrev pub cells_text : ℕ → List Cell → List CellResult → List ℕ
cells_text position [] rs = []
cells_text position (cell ∷ cells) [] = []
cells_text position (cell ∷ cells) (r ∷ rs) =
    cell_text position cell r ++ cells_text (position + 1) cells rs

-- `a int`
abbrev pub column_text : Column → List ℕ
column_text c = c.name ++ codes " " ++ type_name c.kind

-- a value, with `~` before one that is marked
abbrev pub value_text : Marked → List ℕ
value_text m = text_if m.marked (codes "~") ++ literal m.value

-- `  ID: v, v`, with `?` before the id of an unsure row
abbrev pub row_text : Row → List ℕ
row_text row =
    codes "  " ++ text_if (not row.sure) (codes "?") ++ id row.id ++ codes ":"
    ++ listed value_text row.values ++ codes "\n"

-- `dataset NAME open loose`, with `?` before a doubtful name
abbrev pub dataset_line : List ℕ → Bool → TableData → List ℕ
dataset_line name doubt t =
    codes "dataset " ++ text_if doubt (codes "?") ++ name
    ++ text_if t.is_open (codes " open") ++ text_if t.is_loose (codes " loose") ++ codes "\n"

-- `  columns a int, b text`
abbrev pub columns_line : List Column → List ℕ
columns_line columns = codes "  columns" ++ listed column_text columns ++ codes "\n"

-- a dataset under its name
abbrev pub dataset_text : List ℕ → Bool → TableData → List ℕ
dataset_text name doubt t =
    dataset_line name doubt t ++ columns_line t.columns ++ flat_map row_text t.rows

-- `absent ?NAME` in doubt, else `absent NAME` where the environment is blurred, else nothing
abbrev pub absent_text : Bool → List ℕ → Bool → List ℕ
absent_text blurred name doubt =
    text_if (doubt || blurred) (codes "absent " ++ text_if doubt (codes "?") ++ name ++ codes "\n")

-- what stands under a name: its dataset, or that there is none
abbrev pub holding_text : Bool → List ℕ → Bool → Option TableData → List ℕ
holding_text blurred name doubt (Some t) = dataset_text name doubt t
holding_text blurred name doubt None = absent_text blurred name doubt

-- the text of a name with its slot
abbrev pub slot_text : Bool → Named → List ℕ
slot_text blurred e = holding_text blurred e.name e.slot.doubt e.slot.table

-- `version V BRANCH`
abbrev pub head_line : ℕ → List ℕ → List ℕ
head_line version branch = codes "version " ++ decimal version ++ codes " " ++ branch ++ codes "\n"

-- `end V`
abbrev pub end_line : ℕ → List ℕ
end_line version = codes "end " ++ decimal version ++ codes "\n"

-- the end of a block, after `absent ?*` where the environment is blurred
abbrev pub tail_text : Bool → ℕ → List ℕ
tail_text blurred version = text_if blurred (codes "absent ?*\n") ++ end_line version

-- the cells with their results, and then the names of the environment in its order
abbrev pub body_text : List Cell → List CellResult → EnvData → List ℕ
body_text cells results env =
    cells_text 1 cells results ++ flat_map (slot_text env.blurred) env.slots

-- the block of a version: its cells with their results, and the environment after them
abbrev pub block_text : ℕ → List ℕ → List Cell → List CellResult → EnvData → List ℕ
block_text version branch cells results env =
    head_line version branch ++ body_text cells results env ++ tail_text env.blurred version

-- `starved cell P #ID`
abbrev pub starved_line : ℕ → ℕ → List ℕ
starved_line position cell = codes "starved " ++ cell_at position cell ++ codes "\n"

-- the block of a version that found no memory at a cell
abbrev pub starved_text : ℕ → List ℕ → ℕ → ℕ → List ℕ
starved_text version branch position cell =
    head_line version branch ++ starved_line position cell ++ end_line version

-- `line N refused E5 NoCell`
abbrev pub refusal_text : ℕ → EditRefusal → List ℕ
refusal_text line refusal =
    codes "line " ++ decimal line ++ codes " refused " ++ refusal_name refusal ++ codes "\n"
