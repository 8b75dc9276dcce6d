-- What lies on top of the pieces of a script.
use Rattle.std.specs.Prelude.{◌≡◌, List, ◌∷◌}
use Rattle.expr_parse.specs.declared.piece.Piece.TheVariants as piece
use Rattle.dataset_types.specs.declared.column.Column.{Column}
use Rattle.script_parse.specs.declared.stmt.Stmt.{Stmt}
use Rattle.script_parse.specs.declared.script.Builder.{Builder}
use Rattle.script_parse.specs.declared.script.Script.{Script}
use Rattle.script_parse.specs.declared.piece.LoopPart.{LoopPart}
use Rattle.script_parse.specs.declared.piece.ScriptPiece.TheVariants as part
use Rattle.script_parse.specs.Pieces.{ScriptStack}

-- declared builders are on top
abbrev pub BuildersOn : ScriptStack → Type 0
BuildersOn st = (bs : List Builder) × (rest : ScriptStack) × (st ≡ piece.Other (part.Builders bs) ∷ rest)

-- columns of a builder are on top
abbrev pub DefinitionsOn : ScriptStack → Type 0
DefinitionsOn st = (cs : List Column) × (rest : ScriptStack) × (st ≡ piece.Other (part.Definitions cs) ∷ rest)

-- a block is on top
abbrev pub BlockOn : ScriptStack → Type 0
BlockOn st = (b : List Stmt) × (rest : ScriptStack) × (st ≡ piece.Other (part.Block b) ∷ rest)

-- what a loop goes over is on top
abbrev pub LoopOn : ScriptStack → Type 0
LoopOn st = (l : LoopPart) × (rest : ScriptStack) × (st ≡ piece.Other (part.Loop l) ∷ rest)

-- a script is on top
abbrev pub ScriptOn : ScriptStack → Type 0
ScriptOn st = (s : Script) × (rest : ScriptStack) × (st ≡ piece.Other (part.Script s) ∷ rest)
