-- What each action of scripts makes of the pieces, the topmost first.
use Rattle.std.specs.Prelude.{ℕ, List, [], ◌∷◌, ◌++◌, Option, Some, None}
use Rattle.notebook_grammar.specs.declared.action.ScriptAction.{ScriptAction}
use Rattle.notebook_grammar.specs.declared.action.ScriptAction.TheVariants as act
use Rattle.notebook_grammar.specs.Shapes as shapes
use Rattle.expr_parse.specs.declared.piece.Piece.TheVariants as piece
use Rattle.dataset_types.specs.declared.column.Column.{Column}
use Rattle.script_parse.specs.declared.stmt.Stmt.{Stmt}
use Rattle.script_parse.specs.declared.script.Builder.{Builder}
use Rattle.script_parse.specs.declared.stmt.Stmt.TheVariants as stmt
use Rattle.script_parse.specs.declared.stmt.Target.TheVariants as target
use Rattle.script_parse.specs.declared.piece.LoopPart.{LoopPart}
use Rattle.script_parse.specs.declared.piece.LoopPart.TheVariants as over
use Rattle.script_parse.specs.declared.piece.ScriptPiece.{ScriptPiece}
use Rattle.script_parse.specs.declared.piece.ScriptPiece.TheVariants as part
use Rattle.expr_parse.specs.Pieces.{Stack, with_name, with_type, with_tree, with_list}

-- the pieces of a text that is a script
abbrev pub ScriptStack : Type 0
ScriptStack = Stack ScriptPiece

-- go on with the declared builders, and what is below; none where something else is on top
abbrev pub with_builders : ScriptStack → (List Builder → ScriptStack → Option ScriptStack) → Option ScriptStack
with_builders (piece.Other (part.Builders bs) ∷ st) go = go bs st
with_builders st go = None

-- so with the columns of a builder
abbrev pub with_definitions : ScriptStack → (List Column → ScriptStack → Option ScriptStack) → Option ScriptStack
with_definitions (piece.Other (part.Definitions cs) ∷ st) go = go cs st
with_definitions st go = None

-- so with the block
abbrev pub with_block : ScriptStack → (List Stmt → ScriptStack → Option ScriptStack) → Option ScriptStack
with_block (piece.Other (part.Block b) ∷ st) go = go b st
with_block st go = None

-- so with what a loop goes over
abbrev pub with_loop : ScriptStack → (LoopPart → ScriptStack → Option ScriptStack) → Option ScriptStack
with_loop (piece.Other (part.Loop l) ∷ st) go = go l st
with_loop st go = None

-- a piece of a script on top
abbrev pub put : ScriptPiece → ScriptStack → Option ScriptStack
put p st = Some (piece.Other p ∷ st)

-- one statement more, the last of the block on top
abbrev pub statement : Stmt → ScriptStack → Option ScriptStack
statement s st = with_block st (λ block st. put (part.Block (block ++ s ∷ [])) st)

-- a loop, by what it goes over
abbrev pub loop_over : List ℕ → LoopPart → List Stmt → Stmt
loop_over name (over.Range low high) body = stmt.ForRange name low high body
loop_over name (over.Rows dataset) body = stmt.ForRows name dataset body

-- what an action makes of the pieces on top; none where a piece is missing
abbrev pub did : ScriptAction → ScriptStack → Option ScriptStack
did act.BeginBuilders st = put (part.Builders []) st
did act.BeginBlock st = put (part.Block []) st
did act.Script st = with_block st (λ body st. with_builders st (λ builders st. put (part.Script (record { builders = builders; body = body })) st))
did act.BeginColumns st = put (part.Definitions []) st
did act.Builder st = with_definitions st (λ columns st. with_name st (λ name st. with_builders st (λ builders st.
    put (part.Builders (builders ++ record { name = name; columns = columns } ∷ [])) st)))
did act.Column st = with_type st (λ type st. with_name st (λ name st. with_definitions st (λ columns st.
    put (part.Definitions (columns ++ record { name = name; kind = type } ∷ [])) st)))
did act.Print st = with_tree st (λ e st. statement (stmt.Print e) st)
did act.While st = with_block st (λ body st. with_tree st (λ e st. statement (stmt.While e body) st))
did act.For st = with_block st (λ body st. with_loop st (λ l st. with_name st (λ name st. statement (loop_over name l body) st)))
did act.Emit st = with_list st (λ values st. with_name st (λ builder st. statement (stmt.Emit builder values) st))
did act.Write st = with_name st (λ dataset st. with_name st (λ builder st. statement (stmt.Write builder dataset) st))
did act.Drop st = with_name st (λ dataset st. statement (stmt.Drop dataset) st)
did act.Exists st = with_tree st (λ e st. with_name st (λ name st. statement (stmt.Exists name e) st))
did act.Rows st = with_tree st (λ e st. with_name st (λ name st. statement (stmt.Rows name e) st))
did act.Assign st = with_tree st (λ e st. with_name st (λ name st. statement (stmt.Assign name e) st))
did act.IfElse st = with_block st (λ other st. with_block st (λ block st. with_tree st (λ e st. statement (stmt.If e block (Some other)) st)))
did act.If st = with_block st (λ block st. with_tree st (λ e st. statement (stmt.If e block None) st))
did act.Range st = with_tree st (λ high st. with_tree st (λ low st. put (part.Loop (over.Range low high)) st))
did act.Named st = with_name st (λ name st. put (part.Loop (over.Rows (target.Literal name))) st)
did act.Computed st = with_tree st (λ e st. put (part.Loop (over.Rows (target.Computed e))) st)

-- the shape of a part of a script, as the grammar numbers them
abbrev pub shape : ScriptPiece → ℕ
shape (part.Builders bs) = shapes.builders
shape (part.Definitions cs) = shapes.definitions
shape (part.Block b) = shapes.block
shape (part.Loop l) = shapes.loop
shape (part.Script s) = shapes.script
