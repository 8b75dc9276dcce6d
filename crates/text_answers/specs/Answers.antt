-- The expression, or the SELECT, that a text is: the one answer that the grammar gives it. That it gives one is proved below
-- (each text has steps or errs at a place, and steps have a tree), and the answer is taken from there.
use Rattle.std.specs.Prelude.{ℕ, List, Ok, Err}
use Rattle.std.proofs.Common.{inl, inr}
use Rattle.notebook_grammar.specs.declared.start.Start.{Start}
use Rattle.notebook_grammar.specs.declared.start.Start.TheVariants as start
use Rattle.text_steps.specs.Laws.{IsRead}
use Rattle.text_steps.proofs.EachText.{each_text_is_read}
use Rattle.cell_errors.specs.declared.fault.CellError.TheVariants as error
use Rattle.cell_errors.specs.Answers.{Answer}
use Rattle.expr_lang.specs.declared.expr.Expr.{Expr}
use Rattle.expr_parse.specs.Trees as expr
use Rattle.expr_parse.proofs.Built as expr_built
use Rattle.sql_parse.specs.declared.select.Select.{Select}
use Rattle.sql_parse.specs.Trees as select
use Rattle.sql_parse.proofs.Built as select_built
use Rattle.text_answers.specs.ByGrammar.{HasAnswer, StepsHaveTree}

-- the answer by how the text is read
abbrev pub answered : {A : Type 0} (start : Start) (IsTree : List ℕ → A → Type 0) (text : List ℕ)
    → StepsHaveTree start IsTree text → IsRead start text → HasAnswer start IsTree text
answered start IsTree text tree (inl s) = (Ok (tree s.0 s.1).0, (tree s.0 s.1).1)
answered start IsTree text tree (inr place) = (Err (error.Syntax place.0), place.1)

-- steps of an expression have a tree
abbrev pub expr_trees : (text : List ℕ) → StepsHaveTree start.Expression expr.IsTreeOf text
expr_trees text steps are = ((expr_built.trees text steps are).0, (steps, are, (expr_built.trees text steps are).1))

-- steps of a SELECT have a tree
abbrev pub select_trees : (text : List ℕ) → StepsHaveTree start.Select select.IsTreeOf text
select_trees text steps are = ((select_built.trees text steps are).0, (steps, are, (select_built.trees text steps are).1))

-- the expression that a text is, or the error at the place where it errs
unfoldable pub expr_of : List ℕ → Answer Expr
expr_of text = (answered start.Expression expr.IsTreeOf text (expr_trees text) (each_text_is_read start.Expression text)).0

-- the SELECT that a text is, or the error at the place where it errs
unfoldable pub select_of : List ℕ → Answer Select
select_of text = (answered start.Select select.IsTreeOf text (select_trees text) (each_text_is_read start.Select text)).0
