-- That each text has one answer.
use Rattle.std.specs.Prelude.{◌≡◌, ◌↔◌, ℕ, List}
use Rattle.notebook_grammar.specs.declared.start.Start.{Start}
use Rattle.notebook_grammar.specs.declared.start.Start.TheVariants as start
use Rattle.cell_errors.specs.Answers.{Answer}
use Rattle.expr_parse.specs.Trees as expr
use Rattle.sql_parse.specs.Trees as select
use Rattle.text_answers.specs.ByGrammar.{IsAnswerOf}
use Rattle.text_answers.specs.Answers.{expr_of, select_of}

-- the answer of each text is what the grammar says that it is, and nothing else is
abbrev pub IsTheAnswer : {A : Type 0} → Start → (List ℕ → A → Type 0) → (List ℕ → Answer A) → Type 0
IsTheAnswer {A = A} start IsTree answer = (text : List ℕ) (a : Answer A) → IsAnswerOf start IsTree text a ↔ (answer text ≡ a)

-- each text has the expression that the grammar gives it
abbrev pub ExpressionsAreThose : Type 0
ExpressionsAreThose = IsTheAnswer start.Expression expr.IsTreeOf expr_of

-- each text has the SELECT that the grammar gives it
abbrev pub SelectsAreThose : Type 0
SelectsAreThose = IsTheAnswer start.Select select.IsTreeOf select_of
