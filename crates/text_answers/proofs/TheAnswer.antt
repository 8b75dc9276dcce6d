-- A text has one answer.
use Rattle.std.proofs.Common.{◌≡◌, ℕ, List, [], Ok, Err, sym, ap, ◌∙◌, subst}
use Rattle.ll1_grammar.specs.Pieces.{built}
use Rattle.notebook_grammar.specs.declared.start.Start.{Start}
use Rattle.notebook_grammar.specs.declared.start.Start.TheVariants as start
use Rattle.notebook_grammar.specs.Language.{Steps}
use Rattle.notebook_grammar.specs.declared.fault.ParseFault.{ParseFault}
use Rattle.notebook_grammar.specs.declared.fault.ParseFault.TheVariants as parse
use Rattle.notebook_grammar.specs.Texts.{AreSteps, IsRefused}
use Rattle.notebook_grammar.proofs.OneAnswer.{one_answer}
use Rattle.cell_errors.specs.declared.fault.CellError.{CellError}
use Rattle.cell_errors.specs.declared.fault.CellError.TheVariants as error
use Rattle.cell_errors.specs.Answers.{Answer, Fails}
use Rattle.expr_lang.specs.declared.expr.Expr.{Expr}
use Rattle.expr_parse.specs.Trees as expr
use Rattle.sql_parse.specs.declared.select.Select.{Select}
use Rattle.sql_parse.specs.Trees as select
use Rattle.text_answers.specs.ByGrammar.{IsErrorOf, IsAnswerOf}
use Rattle.text_answers.specs.Answers.{answered, expr_trees, select_trees, expr_of, select_of}
use Rattle.text_answers.specs.Faults.{fault_of}
use Rattle.text_answers.specs.Laws.{ExpressionsAreThose, SelectsAreThose}
use Rattle.text_steps.proofs.EachText.{each_text_is_read}

same_error : (start : Start) (text : List ℕ) (a b : CellError) → IsErrorOf start text a → IsErrorOf start text b → a ≡ b
same_error start text (error.Syntax i) (error.Syntax j) p q = ap (λ n. error.Syntax n) (one_answer.place start text i j p q)
same_error start text (error.Syntax i) b p q = absurd q
same_error start text a b p q = absurd p

no_error : (start : Start) (text : List ℕ) (steps : Steps) (e : CellError) → AreSteps start text steps → IsErrorOf start text e → ⊥
no_error start text steps (error.Syntax at) are q = one_answer.apart start text steps at are q
no_error start text steps e are q = q

-- two answers are one, where two trees are and a text with a tree has steps
module _ {A : Type 0} (start : Start) (IsTree : List ℕ → A → Type 0) (text : List ℕ) (steps_of : (a : A) → IsTree text a → (steps : Steps) × AreSteps start text steps) (same : (a b : A) → IsTree text a → IsTree text b → a ≡ b) where
  one : (a b : Answer A) → IsAnswerOf start IsTree text a → IsAnswerOf start IsTree text b → a ≡ b
  one (Ok a) (Ok b) p q = ap (λ x. Ok x) (same a b p q)
  one (Ok a) (Err e) p q = let s = steps_of a p in absurd (no_error start text s.0 e s.1 q)
  one (Err e) (Ok b) p q = let s = steps_of b q in absurd (no_error start text s.0 e s.1 p)
  one (Err e) (Err f) p q = ap (λ x. Err x) (same_error start text e f p q)

same_expr : (text : List ℕ) (a b : Expr) → expr.IsTreeOf text a → expr.IsTreeOf text b → a ≡ b
same_expr text a b p q =
    let steps : p.0 ≡ q.0 = one_answer.steps start.Expression text p.0 q.0 p.1 q.1 in
    let made = sym p.2 ∙ ap (λ s. built (expr.builder text) s []) steps ∙ q.2 in
    cc

same_select : (text : List ℕ) (a b : Select) → select.IsTreeOf text a → select.IsTreeOf text b → a ≡ b
same_select text a b p q =
    let steps : p.0 ≡ q.0 = one_answer.steps start.Select text p.0 q.0 p.1 q.1 in
    let made = sym p.2 ∙ ap (λ s. built (select.builder text) s []) steps ∙ q.2 in
    cc

-- the answer is what the grammar says
pub expr_has : (text : List ℕ) → IsAnswerOf start.Expression expr.IsTreeOf text (expr_of text)
unfolding expr_of
expr_has text = (answered start.Expression expr.IsTreeOf text (expr_trees text) (each_text_is_read start.Expression text)).1

pub select_has : (text : List ℕ) → IsAnswerOf start.Select select.IsTreeOf text (select_of text)
unfolding select_of
select_has text = (answered start.Select select.IsTreeOf text (select_trees text) (each_text_is_read start.Select text)).1

-- and what the grammar says is the answer
pub expr_is : (text : List ℕ) (a : Answer Expr) → IsAnswerOf start.Expression expr.IsTreeOf text a → expr_of text ≡ a
expr_is text a h = one start.Expression expr.IsTreeOf text (λ e p. (p.0, p.1)) (same_expr text) (expr_of text) a (expr_has text) h

pub select_is : (text : List ℕ) (a : Answer Select) → IsAnswerOf start.Select select.IsTreeOf text a → select_of text ≡ a
select_is text a h = one start.Select select.IsTreeOf text (λ e p. (p.0, p.1)) (same_select text) (select_of text) a (select_has text) h

-- a call that answers the fault of the grammar fails as it should
pub expr_fails : (text : List ℕ) (f : ParseFault) → IsRefused start.Expression text f → Fails (fault_of f) (expr_of text)
expr_fails text (parse.Syntax at) h = expr_is text (Err (error.Syntax at)) h
expr_fails text parse.NoMemory h = tt

pub select_fails : (text : List ℕ) (f : ParseFault) → IsRefused start.Select text f → Fails (fault_of f) (select_of text)
select_fails text (parse.Syntax at) h = select_is text (Err (error.Syntax at)) h
select_fails text parse.NoMemory h = tt

pub expressions_are_those : ExpressionsAreThose
expressions_are_those text a = (expr_is text a, λ e. subst (λ x. IsAnswerOf start.Expression expr.IsTreeOf text x) e (expr_has text))

pub selects_are_those : SelectsAreThose
selects_are_those text a = (select_is text a, λ e. subst (λ x. IsAnswerOf start.Select select.IsTreeOf text x) e (select_has text))
