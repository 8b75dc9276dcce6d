-- What the grammar says that a text is.
use Rattle.std.specs.Prelude.{ℕ, List, Ok, Err}
use Rattle.notebook_grammar.specs.declared.fault.ParseFault.TheVariants.{Syntax}
use Rattle.notebook_grammar.specs.declared.start.Start.{Start}
use Rattle.notebook_grammar.specs.Language.{Steps}
use Rattle.notebook_grammar.specs.Texts.{AreSteps, IsRefused}
use Rattle.cell_errors.specs.declared.fault.CellError.{CellError}
use Rattle.cell_errors.specs.declared.fault.CellError.TheVariants as error
use Rattle.cell_errors.specs.Answers.{Answer}

-- the text errs, and this is the place
abbrev pub IsErrorOf : Start → List ℕ → CellError → Type 0
IsErrorOf start text (error.Syntax at) = IsRefused start text (Syntax at)
IsErrorOf start text e = ⊥

-- the tree of the text, or the error at the place where it errs; `IsTree` says which tree a text has
abbrev pub IsAnswerOf : {A : Type 0} → Start → (List ℕ → A → Type 0) → List ℕ → Answer A → Type 0
IsAnswerOf start IsTree text (Ok tree) = IsTree text tree
IsAnswerOf start IsTree text (Err e) = IsErrorOf start text e

-- the text has an answer
abbrev pub HasAnswer : {A : Type 0} → Start → (List ℕ → A → Type 0) → List ℕ → Type 0
HasAnswer {A = A} start IsTree text = (answer : Answer A) × IsAnswerOf start IsTree text answer

-- the text has a tree wherever it has steps
abbrev pub StepsHaveTree : {A : Type 0} → Start → (List ℕ → A → Type 0) → List ℕ → Type 0
StepsHaveTree {A = A} start IsTree text = (steps : Steps) → AreSteps start text steps → (tree : A) × IsTree text tree
