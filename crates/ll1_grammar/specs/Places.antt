-- Where a text errs.
use Rattle.std.specs.Prelude.{◌≤◌, ℕ, List, ◌∷◌, ◌++◌, Option, Some, None, length, take, slice_get}
use Rattle.ll1_grammar.specs.declared.symbol.Symbol.{Symbol}
use Rattle.ll1_grammar.specs.declared.symbol.Step.{Step}
use Rattle.ll1_grammar.specs.Grammar.{Grammar, Derives}

-- some sentence begins with these tokens
abbrev pub BeginsSentence : {N T A : Type 0} → Grammar N T A → List (Symbol N A) → List T → Type 0
BeginsSentence {T = T} {A = A} g s u = (v : List T) × (steps : List (Step T A)) × Derives g s (u ++ v) steps

-- with the next token no sentence begins so; where there is no next, the tokens are no sentence
abbrev pub NoSentenceGoesOn : {N T A : Type 0} → Grammar N T A → List (Symbol N A) → List T → Option T → Type 0
NoSentenceGoesOn {T = T} {A = A} g s u None = (steps : List (Step T A)) → Derives g s u steps → ⊥
NoSentenceGoesOn {T = T} {A = A} g s u (Some t) = (v : List T) (steps : List (Step T A)) → Derives g s (u ++ t ∷ v) steps → ⊥

-- the place of the first token that no sentence goes on with, or the number of tokens
pub record IsErrorPlace {N T A : Type 0} (g : Grammar N T A) (s : List (Symbol N A)) (tokens : List T) (at : ℕ) : Type 0 where
  pub within : at ≤ length tokens
  pub before : BeginsSentence g s (take at tokens)
  pub here : NoSentenceGoesOn g s (take at tokens) (slice_get tokens at)
