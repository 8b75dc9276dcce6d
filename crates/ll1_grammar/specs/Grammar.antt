-- Grammars, and the derivations of their sentences.
use Rattle.std.specs.Prelude.{◌≡◌, List, [], ◌∷◌, ◌++◌, Option, Some}
use Rattle.ll1_grammar.specs.declared.symbol.Symbol.{Symbol}
use Rattle.ll1_grammar.specs.declared.symbol.Symbol.TheVariants.{Nonterminal, Action}
use Rattle.ll1_grammar.specs.declared.symbol.Step.{Step}
use Rattle.ll1_grammar.specs.declared.symbol.Step.TheVariants.{Took, Did}

-- a right-hand side begins with a token, or is the one other of its nonterminal
pub record Grammar (N T A : Type 0) : Type 0 where
  -- what comes after this token, in the right-hand side that begins with it
  pub after : N → T → Option (List (Symbol N A))
  -- the right-hand side that begins with no token of its own
  pub otherwise : N → Option (List (Symbol N A))

-- the tokens are a sentence of the symbols, and the steps are those of a leftmost derivation
pub data Derives {N T A : Type 0} (g : Grammar N T A) : List (Symbol N A) → List T → List (Step T A) → Type 0 where
  ends : Derives g [] [] []
  acts : {a : A} {s : List (Symbol N A)} {w : List T} {steps : List (Step T A)}
      → Derives g s w steps → Derives g (Action a ∷ s) w (Did a ∷ steps)
  takes : {n : N} {t : T} {r s : List (Symbol N A)} {w : List T} {steps : List (Step T A)}
      → g.after n t ≡ Some r → Derives g (r ++ s) w steps → Derives g (Nonterminal n ∷ s) (t ∷ w) (Took t ∷ steps)
  expands : {n : N} {r s : List (Symbol N A)} {w : List T} {steps : List (Step T A)}
      → g.otherwise n ≡ Some r → Derives g (r ++ s) w steps → Derives g (Nonterminal n ∷ s) w steps

-- the tokens that the steps take
abbrev pub taken : {T A : Type 0} → List (Step T A) → List T
taken [] = []
taken (Took t ∷ steps) = t ∷ taken steps
taken (Did a ∷ steps) = taken steps

-- each text of the nonterminal has one derivation
abbrev pub IsUnambiguous : {N T A : Type 0} → Grammar N T A → N → Type 0
IsUnambiguous {T = T} {A = A} g n = (w : List T) (a b : List (Step T A))
    → Derives g (Nonterminal n ∷ []) w a → Derives g (Nonterminal n ∷ []) w b → a ≡ b
