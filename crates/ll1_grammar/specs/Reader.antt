-- A reader that looks at one token, and how far it comes.
use Rattle.std.specs.Prelude.{◌≡◌, ◌≤◌, ℕ, List, [], ◌∷◌, ◌++◌, Option, Some, None, length, take, slice_get}
use Rattle.ll1_grammar.specs.declared.symbol.Symbol.{Symbol}
use Rattle.ll1_grammar.specs.declared.symbol.Symbol.TheVariants.{Nonterminal, Action}
use Rattle.ll1_grammar.specs.declared.symbol.Step.{Step}
use Rattle.ll1_grammar.specs.Grammar.{Grammar, Derives, taken}

-- the next token, where these tokens come before that one
abbrev pub look : {T : Type 0} → List T → Option T → Option T
look [] o = o
look (t ∷ w) o = Some t

-- the right-hand side that the next token begins
abbrev pub chosen : {N T A : Type 0} → Grammar N T A → N → Option T → Option (List (Symbol N A))
chosen g n None = None
chosen g n (Some t) = g.after n t

-- the reader takes these tokens and stops at the next one, or at the end
pub data Stops {N T A : Type 0} (g : Grammar N T A) : List (Symbol N A) → List T → Option T → Type 0 where
  -- nothing is to come, and a token is left
  past : {t : T} → Stops g [] [] (Some t)
  -- no right-hand side is there
  stuck : {n : N} {s : List (Symbol N A)} {o : Option T} → chosen g n o ≡ None → g.otherwise n ≡ None → Stops g (Nonterminal n ∷ s) [] o
  skips : {a : A} {s : List (Symbol N A)} {u : List T} {o : Option T} → Stops g s u o → Stops g (Action a ∷ s) u o
  reads : {n : N} {t : T} {r s : List (Symbol N A)} {u : List T} {o : Option T}
      → g.after n t ≡ Some r → Stops g (r ++ s) u o → Stops g (Nonterminal n ∷ s) (t ∷ u) o
  moves : {n : N} {r s : List (Symbol N A)} {u : List T} {o : Option T}
      → chosen g n (look u o) ≡ None → g.otherwise n ≡ Some r → Stops g (r ++ s) u o → Stops g (Nonterminal n ∷ s) u o

-- a reader of the symbols `start` has taken `at` tokens in these steps, and `rest` is to come:
-- whatever becomes of the rest becomes of the whole
pub record IsAt {N T A : Type 0} (g : Grammar N T A) (start : List (Symbol N A)) (tokens : List T) (at : ℕ)
    (rest : List (Symbol N A)) (steps : List (Step T A)) : Type 0 where
  pub within : at ≤ length tokens
  pub took : taken steps ≡ take at tokens
  pub derives : (w : List T) (more : List (Step T A)) → Derives g rest w more → Derives g start (take at tokens ++ w) (steps ++ more)
  pub stops : (v : List T) (o : Option T) → look v o ≡ slice_get tokens at → Stops g rest v o → Stops g start (take at tokens ++ v) o
