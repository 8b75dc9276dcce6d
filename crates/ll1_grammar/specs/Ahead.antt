-- When one token ahead decides.
use Rattle.std.specs.Prelude.{◌≡◌, Bool, true, false, ◌||◌, ◌&&◌, List, [], ◌∷◌, Some}
use Rattle.ll1_grammar.specs.declared.symbol.Symbol.{Symbol}
use Rattle.ll1_grammar.specs.declared.symbol.Symbol.TheVariants.{Nonterminal, Action}
use Rattle.ll1_grammar.specs.declared.symbol.Step.{Step}
use Rattle.ll1_grammar.specs.Grammar.{Grammar, Derives}

-- the tokens that a sentence may begin with, whether it may be empty, and the tokens that may follow it
pub record Lookahead (N T : Type 0) : Type 0 where
  pub first : N → T → Bool
  pub nullable : N → Bool
  pub follow : N → T → Bool

-- whether a sentence of the symbols may begin with the token
abbrev pub begins : {N T A : Type 0} → Lookahead N T → List (Symbol N A) → T → Bool
begins k [] t = false
begins k (Action a ∷ s) t = begins k s t
begins k (Nonterminal n ∷ s) t = k.first n t || (k.nullable n && begins k s t)

-- whether a sentence of the symbols may be empty
abbrev pub vanishes : {N T A : Type 0} → Lookahead N T → List (Symbol N A) → Bool
vanishes k [] = true
vanishes k (Action a ∷ s) = vanishes k s
vanishes k (Nonterminal n ∷ s) = k.nullable n && vanishes k s

-- what comes after each part of a right-hand side of n may follow it
abbrev pub IsFollowed : {N T A : Type 0} → Lookahead N T → N → List (Symbol N A) → Type 0
IsFollowed k n [] = Unit {0}
IsFollowed k n (Action a ∷ s) = IsFollowed k n s
IsFollowed {T = T} k n (Nonterminal m ∷ s) =
    ((t : T) → begins k s t || (vanishes k s && k.follow n t) ≡ true → k.follow m t ≡ true) × IsFollowed k n s

-- the sets are closed under the grammar, and no token begins or follows both of a nonterminal's sides
pub record IsLL1 {N T A : Type 0} (g : Grammar N T A) (k : Lookahead N T) : Type 0 where
  pub first_after : (n : N) (t : T) (r : List (Symbol N A)) → g.after n t ≡ Some r → k.first n t ≡ true
  pub first_otherwise : (n : N) (t : T) (r : List (Symbol N A)) → g.otherwise n ≡ Some r → begins k r t ≡ true → k.first n t ≡ true
  pub nullable_otherwise : (n : N) (r : List (Symbol N A)) → g.otherwise n ≡ Some r → vanishes k r ≡ true → k.nullable n ≡ true
  pub followed_after : (n : N) (t : T) (r : List (Symbol N A)) → g.after n t ≡ Some r → IsFollowed k n r
  pub followed_otherwise : (n : N) (r : List (Symbol N A)) → g.otherwise n ≡ Some r → IsFollowed k n r
  pub apart : (n : N) (t : T) (r d : List (Symbol N A)) → g.after n t ≡ Some r → g.otherwise n ≡ Some d
      → begins k d t || (vanishes k d && k.follow n t) ≡ false

-- a sentence of each nonterminal, with its derivation
pub record IsProductive {N T A : Type 0} (g : Grammar N T A) : Type 0 where
  pub word : N → List T
  pub path : N → List (Step T A)
  pub has : (n : N) → Derives g (Nonterminal n ∷ []) (word n) (path n)
