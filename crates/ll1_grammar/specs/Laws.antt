-- The theorems, each for every grammar or table over these types.
use Rattle.std.specs.Prelude.{◌≡◌, true, ◌≤◌, ◌<◌, ◌+◌, ℕ, List, [], ◌∷◌, ◌++◌, Option, Some, None, length, take, slice_get}
use Rattle.std.specs.List.{Contains}
use Rattle.ll1_grammar.specs.declared.symbol.Symbol.{Symbol}
use Rattle.ll1_grammar.specs.declared.symbol.Symbol.TheVariants.{Nonterminal, Action}
use Rattle.ll1_grammar.specs.declared.symbol.Step.{Step}
use Rattle.ll1_grammar.specs.declared.symbol.Step.TheVariants.{Took, Did}
use Rattle.ll1_grammar.specs.declared.item.Item.{Item}
use Rattle.ll1_grammar.specs.declared.item.Bounded.{Bounded}
use Rattle.ll1_grammar.specs.Grammar.{Grammar, Derives, IsUnambiguous, taken}
use Rattle.ll1_grammar.specs.Places.{BeginsSentence, NoSentenceGoesOn, IsErrorPlace}
use Rattle.ll1_grammar.specs.Table.{Table, entry, grammar_of}
use Rattle.ll1_grammar.specs.Test.{Hints, IsFine, lookahead}
use Rattle.ll1_grammar.specs.Short.{AreShort}
use Rattle.ll1_grammar.specs.Pieces.{Builder, Effects, RulesFlow, Part, IsClosed, KeepsShapes, BuildsOne}
use Rattle.ll1_grammar.specs.Reader.{chosen, Stops, IsAt}
use Rattle.ll1_grammar.specs.Ahead.{Lookahead, IsLL1, IsProductive}

-- one derivation a text
abbrev pub OneDerivation : Type 0 → Type 0 → Type 0 → Type 0
OneDerivation N T A = (g : Grammar N T A) (k : Lookahead N T) → IsLL1 g k → (n : N) → IsUnambiguous g n

-- the steps of a derivation take its text
abbrev pub StepsTakeTheText : Type 0 → Type 0 → Type 0 → Type 0
StepsTakeTheText N T A = (g : Grammar N T A) (s : List (Symbol N A)) (w : List T) (steps : List (Step T A)) → Derives g s w steps → taken steps ≡ w

-- what a derivation does up to a token depends on the tokens up to there alone
abbrev pub OneFront : Type 0 → Type 0 → Type 0 → Type 0
OneFront N T A = (g : Grammar N T A) (k : Lookahead N T) → IsLL1 g k
    → (n : N) (u v w : List T) (t : T) (front rest other : List (Step T A)) → taken front ≡ u
    → Derives g (Nonterminal n ∷ []) (u ++ t ∷ v) (front ++ Took t ∷ rest) → Derives g (Nonterminal n ∷ []) (u ++ t ∷ w) other
    → (more : List (Step T A)) × (other ≡ front ++ Took t ∷ more)

-- where a reader stops, a sentence begins so, and with the next token none does
abbrev pub StopsAreExact : Type 0 → Type 0 → Type 0 → Type 0
StopsAreExact N T A = (g : Grammar N T A) (k : Lookahead N T) → IsLL1 g k → IsProductive g
    → (n : N) (u : List T) (o : Option T) → Stops g (Nonterminal n ∷ []) u o
    → BeginsSentence g (Nonterminal n ∷ []) u × NoSentenceGoesOn g (Nonterminal n ∷ []) u o

-- two error places are one, and a sentence has none
pub record OnePlace (N T A : Type 0) : Type 0 where
  pub one : (g : Grammar N T A) (s : List (Symbol N A)) (tokens : List T) (a b : ℕ)
      → IsErrorPlace g s tokens a → IsErrorPlace g s tokens b → a ≡ b
  pub none : (g : Grammar N T A) (s : List (Symbol N A)) (tokens : List T) (steps : List (Step T A)) (a : ℕ)
      → Derives g s tokens steps → IsErrorPlace g s tokens a → ⊥

-- the turns of a reader, from the start to either end
pub record ReadersAreRight (N T A : Type 0) : Type 0 where
  pub starts : (g : Grammar N T A) (start : List (Symbol N A)) (tokens : List T) → IsAt g start tokens 0 start []
  pub does : (g : Grammar N T A) (start : List (Symbol N A)) (tokens : List T) (at : ℕ) (steps : List (Step T A))
      (a : A) (s : List (Symbol N A)) → IsAt g start tokens at (Action a ∷ s) steps → IsAt g start tokens at s (steps ++ Did a ∷ [])
  pub takes : (g : Grammar N T A) (start : List (Symbol N A)) (tokens : List T) (at : ℕ) (steps : List (Step T A))
      (n : N) (t : T) (r s : List (Symbol N A)) → slice_get tokens at ≡ Some t → g.after n t ≡ Some r
      → IsAt g start tokens at (Nonterminal n ∷ s) steps → IsAt g start tokens (at + 1) (r ++ s) (steps ++ Took t ∷ [])
  pub expands : (g : Grammar N T A) (start : List (Symbol N A)) (tokens : List T) (at : ℕ) (steps : List (Step T A))
      (n : N) (r s : List (Symbol N A)) → chosen g n (slice_get tokens at) ≡ None → g.otherwise n ≡ Some r
      → IsAt g start tokens at (Nonterminal n ∷ s) steps → IsAt g start tokens at (r ++ s) steps
  pub ends : (g : Grammar N T A) (start : List (Symbol N A)) (tokens : List T) (at : ℕ) (steps : List (Step T A))
      → length tokens ≤ at → IsAt g start tokens at [] steps → Derives g start tokens steps
  pub sticks : (g : Grammar N T A) (start : List (Symbol N A)) (tokens : List T) (at : ℕ) (steps : List (Step T A))
      (n : N) (s : List (Symbol N A)) → chosen g n (slice_get tokens at) ≡ None → g.otherwise n ≡ None
      → IsAt g start tokens at (Nonterminal n ∷ s) steps → Stops g start (take at tokens) (slice_get tokens at)
  pub passes : (g : Grammar N T A) (start : List (Symbol N A)) (tokens : List T) (at : ℕ) (steps : List (Step T A))
      → at < length tokens → IsAt g start tokens at [] steps → Stops g start (take at tokens) (slice_get tokens at)

-- a table that passes the test is LL(1), by its hints
abbrev pub TestDecides : Type 0 → Type 0 → Type 0 → Type 0
TestDecides R T A = (table : Table R A) (hints : Hints R) (kind : T → ℕ) → IsFine table hints
    → IsLL1 (grammar_of table kind) (lookahead hints kind)

-- in a table that passes the test no alternative hides another: each is the entry for its kind
abbrev pub AlternativesCount : Type 0 → Type 0 → Type 0
AlternativesCount R A = (table : Table R A) (hints : Hints R) → IsFine table hints → (r : R) (kind : ℕ) (items : List (Item R A))
    → Contains (table.alternatives r) (kind, items) → entry kind (table.alternatives r) ≡ Some items

-- a table with a short sentence for each rule is productive
abbrev pub ShortSentencesServe : Type 0 → Type 0 → Type 0 → Type 0
ShortSentencesServe R T A = (table : Table R A) (kind : T → ℕ) (n : ℕ) (short : R → List T) → AreShort table kind n short
    → IsProductive (grammar_of table kind)

-- a sentence of a rule of a closed part, which needs nothing and leaves one piece, builds that piece
abbrev pub SentencesHaveTrees : Type 0 → Type 0 → Type 0 → Type 0 → Type 0
SentencesHaveTrees R T A P = (table : Table R A) (kind : T → ℕ) (f : Effects R A) → RulesFlow table f
    → (part : Part R A) → IsClosed table part
    → (b : Builder T A P) (shape : P → ℕ) → KeepsShapes part b f kind shape
    → (n : Bounded R) (x : ℕ) → part.rules n.rule ≡ true → f.needs n.rule ≡ [] → f.leaves n.rule ≡ x ∷ []
    → (w : List T) (steps : List (Step T A)) → Derives (grammar_of table kind) (Nonterminal n ∷ []) w steps → BuildsOne b shape x steps
