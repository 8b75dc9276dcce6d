-- A worked example: sums of ones in parentheses, as `1 + (1 + 1)`. Tokens are their own kinds.
use Rattle.std.proofs.Common.{◌≡◌, ℕ, Bool, true, false, List, [], ◌∷◌, ◌++◌, Option, Some, None, refl, ap, map}
use Rattle.ll1_grammar.specs.declared.symbol.Symbol.{Symbol}
use Rattle.ll1_grammar.specs.declared.symbol.Symbol.TheVariants.{Nonterminal}
use Rattle.ll1_grammar.specs.declared.symbol.Step.{Step}
use Rattle.ll1_grammar.specs.declared.symbol.Step.TheVariants.{Took, Did}
use Rattle.ll1_grammar.specs.declared.item.Item.{Item}
use Rattle.ll1_grammar.specs.declared.item.Item.TheVariants.{Here, Inside, Do}
use Rattle.ll1_grammar.specs.declared.item.Bounded.{Bounded}
use Rattle.ll1_grammar.specs.Grammar.{Grammar, Derives, ends, acts, takes, expands}
use Rattle.ll1_grammar.specs.Places.{BeginsSentence, NoSentenceGoesOn}
use Rattle.ll1_grammar.specs.Table.{Table, grammar_of, where_it_fits}
use Rattle.ll1_grammar.specs.Test.{Hints, rule_fine, IsFine, lookahead}
use Rattle.ll1_grammar.specs.Short.{AreShort}
use Rattle.ll1_grammar.specs.Pieces.{Builder, built, Effects, flow, RulesFlow, Part, IsClosed, BuildsOne}
use Rattle.ll1_grammar.specs.Reader.{Stops, stuck, skips, reads as takes_up, moves}
use Rattle.ll1_grammar.proofs.OneAhead.{place_is_exact}
use Rattle.ll1_grammar.proofs.Tested.{is_ll1}
use Rattle.ll1_grammar.proofs.ShortOnes.{is_productive}
use Rattle.ll1_grammar.proofs.OnePiece.{one_piece}

data Rule : Type 0 where
  Sum : Rule
  More : Rule
  Atom : Rule
  Close : Rule

data Act : Type 0 where
  One : Act
  Add : Act

-- the tokens: 1 + ( )
abbrev one : ℕ
one = 0

abbrev plus : ℕ
plus = 1

abbrev open_mark : ℕ
open_mark = 2

abbrev close_mark : ℕ
close_mark = 3

abbrev kind : ℕ → ℕ
kind t = t

-- sum := atom more      more := + atom more | nothing      atom := 1 | ( sum )
abbrev alternatives : Rule → List (ℕ × List (Item Rule Act))
alternatives Sum = []
alternatives More = (plus, Here Atom ∷ Do Add ∷ Here More ∷ []) ∷ []
alternatives Atom = (one, Do One ∷ []) ∷ (open_mark, Inside Sum ∷ Here Close ∷ []) ∷ []
alternatives Close = (close_mark, []) ∷ []

abbrev otherwise : Rule → Option (List (Item Rule Act))
otherwise Sum = Some (Here Atom ∷ Here More ∷ [])
otherwise More = Some []
otherwise Atom = None
otherwise Close = None

abbrev table : Table Rule Act
table = record { alternatives = alternatives; otherwise = otherwise }

abbrev sums : Grammar (Bounded Rule) ℕ Act
sums = grammar_of table kind

-- the start, with this many levels of parentheses
abbrev start : ℕ → List (Symbol (Bounded Rule) Act)
start room = Nonterminal (record { rule = Sum; room = room }) ∷ []

-- ---- a derivation: 1 + 1

steps : List (Step ℕ Act)
steps = Took one ∷ Did One ∷ Took plus ∷ Took one ∷ Did One ∷ Did Add ∷ []

a_sum : Derives sums (start 0) (one ∷ plus ∷ one ∷ []) steps
unfolding steps
a_sum = expands refl (takes refl (acts (takes refl (takes refl (acts (acts (expands refl ends)))))))

-- where no level is left, a parenthesis is no alternative
no_room : where_it_fits 0 (Some (Inside Sum ∷ Here Close ∷ [])) ≡ (let o : Option (List (Symbol (Bounded Rule) Act)) = None in o)
no_room = refl

-- ---- the test

abbrev firsts : Rule → List ℕ
firsts Sum = one ∷ open_mark ∷ []
firsts More = plus ∷ []
firsts Atom = one ∷ open_mark ∷ []
firsts Close = close_mark ∷ []

abbrev nullable : Rule → Bool
nullable More = true
nullable r = false

abbrev follows : Rule → List ℕ
follows Sum = close_mark ∷ []
follows More = close_mark ∷ []
follows Atom = plus ∷ close_mark ∷ []
follows Close = plus ∷ close_mark ∷ []

abbrev hints : Hints Rule
hints = record { firsts = firsts; nullable = nullable; follows = follows }

fine : IsFine table hints
fine Sum = refl
fine More = refl
fine Atom = refl
fine Close = refl

-- a FOLLOW that forgets the `)` doesn't pass
forgetful : rule_fine table (record { firsts = firsts; nullable = nullable; follows = λ r. [] }) Atom ≡ false
forgetful = refl

-- nor does a tail that may begin with what may also follow it, as `else` after two `if`
torn : rule_fine (record { alternatives = alternatives; otherwise = λ r. Some (Here More ∷ Here More ∷ []) }) hints More ≡ false
torn = refl

-- nor two alternatives that begin with one token, of which the second is never taken
twice : rule_fine (record { alternatives = λ r. (one, Do One ∷ []) ∷ (one, []) ∷ []; otherwise = λ r. None }) hints Atom ≡ false
twice = refl

-- nor a rule that begins with itself and has no other way
abbrev left : Table Rule Act
left = record { alternatives = λ r. (one, Do One ∷ []) ∷ []; otherwise = λ r. Some (Here r ∷ Here Close ∷ []) }

left_recursive : rule_fine left hints Sum ≡ false
left_recursive = refl

-- ---- a short sentence of each rule

short : Rule → List ℕ
short Sum = one ∷ []
short More = []
short Atom = one ∷ []
short Close = close_mark ∷ []

found : AreShort table kind 8 short
unfolding short
found Sum = refl
found More = refl
found Atom = refl
found Close = refl

-- ---- an error place: 1 + )

stopped : Stops sums (start 0) (one ∷ plus ∷ []) (Some close_mark)
stopped = moves refl refl (takes_up refl (skips (takes_up refl (stuck refl refl))))

-- `1 +` begins a sum, and `1 + )` doesn't
third_token : BeginsSentence sums (start 0) (one ∷ plus ∷ []) × NoSentenceGoesOn sums (start 0) (one ∷ plus ∷ []) (Some close_mark)
third_token = place_is_exact sums (lookahead hints kind) (is_ll1 table hints kind fine) (is_productive table kind 8 short found) _ _ _ stopped

-- ---- trees

data Tree : Type 0 where
  Leaf : Tree
  Node : Tree → Tree → Tree

abbrev did : Act → List Tree → Option (List Tree)
did One st = Some (Leaf ∷ st)
did Add (b ∷ a ∷ st) = Some (Node a b ∷ st)
did Add st = None

abbrev builder : Builder ℕ Act Tree
builder = record { took = λ t st. st; did = did }

tree : built builder steps [] ≡ Some (Node Leaf Leaf ∷ [])
unfolding steps
tree = refl

-- a rule leaves a tree, a tail needs one more; 0 is the shape of a tree
abbrev needs : Rule → List ℕ
needs More = 0 ∷ []
needs r = []

abbrev leaves : Rule → List ℕ
leaves Close = []
leaves r = 0 ∷ []

abbrev pops : Act → List ℕ
pops One = []
pops Add = 0 ∷ 0 ∷ []

abbrev effects : Effects Rule Act
effects = record { needs = needs; leaves = leaves; pops = pops; pushes = λ a. 0 ∷ []; token = λ k. [] }

flows : RulesFlow table effects
flows Sum = (tt, refl)
flows More = ((refl, tt), refl)
flows Atom = ((refl, (refl, tt)), tt)
flows Close = ((refl, tt), tt)

-- an action before its pieces lacks one
too_early : flow effects (Do Add ∷ Here Atom ∷ []) (0 ∷ []) ≡ None
too_early = refl

-- the part that is the whole
abbrev everything : Part Rule Act
everything = record { rules = λ r. true; actions = λ a. true }

closed : IsClosed table everything
closed Sum e = refl
closed More e = refl
closed Atom e = refl
closed Close e = refl

did_fine : (a : Act) (st : List Tree) (rest : List ℕ) → map (λ (t : Tree). 0) st ≡ pops a ++ rest
    → (after : List Tree) × (did a st ≡ Some after) × (map (λ (t : Tree). 0) after ≡ 0 ∷ rest)
did_fine One st rest e = (Leaf ∷ st, refl, ap (λ l. 0 ∷ l) e)
did_fine Add [] rest e = cc
did_fine Add (b ∷ []) rest e = cc
did_fine Add (b ∷ a ∷ st) rest e = (Node a b ∷ st, refl, cc)

-- each sum, however deep, has a tree
each_sum_has_a_tree : (room : ℕ) (w : List ℕ) (made : List (Step ℕ Act)) → Derives sums (start room) w made → BuildsOne builder (λ t. 0) 0 made
each_sum_has_a_tree room w made d =
    one_piece table kind effects flows everything closed builder (λ t. 0) (record { took = λ t st. refl; did = λ a of st rest e. did_fine a st rest e }) _ 0 w made refl refl refl d
