-- The test of a table, which computes: whether one token ahead decides.
use Rattle.std.specs.Prelude.{◌≡◌, ℕ, ◌==◌, Bool, true, false, not, ◌||◌, ◌&&◌, if◌then◌else◌, List, [], ◌∷◌, ◌++◌, Option, Some, None}
use Rattle.ll1_grammar.specs.declared.item.Item.{Item}
use Rattle.ll1_grammar.specs.declared.item.Item.TheVariants.{Here, Inside, Do}
use Rattle.ll1_grammar.specs.declared.item.Bounded.{Bounded}
use Rattle.ll1_grammar.specs.Table.{Table}
use Rattle.ll1_grammar.specs.Ahead.{Lookahead}

-- FIRST, nullable and FOLLOW of each rule, as the author of the table claims them
pub record Hints (R : Type 0) : Type 0 where
  pub firsts : R → List ℕ
  pub nullable : R → Bool
  pub follows : R → List ℕ

-- whether the kind is in the list
abbrev pub member : ℕ → List ℕ → Bool
member k [] = false
member k (x ∷ xs) = k == x || member k xs

-- whether each kind of the first list is in the second
abbrev pub within : List ℕ → List ℕ → Bool
within [] b = true
within (x ∷ a) b = member x b && within a b

-- whether no kind is in both
abbrev pub disjoint : List ℕ → List ℕ → Bool
disjoint [] b = true
disjoint (x ∷ a) b = not (member x b) && disjoint a b

-- whether no kind is there twice
abbrev pub distinct : List ℕ → Bool
distinct [] = true
distinct (x ∷ xs) = not (member x xs) && distinct xs

-- whether a sentence of the items may be empty
abbrev pub may_vanish : {R A : Type 0} → Hints R → List (Item R A) → Bool
may_vanish h [] = true
may_vanish h (Here r ∷ s) = h.nullable r && may_vanish h s
may_vanish h (Inside r ∷ s) = h.nullable r && may_vanish h s
may_vanish h (Do a ∷ s) = may_vanish h s

-- the kinds that a sentence of the items may begin with
abbrev pub starts : {R A : Type 0} → Hints R → List (Item R A) → List ℕ
starts h [] = []
starts h (Here r ∷ s) = h.firsts r ++ (if h.nullable r then starts h s else [])
starts h (Inside r ∷ s) = h.firsts r ++ (if h.nullable r then starts h s else [])
starts h (Do a ∷ s) = starts h s

-- the kinds that may come next, before these items at the end of the rule r
abbrev pub next_kinds : {R A : Type 0} → Hints R → R → List (Item R A) → List ℕ
next_kinds h r s = starts h s ++ (if may_vanish h s then h.follows r else [])

-- whether FOLLOW of each part has what comes next there
abbrev pub follows_fine : {R A : Type 0} → Hints R → R → List (Item R A) → Bool
follows_fine h r [] = true
follows_fine h r (Here m ∷ s) = within (next_kinds h r s) (h.follows m) && follows_fine h r s
follows_fine h r (Inside m ∷ s) = within (next_kinds h r s) (h.follows m) && follows_fine h r s
follows_fine h r (Do a ∷ s) = follows_fine h r s

-- each alternative's kind is in FIRST, and FOLLOW is fine along it
abbrev pub alternatives_fine : {R A : Type 0} → Hints R → R → List (ℕ × List (Item R A)) → Bool
alternatives_fine h r [] = true
alternatives_fine h r (p ∷ ps) = member p.0 (h.firsts r) && follows_fine h r p.1 && alternatives_fine h r ps

-- the kinds that have an entry
abbrev pub kinds_of : {B : Type 0} → List (ℕ × B) → List ℕ
kinds_of [] = []
kinds_of (p ∷ ps) = p.0 ∷ kinds_of ps

-- FIRST and nullable have the other side, FOLLOW is fine along it, and no kind leads both ways
abbrev pub otherwise_fine : {R A : Type 0} → Hints R → R → List ℕ → Option (List (Item R A)) → Bool
otherwise_fine h r taken None = true
otherwise_fine h r taken (Some d) =
    within (starts h d) (h.firsts r) && ((not (may_vanish h d) || h.nullable r) && (follows_fine h r d && disjoint taken (next_kinds h r d)))

-- the test of one rule, which has one alternative a kind
abbrev pub rule_fine : {R A : Type 0} → Table R A → Hints R → R → Bool
rule_fine table h r =
    distinct (kinds_of (table.alternatives r))
    && (alternatives_fine h r (table.alternatives r) && otherwise_fine h r (kinds_of (table.alternatives r)) (table.otherwise r))

-- each rule passes
abbrev pub IsFine : {R A : Type 0} → Table R A → Hints R → Type 0
IsFine {R = R} table h = (r : R) → rule_fine table h r ≡ true

-- the hints, as sets of tokens
abbrev pub lookahead : {R T : Type 0} → Hints R → (T → ℕ) → Lookahead (Bounded R) T
lookahead h kind = record {
  first = λ n t. member (kind t) (h.firsts n.rule);
  nullable = λ n. h.nullable n.rule;
  follow = λ n t. member (kind t) (h.follows n.rule);
}
