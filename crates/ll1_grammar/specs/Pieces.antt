-- Trees from postfix actions: a stack of pieces, and what a rule does to it.
use Rattle.std.specs.Prelude.{◌≡◌, ℕ, ◌==◌, Bool, true, ◌&&◌, if◌then◌else◌, List, [], ◌∷◌, ◌++◌, Option, Some, None, map}
use Rattle.ll1_grammar.specs.declared.item.Item.{Item}
use Rattle.ll1_grammar.specs.declared.item.Item.TheVariants.{Here, Inside, Do}
use Rattle.ll1_grammar.specs.declared.symbol.Step.{Step}
use Rattle.ll1_grammar.specs.declared.symbol.Step.TheVariants.{Took, Did}
use Rattle.ll1_grammar.specs.Table.{Table}

-- what a token and an action do to the pieces, of which the topmost comes first
pub record Builder (T A P : Type 0) : Type 0 where
  pub took : T → List P → List P
  -- none where a piece is missing
  pub did : A → List P → Option (List P)

-- go on with the pieces, if there are some
abbrev pub and_then : {B : Type 0} → Option (List B) → (List B → Option (List B)) → Option (List B)
and_then None go = None
and_then (Some st) go = go st

-- the pieces after these steps
abbrev pub built : {T A P : Type 0} → Builder T A P → List (Step T A) → List P → Option (List P)
built b [] st = Some st
built b (Took t ∷ steps) st = built b steps (b.took t st)
built b (Did a ∷ steps) st = and_then (b.did a st) (built b steps)

-- shapes of pieces are numbers, the topmost piece's first
abbrev pub Shapes : Type 0
Shapes = List ℕ

-- the shapes that a rule and an action find on top, and those that they leave in their place
pub record Effects (R A : Type 0) : Type 0 where
  pub needs : R → Shapes
  pub leaves : R → Shapes
  pub pops : A → Shapes
  pub pushes : A → Shapes
  -- those that a token of a kind leaves
  pub token : ℕ → Shapes

-- the shapes below these, where these are on top
abbrev pub below : Shapes → Shapes → Option Shapes
below [] sh = Some sh
below (x ∷ xs) [] = None
below (x ∷ xs) (y ∷ ys) = if x == y then below xs ys else None

-- these on top of those, if there are some
abbrev pub put_on : Shapes → Option Shapes → Option Shapes
put_on new None = None
put_on new (Some rest) = Some (new ++ rest)

-- the shapes after the items
abbrev pub flow : {R A : Type 0} → Effects R A → List (Item R A) → Shapes → Option Shapes
flow f [] sh = Some sh
flow f (Here r ∷ s) sh = and_then (put_on (f.leaves r) (below (f.needs r) sh)) (flow f s)
flow f (Inside r ∷ s) sh = and_then (put_on (f.leaves r) (below (f.needs r) sh)) (flow f s)
flow f (Do a ∷ s) sh = and_then (put_on (f.pushes a) (below (f.pops a) sh)) (flow f s)

-- each alternative, after its token, turns what the rule needs into what it leaves
abbrev pub AlternativesFlow : {R A : Type 0} → Effects R A → R → List (ℕ × List (Item R A)) → Type 0
AlternativesFlow f r [] = Unit {0}
AlternativesFlow f r (p ∷ ps) = (flow f p.1 (f.token p.0 ++ f.needs r) ≡ Some (f.leaves r)) × AlternativesFlow f r ps

-- so does the other side
abbrev pub OtherwiseFlows : {R A : Type 0} → Effects R A → R → Option (List (Item R A)) → Type 0
OtherwiseFlows f r None = Unit {0}
OtherwiseFlows f r (Some s) = flow f s (f.needs r) ≡ Some (f.leaves r)

-- each right-hand side of each rule does what the rule says
abbrev pub RulesFlow : {R A : Type 0} → Table R A → Effects R A → Type 0
RulesFlow {R = R} table f = (r : R) → AlternativesFlow f r (table.alternatives r) × OtherwiseFlows f r (table.otherwise r)

-- some of a table's rules and actions, as a language within a larger one
pub record Part (R A : Type 0) : Type 0 where
  pub rules : R → Bool
  pub actions : A → Bool

-- whether the items are of the part
abbrev pub is_of : {R A : Type 0} → Part R A → List (Item R A) → Bool
is_of part [] = true
is_of part (Here r ∷ s) = part.rules r && is_of part s
is_of part (Inside r ∷ s) = part.rules r && is_of part s
is_of part (Do a ∷ s) = part.actions a && is_of part s

-- whether each alternative is of the part
abbrev pub alternatives_of : {R A : Type 0} → Part R A → List (ℕ × List (Item R A)) → Bool
alternatives_of part [] = true
alternatives_of part (p ∷ ps) = is_of part p.1 && alternatives_of part ps

-- whether the other side is
abbrev pub otherwise_of : {R A : Type 0} → Part R A → Option (List (Item R A)) → Bool
otherwise_of part None = true
otherwise_of part (Some s) = is_of part s

-- no rule of the part leads out of it
abbrev pub IsClosed : {R A : Type 0} → Table R A → Part R A → Type 0
IsClosed {R = R} table part = (r : R) → part.rules r ≡ true
    → alternatives_of part (table.alternatives r) && otherwise_of part (table.otherwise r) ≡ true

-- the builder's pieces have the shapes that the effects say, at the actions of a part
pub record KeepsShapes {R T A P : Type 0} (part : Part R A) (b : Builder T A P) (f : Effects R A) (kind : T → ℕ) (shape : P → ℕ) : Type 0 where
  pub took : (t : T) (st : List P) → map shape (b.took t st) ≡ f.token (kind t) ++ map shape st
  pub did : (a : A) → part.actions a ≡ true → (st : List P) (rest : Shapes) → map shape st ≡ f.pops a ++ rest
      → (after : List P) × (b.did a st ≡ Some after) × (map shape after ≡ f.pushes a ++ rest)

-- the steps build one piece, of this shape
abbrev pub BuildsOne : {T A P : Type 0} → Builder T A P → (P → ℕ) → ℕ → List (Step T A) → Type 0
BuildsOne {P = P} b shape x steps = (p : P) × (built b steps [] ≡ Some (p ∷ [])) × (shape p ≡ x)
