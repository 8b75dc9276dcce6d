-- How the rules of a relation carry over to the rows that a step leaves.
use Rattle.std.proofs.Common.{◌≡◌, Bool, true, false, ◌||◌, ◌&&◌, Ok, List, [], ◌∷◌, ◌++◌, map, refl, subst, ap, ◌∙◌, sym, inl, inr, ◌⊎◌, arith}
use Rattle.std.specs.Prelude.{IsTrue}
use Rattle.std.specs.List.{list_all, Contains}
use Rattle.std.proofs.lemmas.List.Elements.{Contains-append_right}
use Rattle.std.proofs.lemmas.Bool.{and_parts}
use Rattle.value_types.specs.declared.row_id.RowId.{RowId}
use Rattle.cell_errors.specs.Answers.{Answer}
use Rattle.dataset_types.specs.declared.row.Row.{Row}
use Rattle.dataset_types.specs.Tables.{Distinct, row_ids, all_sure}
use Rattle.dataset_types.proofs.TableLemmas.{empty_contains, Contains-cases}
use Rattle.relations.specs.declared.batch.Batch.{Batch}
use Rattle.relations.specs.Batches.{both, gathered}
use Rattle.relations.proofs.Gathered.{all_gathered, Each}

both_hold : (a b : Bool) → IsTrue a → IsTrue b → IsTrue (a && b)
both_hold a b e k = rw (e, k) refl

pub or_parts : (a b : Bool) → (a || b) ≡ false → (a ≡ false) × (b ≡ false)
or_parts true b e = cc
or_parts false b e = (refl, e)

-- ---- tests of each row

pub all_of : {X : Type 0} (p : X → Bool) (xs : List X) → IsTrue (list_all p xs) → Each (λ x. IsTrue (p x)) xs
all_of p [] e = tt
all_of p (x ∷ xs) e = let q = and_parts (p x) (list_all p xs) e in (q.0, all_of p xs q.1)

pub all_from : {X : Type 0} (p : X → Bool) (xs : List X) → Each (λ x. IsTrue (p x)) xs → IsTrue (list_all p xs)
all_from p [] e = refl
all_from p (x ∷ xs) e = both_hold (p x) (list_all p xs) e.0 (all_from p xs e.1)

pub all_append : {X : Type 0} (p : X → Bool) (xs ys : List X) → IsTrue (list_all p xs) → IsTrue (list_all p ys) → IsTrue (list_all p (xs ++ ys))
all_append p [] ys e k = k
all_append p (x ∷ xs) ys e k = let q = and_parts (p x) (list_all p xs) e in both_hold (p x) (list_all p (xs ++ ys)) q.0 (all_append p xs ys q.1 k)

-- a row that is unsure leaves the relation open
abbrev pub UnsureOpens : Bool → Row → Type 0
UnsureOpens is_open r = r.sure ≡ false → is_open ≡ true

pub unsure_opens : (is_open : Bool) (rows : List Row) → (is_open ≡ false → IsTrue (all_sure rows)) → Each (UnsureOpens is_open) rows
unsure_opens is_open [] h = tt
unsure_opens is_open (r ∷ rs) h = (
  λ e. at is_open e (λ k. (and_parts r.sure (all_sure rs) (h k)).0),
  unsure_opens is_open rs (λ k. (and_parts r.sure (all_sure rs) (h k)).1),
)
  where
    at : (o : Bool) → r.sure ≡ false → (o ≡ false → r.sure ≡ true) → o ≡ true
    at true e k = refl
    at false e k = let s = k refl in cc

-- ---- over a gathered step

module _ {X : Type 0} (f : X → Answer Batch) (Good : X → Type 0) where
  -- a test that each row of each batch passes
  module _ (p : Row → Bool) (each : (x : X) (b : Batch) → Good x → f x ≡ Ok b → IsTrue (list_all p b.rows)) where
    pub all_pass : (xs : List X) (b : Batch) → Each Good xs → gathered f xs ≡ Ok b → IsTrue (list_all p b.rows)
    all_pass xs b g e =
        all_gathered f (λ ys c. Each Good ys → IsTrue (list_all p c.rows)) (λ h. refl)
        (λ y ys a c k rest h. all_append p a.rows c.rows (each y a h.0 k) (rest h.1)) xs b e g

  -- a test that each row of each batch passes where the batch isn't marked
  module _ (p : Row → Bool) (each : (x : X) (b : Batch) → Good x → f x ≡ Ok b → b.marked ≡ false → IsTrue (list_all p b.rows)) where
    pub all_pass_unmarked : (xs : List X) (b : Batch) → Each Good xs → gathered f xs ≡ Ok b → b.marked ≡ false → IsTrue (list_all p b.rows)
    all_pass_unmarked xs b g e =
        all_gathered f (λ ys c. Each Good ys → c.marked ≡ false → IsTrue (list_all p c.rows)) (λ h m. refl)
        (λ y ys a c k rest h m.
        let q = or_parts a.marked c.marked m in
        all_append p a.rows c.rows (each y a h.0 k q.0) (rest h.1 q.1)) xs b e g

-- ---- ids

-- an id of a batch of one row of this id, or of none
abbrev pub HasOnly : RowId → Batch → Type 0
HasOnly i b = (row_ids b.rows ≡ []) ⊎ (row_ids b.rows ≡ i ∷ [])

ids_append : (xs ys : List Row) → row_ids (xs ++ ys) ≡ row_ids xs ++ row_ids ys
ids_append [] ys = refl
ids_append (x ∷ xs) ys = ap (λ z. x.id ∷ z) (ids_append xs ys)

-- where each row gives itself or nothing, ids stay distinct
module _ {X : Type 0} (f : X → Answer Batch) (id_of : X → RowId) (each : (x : X) (b : Batch) → f x ≡ Ok b → HasOnly (id_of x) b) where
  abbrev AreOf : List X → Batch → Type 0
  AreOf xs b = ((i : RowId) → Contains (row_ids b.rows) i → Contains (map id_of xs) i) × (Distinct (map id_of xs) → Distinct (row_ids b.rows))

  one_more : (x : X) (xs : List X) (a b : Batch) → f x ≡ Ok a → AreOf xs b → AreOf (x ∷ xs) (both a b)
  one_more x xs a b k rest = elim (each x a k) [
    | inl e ↦
        let is : row_ids (a.rows ++ b.rows) ≡ row_ids b.rows = ids_append a.rows b.rows ∙ ap (λ z. z ++ row_ids b.rows) e in (
          λ i c. later i (rest.0 i (subst (λ z. Contains z i) is c)),
          λ d. subst Distinct (sym is) (rest.1 d.1),
        )
    | inr e ↦
        let is : row_ids (a.rows ++ b.rows) ≡ id_of x ∷ row_ids b.rows = ids_append a.rows b.rows ∙ ap (λ z. z ++ row_ids b.rows) e in (
          λ i c. elim (Contains-cases (id_of x) (row_ids b.rows) i (subst (λ z. Contains z i) is c)) [
            | inl here ↦ (0, omega arith, here)
            | inr there ↦ later i (rest.0 i there)
          ],
          λ d. subst Distinct (sym is) (λ c. d.0 (rest.0 (id_of x) c), rest.1 d.1),
        )
  ]
    where
      later : (i : RowId) → Contains (map id_of xs) i → Contains (id_of x ∷ map id_of xs) i
      later i c = Contains-append_right (id_of x ∷ []) (map id_of xs) i c

  pub ids_distinct : (xs : List X) (b : Batch) → gathered f xs ≡ Ok b → Distinct (map id_of xs) → Distinct (row_ids b.rows)
  ids_distinct xs b e d = (all_gathered f AreOf (λ i c. absurd (empty_contains i c), λ d. tt) one_more xs b e).1 d
