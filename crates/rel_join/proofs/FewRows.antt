-- Rows that are kept while they are few, and what comes of all.
use Rattle.std.proofs.Common.{◌≡◌, ℕ, ◌+◌, ◌<◌, ◌≤◌, length, drop, get_or, Bool, true, false, ◌||◌, ◌&&◌, Ok, Err, Option, None, Some, List, [], ◌∷◌, ◌++◌, arith, refl, ap, sym, ◌∙◌, append_assoc, append-nil}
use Rattle.std.specs.Prelude.{if◌then◌else◌, IsTrue, IfSome}
use Rattle.std.proofs.lemmas.List.{length-append, drop_more, drop_all}
use Rattle.std.proofs.lemmas.List.Sums.{sum_by-append}
use Rattle.std.proofs.lemmas.Bool.Decides.{nat_tests}
use Rattle.std.proofs.Math.Bool.{or-false, or_assoc}
use Rattle.cell_errors.specs.Answers.{Answer, and_then, Fails}
use Rattle.cell_errors.specs.declared.fault.CellError.{CellError}
use Rattle.cell_errors.specs.declared.fault.CellError.TheVariants.{TooLarge}
use Rattle.cell_errors.specs.declared.fault.EvalFault.{EvalFault}
use Rattle.cell_errors.specs.declared.fault.EvalFault.TheVariants as fault
use Rattle.dataset_types.specs.declared.row.Row.{Row}
use Rattle.dataset_types.specs.Tables.{row_size, text_bytes, ids_short, few_rows, few_values, few_bytes}
use Rattle.relations.specs.declared.batch.Batch.{Batch}
use Rattle.relations.specs.Rels.{RelData, rel_of, whole}
use Rattle.relations.specs.Batches.{nothing, both, gathered}
use Rattle.relations.proofs.Gathered.{fine, the_same}
use Rattle.rel_join.specs.Join.{joined_of}
use Rattle.rel_join.specs.Few.{are_few, if_few, few_of, both_few}
use Rattle.rel_join.specs.Jobs.{few_joined}

-- ---- what is too much stays too much

either_false : (a b c d : Bool) → (a ≡ false → c ≡ false) → (b ≡ false → d ≡ false) → (a && b) ≡ false → (c && d) ≡ false
either_false false b c d f g e = rw (f refl) refl
either_false true b true d f g e = g e
either_false true b false d f g e = refl

-- rows after too many, or before them
pub many_more : (xs ys : List Row) → are_few xs ≡ false → are_few (xs ++ ys) ≡ false
many_more xs ys e =
    let rows = length-append xs ys in
    let bytes = sum_by-append row_size xs ys in
    either_false (few_rows (length xs)) (few_bytes (text_bytes xs)) (few_rows (length (xs ++ ys))) (few_bytes (text_bytes (xs ++ ys)))
    (λ h. grind (arith, nat_tests)) (λ h. grind (arith, nat_tests)) e

pub many_before : (xs ys : List Row) → are_few ys ≡ false → are_few (xs ++ ys) ≡ false
many_before xs ys e =
    let rows = length-append xs ys in
    let bytes = sum_by-append row_size xs ys in
    either_false (few_rows (length ys)) (few_bytes (text_bytes ys)) (few_rows (length (xs ++ ys))) (few_bytes (text_bytes (xs ++ ys)))
    (λ h. grind (arith, nat_tests)) (λ h. grind (arith, nat_tests)) e

pub none_few : (m : Batch) → are_few m.rows ≡ false → if_few m ≡ None
none_few m e = rw e refl

pub some_few : (m : Batch) → IsTrue (are_few m.rows) → if_few m ≡ Some m
some_few m e = rw e refl

-- more after both is more after the first
after_both : (a y c : Batch) → if_few (both a (both y c)) ≡ both_few (if_few (both a y)) (Some c)
after_both a y c = at (are_few (both a y).rows) refl
  where
    same : both a (both y c) ≡ both (both a y) c
    same = rw (sym (or_assoc a.marked y.marked c.marked), append_assoc) refl

    at : (few : Bool) → are_few (both a y).rows ≡ few → if_few (both a (both y c)) ≡ both_few (if few then Some (both a y) else None) (Some c)
    at true e = ap if_few same
    at false e = ap if_few same ∙ none_few (both (both a y) c) (many_more (both a y).rows c.rows e)

-- that more is few may be looked at before
few_more : (o : Option Batch) (y : Batch) → both_few o (Some y) ≡ both_few o (if_few y)
few_more None y = refl
few_more (Some a) y = at (are_few y.rows) refl
  where
    at : (few : Bool) → are_few y.rows ≡ few → if_few (both a y) ≡ both_few (Some a) (if few then Some y else None)
    at true e = refl
    at false e = none_few (both a y) (many_before a.rows y.rows e)

-- ---- the loop: what is kept, and then the rest

-- what is kept, and after it what is made of the rest
unfoldable pub few_from : {X : Type 0} → Option Batch → (X → Answer Batch) → List X → Answer (Option Batch)
few_from o f xs = and_then (gathered f xs) (λ c. Ok (both_few o (Some c)))

module _ {X : Type 0} (f : X → Answer Batch) where
  pub few_begun : (xs : List X) → few_of (gathered f xs) ≡ few_from (Some nothing) f xs
  unfolding few_from
  few_begun xs = start (gathered f xs)
    where
      start : (a : Answer Batch) → few_of a ≡ and_then a (λ c. Ok (both_few (Some nothing) (Some c)))
      start (Ok c) = refl
      start (Err e) = refl

  few_went_on : (o : Option Batch) (y : Batch) (xs rest : List X) (x : X) → xs ≡ x ∷ rest → f x ≡ Ok y →
      few_from o f xs ≡ few_from (both_few o (Some y)) f rest
  unfolding few_from
  few_went_on o y xs rest x e k = rw (e, k) (turn (gathered f rest) o)
    where
      turn : (a : Answer Batch) (o : Option Batch) → and_then (and_then a (λ c. Ok (both y c))) (λ c. Ok (both_few o (Some c)))
          ≡ and_then a (λ c. Ok (both_few (both_few o (Some y)) (Some c)))
      turn (Ok c) None = refl
      turn (Ok c) (Some b) = ap (λ z. Ok z) (after_both b y c)
      turn (Err d) o = refl

  few_stopped : (o : Option Batch) (xs rest : List X) (x : X) (e : CellError) → xs ≡ x ∷ rest → f x ≡ Err e → few_from o f xs ≡ Err e
  unfolding few_from
  few_stopped o xs rest x e k h = rw (k, h) refl

  few_ended : (o : Option Batch) (xs : List X) → IfSome o (λ m. IsTrue (are_few m.rows)) → xs ≡ [] → few_from o f xs ≡ Ok o
  unfolding few_from
  few_ended None xs h e = rw e refl
  few_ended (Some m) xs h e = rw (e, append-nil, or-false m.marked) (ap (λ z. Ok z) (some_few m h))

  -- the same over a slice
  pub few_went_on_at : (o : Option Batch) (y : Batch) (xs : List X) (i : ℕ) (x : X) → i < length xs → x ≡ get_or xs i x → f x ≡ Ok y →
      few_from o f (drop i xs) ≡ few_from (both_few o (Some y)) f (drop (i + 1) xs)
  few_went_on_at o y xs i x h e k = few_went_on o y (drop i xs) (drop (i + 1) xs) x (drop_more xs i x h ∙ ap (λ z. z ∷ drop (i + 1) xs) (sym e)) k

  -- where it was looked at before whether these are few
  pub few_added_at : (o more : Option Batch) (xs : List X) (i : ℕ) (x : X) → i < length xs → x ≡ get_or xs i x → few_of (f x) ≡ Ok more →
      few_from o f (drop i xs) ≡ few_from (both_few o more) f (drop (i + 1) xs)
  few_added_at o more xs i x h e k = turn (f x) refl k
    where
      turn : (a : Answer Batch) → f x ≡ a → few_of a ≡ fine more → few_from o f (drop i xs) ≡ few_from (both_few o more) f (drop (i + 1) xs)
      turn (Ok y) s t =
          few_went_on_at o y xs i x h e s
          ∙ (ap (λ z. few_from z f (drop (i + 1) xs)) (few_more o y) ∙ ap (λ z. few_from (both_few o z) f (drop (i + 1) xs)) (the_same (if_few y) more t))
      turn (Err d) s t = cc

  pub few_ended_at : (o : Option Batch) (xs : List X) (i : ℕ) → IfSome o (λ m. IsTrue (are_few m.rows)) → length xs ≤ i → few_from o f (drop i xs) ≡ Ok o
  few_ended_at o xs i few h = few_ended o (drop i xs) few (drop_all i xs h)

  few_stops : (all : Answer (Option Batch)) (o : Option Batch) (xs rest : List X) (x : X) (f' : EvalFault) → all ≡ few_from o f xs → xs ≡ x ∷ rest →
      Fails f' (f x) → Fails f' all
  few_stops all o xs rest x (fault.Error e) w k h = w ∙ few_stopped o xs rest x e k h
  few_stops all o xs rest x fault.NoMemory w k h = tt

  -- the error of one is that of all
  pub few_stops_at : (all : Answer (Option Batch)) (o : Option Batch) (xs : List X) (i : ℕ) (x : X) (f' : EvalFault) → all ≡ few_from o f (drop i xs) → i < length xs →
      x ≡ get_or xs i x → Fails f' (f x) → Fails f' all
  few_stops_at all o xs i x f' w l e h = few_stops all o (drop i xs) (drop (i + 1) xs) x f' w (drop_more xs i x l ∙ ap (λ z. z ∷ drop (i + 1) xs) (sym e)) h

-- an error is one before it is looked at whether rows are few
pub fails_before : (a : Answer Batch) (f : EvalFault) → Fails f (few_of a) → Fails f a
fails_before (Ok m) (fault.Error e) h = cc
fails_before (Err d) (fault.Error e) h = cc
fails_before a fault.NoMemory h = tt

-- ---- the whole

-- rows that are few are all of them
pub few_is : (a : Answer Batch) (m : Batch) → few_of a ≡ Ok (Some m) → a ≡ Ok m
few_is (Ok b) m e = at (are_few b.rows) e
  where
    at : (few : Bool) → fine (if few then Some b else None) ≡ Ok (Some m) → fine b ≡ Ok m
    at true k = cc
    at false k = cc
few_is (Err d) m e = cc

-- rows that aren't few are a relation that is too large
too_large : (r : RelData) → are_few r.rows ≡ false → whole r ≡ Err TooLarge
too_large r e = at (few_rows (length r.rows)) (few_values (length r.rows) (length r.columns)) (few_bytes (text_bytes r.rows)) e
  where
    at : (rows values bytes : Bool) → (rows && bytes) ≡ false → (if rows && values && bytes && ids_short r.rows then fine r else Err TooLarge) ≡ Err TooLarge
    at false values bytes k = refl
    at true false bytes k = refl
    at true true false k = refl
    at true true true k = cc

module _ (a b : RelData) where
  -- that its rows are few may be looked at first
  pub few_are_all : (rows : Answer Batch) → and_then (few_of rows) (few_joined a b) ≡ and_then rows (joined_of a b)
  few_are_all (Ok m) = at (are_few m.rows) refl
    where
      at : (few : Bool) → are_few m.rows ≡ few → few_joined a b (if few then Some m else None) ≡ joined_of a b m
      at true s = refl
      at false s = sym (too_large (rel_of (a.columns ++ b.columns) m.rows ((a.is_open || b.is_open) || m.marked) (a.is_loose || b.is_loose)) s)
  few_are_all (Err d) = refl

-- what the proofs of the loops use
pub ruleset few = (few_begun, few_went_on_at, few_added_at, few_ended_at)
