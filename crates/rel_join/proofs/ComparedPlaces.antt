-- ON over the values at places.
use Rattle.std.proofs.Common.{◌≡◌, ℕ, zero, suc, ◌-◌, ◌<◌, ◌≤◌, length, Some, List, [], ◌∷◌, ◌++◌, arith, refl, ap, sym, ◌∙◌}
use Rattle.std.specs.Prelude.{slice_get}
use Rattle.std.proofs.lemmas.List.{length-append}
use Rattle.std.proofs.Math.Bool.{or-false}
use Rattle.dataset_types.specs.declared.row.Marked.{Marked}
use Rattle.dataset_types.specs.declared.row.Row.{Row}
use Rattle.expr_lang.specs.declared.expr.Expr.{Expr, Binary}
use Rattle.expr_lang.specs.declared.ops.BinaryOp.TheVariants.{Equal}
use Rattle.expr_meaning.specs.declared.bindings.ScopeColumn.{ScopeColumn}
use Rattle.expr_meaning.specs.Settings.{at_row}
use Rattle.expr_meaning.specs.Meaning.{marked_over_row}
use Rattle.expr_meaning.specs.Sees.{seen}
use Rattle.expr_meaning.specs.Steps.{applied_marked}
use Rattle.expr_meaning.proofs.Readings.{M-Binary}
use Rattle.relations.specs.Bound.{bindings}
use Rattle.relations.specs.Conditions.{test_of}
use Rattle.relations.specs.Places.{ReadsPlace}
use Rattle.rel_join.specs.declared.equality.Equality.{Equality}
use Rattle.rel_join.specs.declared.pairs.Job.{Job}
use Rattle.rel_join.specs.Equalities.{equal_seen, equal_test, ComparesPlaces}
use Rattle.rel_join.specs.Jobs.{job_on}

-- ---- an equality

both_seen : (x y : Marked) → applied_marked Equal (seen x) (seen y) ≡ equal_seen x y
both_seen x y = rw (or-false y.marked) refl

-- where both operands read places, the equality compares these
pub compares : (columns : List ScopeColumn) (at : Equality) (a b : Expr) → ReadsPlace columns at.first a → ReadsPlace columns at.second b → ComparesPlaces columns at (Binary Equal a b)
compares columns at a b f g values picks cell x y fits here there =
    M-Binary (at_row (bindings columns values)) picks cell Equal a b
    ∙ rw (f values picks cell x fits here, g values picks cell y fits there) (both_seen x y)

-- ---- both sides of a join

-- a place among the values of the left side
pub place_left : (xs ys : List Marked) (i : ℕ) → i < length xs → slice_get (xs ++ ys) i ≡ slice_get xs i
place_left [] ys i h = absurd (omega arith)
place_left (x ∷ xs) ys zero h = refl
place_left (x ∷ xs) ys (suc i) h = place_left xs ys i (omega arith)

-- a place among those of the right side
pub place_right : (xs ys : List Marked) (i : ℕ) → length xs ≤ i → slice_get (xs ++ ys) i ≡ slice_get ys (i - length xs)
place_right [] ys i h = let same : i ≡ i - 0 = omega arith in ap (slice_get ys) same
place_right (x ∷ xs) ys zero h = absurd (omega arith)
place_right (x ∷ xs) ys (suc i) h =
    let same : i - length xs ≡ suc i - suc (length xs) = omega arith in
    place_right xs ys i (omega arith) ∙ ap (slice_get ys) same

-- columns with as many values, and then others, are bound as both
pub bound_both : (cs ds : List ScopeColumn) (ms ns : List Marked) → length ms ≡ length cs → bindings (cs ++ ds) (ms ++ ns) ≡ bindings cs ms ++ bindings ds ns
bound_both [] ds [] ns e = refl
bound_both [] ds (m ∷ ms) ns e = absurd (omega arith)
bound_both (c ∷ cs) ds [] ns e = absurd (omega arith)
bound_both (c ∷ cs) ds (m ∷ ms) ns e = let more = bound_both cs ds ms ns (omega arith) in rw more refl

-- ON over two rows with a value for each column
pub on_places : (job : Job) (at : Equality) (l r : Row) (x y : Marked) → ComparesPlaces (job.left.now.columns ++ job.right.now.columns) at job.on.now →
    length l.values ≡ length job.left.now.columns → length r.values ≡ length job.right.now.columns →
    slice_get (l.values ++ r.values) at.first ≡ Some x → slice_get (l.values ++ r.values) at.second ≡ Some y → job_on job l r ≡ equal_test x y
on_places job at l r x y compared fits fits_too here there =
    let values = length-append l.values r.values in
    let columns = length-append job.left.now.columns job.right.now.columns in
    ap test_of
    (ap (λ row. marked_over_row row job.picks.now job.cell job.on.now) (sym (bound_both job.left.now.columns job.right.now.columns l.values r.values fits))
    ∙ compared (l.values ++ r.values) job.picks.now job.cell x y (omega arith) here there)

-- what the proofs of places use
pub ruleset placing = (place_left, place_right)
