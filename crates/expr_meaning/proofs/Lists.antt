-- Lists of operands, looked at one by one.
use Rattle.std.proofs.Common.{◌≡◌, ℕ, suc, ◌+◌, ◌<◌, Bool, true, false, ◌||◌, Err, List, [], ◌∷◌, ◌++◌, map, drop, length, get_or, refl, sym, ap, ◌∙◌, arith, drop-cons}
use Rattle.value_types.specs.declared.value.Value.{Value}
use Rattle.dataset_types.specs.declared.row.Marked.{Marked}
use Rattle.cell_errors.specs.declared.fault.CellError.{CellError}
use Rattle.cell_errors.specs.declared.fault.EvalFault.{EvalFault}
use Rattle.cell_errors.specs.declared.fault.EvalFault.TheVariants.{Error, NoMemory}
use Rattle.cell_errors.specs.Answers.{Answer}
use Rattle.cell_errors.specs.Seen.{Seen, after, go_on, seen_then}
use Rattle.expr_meaning.specs.Sees.{seen, Sees, SeesAll}
use Rattle.expr_meaning.specs.Steps.{any_equal_marked, all_marked}

-- the list from a place on
pub turn : {E S : Type 0} (f : E → S) (xs : List E) (i : ℕ) (x : E) → i < length xs → x ≡ get_or xs i x → map f (drop i xs) ≡ f x ∷ map f (drop (i + 1) xs)
turn f xs i x lt is = ap (map f) (drop-cons xs i x lt) ∙ ap (λ y. f y ∷ map f (drop (suc i) xs)) (sym is) ∙ ap (λ k. f x ∷ map f (drop k xs)) (let e : suc i ≡ i + 1 = omega arith in e)

-- ---- IN: an error stays one over the rest of the list

stays_wrong : (m : Bool) (e : CellError) (v : Value) (ys : List (Seen Value)) →
    any_equal_marked (record { marked = m; answer = Err e }) v ys ≡ record { marked = m; answer = Err e }
stays_wrong m e v [] = refl
stays_wrong m e v (y ∷ ys) = stays_wrong m e v ys

stays_err : (s : Seen Value) (e : CellError) (v : Value) (ys : List (Seen Value)) → s.answer ≡ Err e →
    (any_equal_marked s v ys).answer ≡ Err e
stays_err s e v ys is =
    ap (λ a. (any_equal_marked (record { marked = s.marked; answer = a }) v ys).answer) is ∙ ap (λ (r : Seen Value). r.answer) (stays_wrong s.marked e v ys)

pub sees_wrong : (s : Seen Value) (v : Value) (ys : List (Seen Value)) (f : EvalFault) → Sees (Err f) s → Sees (Err f) (any_equal_marked s v ys)
sees_wrong s v ys (Error e) g = stays_err s e v ys g
sees_wrong s v ys NoMemory g = g

-- ---- the operands of an aggregate, row by row

after_after : (a b : Bool) (s : Seen Value) → after a (after b s) ≡ after (a || b) s
after_after true b s = refl
after_after false b s = refl

module _ {R : Type 0} (m : R → Seen Value) (rows : List R) (i : ℕ) (row : R) (h : i < length rows) (is : row ≡ get_or rows i row) where
  pub all_turn : (x : Marked) (mk : Bool) (done : List Value) (k : List Value → Answer Value) (whole : Seen Value) →
      whole ≡ after mk (all_marked (map m (drop i rows)) done k) → m row ≡ seen x →
      whole ≡ after (mk || x.marked) (all_marked (map m (drop (i + 1) rows)) (done ++ x.value ∷ []) k)
  all_turn x mk done k whole w e =
      w ∙ ap (λ xs. after mk (all_marked xs done k)) (turn m rows i row h is)
      ∙ ap (λ s. after mk (seen_then s (λ v. all_marked (map m (drop (i + 1) rows)) (done ++ v ∷ []) k))) e
      ∙ after_after mk x.marked _

  all_stop : (d : CellError) (mk : Bool) (done : List Value) (k : List Value → Answer Value) (whole : Seen Value) →
      whole ≡ after mk (all_marked (map m (drop i rows)) done k) → (m row).answer ≡ Err d → whole.answer ≡ Err d
  all_stop d mk done k whole w e =
      ap (λ (s : Seen Value). s.answer) (w ∙ ap (λ xs. after mk (all_marked xs done k)) (turn m rows i row h is))
      ∙ ap (λ a. (go_on (m row).marked a (λ v. all_marked (map m (drop (i + 1) rows)) (done ++ v ∷ []) k)).answer) e

  -- the error of one row is that of the aggregate
  pub all_stops : (fault : EvalFault) (mk : Bool) (done : List Value) →
      ((k : List Value → Answer Value) → all_marked (map m rows) [] k ≡ after mk (all_marked (map m (drop i rows)) done k)) →
      Sees (Err fault) (m row) → SeesAll (Err fault) (map m rows)
  all_stops (Error d) mk done w g = λ k. all_stop d mk done k _ (w k) g
  all_stops NoMemory mk done w g = λ k. tt
