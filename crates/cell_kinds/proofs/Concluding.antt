-- Results of works, and what their reads fix.
use Rattle.std.proofs.Common.{◌≡◌, ℕ, List, [], ◌∷◌, Option, None, Result, Ok, Err, refl, subst, sym}
use Rattle.dataset_types.specs.declared.picks.Pick.{Pick}
use Rattle.dataset_types.specs.declared.slot.Slot.{Slot}
use Rattle.dataset_types.specs.declared.slot.Named.{Named}
use Rattle.cell_errors.specs.Answers.{Answer, Fails}
use Rattle.cell_errors.specs.declared.fault.EvalFault.{EvalFault}
use Rattle.cell_errors.specs.declared.fault.EvalFault.TheVariants as eval
use Rattle.cell_model.specs.declared.reads.Ended.{Ended}
use Rattle.cell_model.specs.declared.work_fault.WorkFault.{WorkFault}
use Rattle.cell_model.specs.declared.work_fault.WorkFault.TheVariants as fault
use Rattle.cell_model.specs.declared.cell_result.CellResult.{CellResult}
use Rattle.cell_model.specs.Works.{Fixes, Works, work_fault}
use Rattle.cell_model.proofs.WorkLemmas.{fixes_none, fixes_made, works_then, works_stop}
use Rattle.sql_parse.specs.declared.select.Select.{Select}
use Rattle.sql_meaning.specs.Select.{select_meaning, select_names}
use Rattle.cell_kinds.specs.Sql.{text_writes, text_names}
use Rattle.cell_kinds.specs.Written.{written, concluded, IsResult}

-- what a work means, as a result
pub concluded_works : (meaning : (List ℕ → Slot) → Answer (List Named)) (asks : (List ℕ → Slot) → List (List ℕ)) (answer : Result (List Named) WorkFault)
    (asked : List Named) (end : Option Ended) → Works meaning asks answer asked end → IsResult (λ look. written (meaning look)) asks (concluded answer) asked end
concluded_works meaning asks (Ok writes) asked end works = (works.0, fixes_made meaning asks written asked (Ok writes) works.1)
concluded_works meaning asks (Err (fault.Error e)) asked end works = (works.0, fixes_made meaning asks written asked (Err e) works.1)
concluded_works meaning asks (Err (fault.Ended e)) asked end works = works

-- the same of an answer that is that result
pub concluded_is : (meaning : (List ℕ → Slot) → Answer (List Named)) (asks : (List ℕ → Slot) → List (List ℕ)) (answer : Result (List Named) WorkFault)
    (asked : List Named) (end : Option Ended) (result : Result CellResult Ended) → Works meaning asks answer asked end → result ≡ concluded answer
    → IsResult (λ look. written (meaning look)) asks result asked end
concluded_is meaning asks answer asked end result works is =
    subst (λ (r : Result CellResult Ended). IsResult (λ look. written (meaning look)) asks r asked end) (sym is) (concluded_works meaning asks answer asked end works)

-- a result that is the same everywhere, before any read
pub alone : (meaning : (List ℕ → Slot) → CellResult) (asks : (List ℕ → Slot) → List (List ℕ)) (r : CellResult) (asked : List Named) (end : Option Ended)
    → ((look : List ℕ → Slot) → meaning look ≡ r) → ((look : List ℕ → Slot) → asks look ≡ []) → asked ≡ [] → end ≡ None → IsResult meaning asks (Ok r) asked end
alone meaning asks r asked end is none empty on =
    (on, subst (λ (l : List Named). Fixes meaning asks l r) (sym empty) (fixes_none meaning asks r is none))

-- ---- the text of a SELECT, and then its datasets

module _ (id : ℕ) (picks : List Pick) (into : List ℕ) where
  -- a text that is no SELECT reads nothing
  pub no_select : (text : Answer Select) (f : EvalFault) (asked : List Named) (end : Option Ended) → Fails f text → asked ≡ [] → end ≡ None
      → Works (text_writes id picks into text) (text_names text) (Err (work_fault f)) asked end
  no_select text (eval.Error e) asked end is none on = (
    on,
    subst (λ (l : List Named). Fixes (text_writes id picks into text) (text_names text) l (Err e)) (sym none)
        (subst (λ (t : Answer Select). Fixes (text_writes id picks into t) (text_names t) [] (Err e)) (sym is)
        (fixes_none (text_writes id picks into (Err e)) (text_names (Err e)) (Err e) (λ look. refl) (λ look. refl))),
  )
  no_select text eval.NoMemory asked end is none on = on

  -- a SELECT in error, or its end
  pub select_stops : (text : Answer Select) (select : Select) (f : WorkFault) (asked : List Named) (end : Option Ended) → text ≡ Ok select
      → Works (λ look. select_meaning look select picks id) (λ look. select_names look select) (Err f) asked end
      → Works (text_writes id picks into text) (text_names text) (Err f) asked end
  select_stops text select f asked end is works =
      subst (λ (t : Answer Select). Works (text_writes id picks into t) (text_names t) (Err f) asked end) (sym is)
      (works_stop (λ look. select_meaning look select picks id) (λ look. select_names look select) (λ slot. Ok (record { name = into; slot = slot } ∷ [])) f asked end works)

  -- a SELECT that gives a slot
  pub select_gives : (text : Answer Select) (select : Select) (slot : Slot) (asked : List Named) (end : Option Ended) → text ≡ Ok select
      → Works (λ look. select_meaning look select picks id) (λ look. select_names look select) (Ok slot) asked end
      → Works (text_writes id picks into text) (text_names text) (Ok (record { name = into; slot = slot } ∷ [])) asked end
  select_gives text select slot asked end is works =
      subst (λ (t : Answer Select). Works (text_writes id picks into t) (text_names t) (Ok (record { name = into; slot = slot } ∷ [])) asked end) (sym is)
      (works.0, works_then (λ look. select_meaning look select picks id) (λ look. select_names look select) (λ slot. Ok (record { name = into; slot = slot } ∷ [])) slot asked end works)
