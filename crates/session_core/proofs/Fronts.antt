-- Runs that are kept for the first versions.
use Rattle.std.proofs.Common.{◌≡◌, ◌≤◌, ◌+◌, ℕ, zero, suc, List, [], ◌∷◌, ◌++◌, length, map, take, get_or, refl, ap, sym, ◌∙◌, subst, arith, Result, Ok, Err, IfOk, OnErr, ◌⊎◌, inl, inr}
use Rattle.std.proofs.lemmas.List.{length-take, length-map, take-append-le, map-append, length_push, take_more}
use Rattle.dataset_types.specs.declared.slot.Slot.{Slot}
use Rattle.cell_model.specs.declared.cell.Cell.{Cell}
use Rattle.cell_model.specs.declared.cell_result.CellResult.{CellResult}
use Rattle.cell_model.specs.declared.refusal.EditRefusal.{EditRefusal}
use Rattle.cell_model.specs.declared.run.Policy.{Policy}
use Rattle.cell_model.specs.declared.run.Ran.{Ran}
use Rattle.kept_runs.specs.Kept.{KeptData, IsDone}
use Rattle.version_tree.specs.Versions.{cells_at}
use Rattle.cell_model.specs.Trails.{Follows}
use Rattle.cell_model.proofs.RunLemmas.{Follows-none}
use Rattle.edit_wire.specs.declared.edit.Edit.{Edit}
use Rattle.version_tree.specs.Notebook.{NotebookData, step, edited, new_cells, plan_of}
use Rattle.version_tree.specs.Places.{on_ok}
use Rattle.version_tree.specs.declared.place.Place.{Place}
use Rattle.version_tree.specs.declared.told.Told.{Told}
use Rattle.version_tree.specs.declared.version.Version.{Version}
use Rattle.session_core.specs.Books.{IsFront}

-- a run from nothing follows no steps
pub from_nothing : (m : Cell → (List ℕ → Slot) → CellResult) (p : Policy) (cells : List Cell) → Follows m p [] cells
from_nothing m p cells = Follows-none m p cells

-- no more runs are kept than there are versions
pub IsFront-length : (kept : List (List Cell)) (vs : List Version) → IsFront kept vs → length kept ≤ length vs
IsFront-length kept vs is = omega (arith, ap (λ (l : List (List Cell)). length l) is, length-take (length kept) (map (λ (v : Version). v.cells) vs), length-map vs (λ (v : Version). v.cells))

-- with one version more they are still those of the first
pub IsFront-push : (kept : List (List Cell)) (vs : List Version) (v : Version) → IsFront kept vs → IsFront kept (vs ++ v ∷ [])
IsFront-push kept vs v is =
    let xs = map (λ (w : Version). w.cells) vs in
    let le : length kept ≤ length xs = omega (arith, IsFront-length kept vs is, length-map vs (λ (w : Version). w.cells)) in
    is ∙ sym (take-append-le (length kept) xs (v.cells ∷ []) le) ∙ ap (take (length kept)) (sym (map-append (λ (w : Version). w.cells) vs (v ∷ [])))

-- an accepted edit makes one version, on its branch
pub record OneMore (book more : NotebookData) (edit : Edit) : Type 0 where
  pub cells : List Cell
  pub versions : more.versions ≡ book.versions ++ record { branch = edit.branch; cells = cells } ∷ []

one_by : (book more : NotebookData) (edit : Edit) (place : Place) (r : Result (List Cell) EditRefusal)
    → on_ok (λ new. Ok (edited book edit place new)) r ≡ Ok more → OneMore book more edit
one_by book more edit place (Err e) h = cc
one_by book more edit place (Ok cells) h =
    let same : edited book edit place cells ≡ more = cc in
    record { cells = _; versions = sym (ap (λ (b : NotebookData). b.versions) same) }

one_at : (book more : NotebookData) (edit : Edit) (t : Told) (r : Result Place EditRefusal)
    → on_ok (λ place. on_ok (λ new. Ok (edited book edit place new)) (new_cells (length book.versions + 1) book.picks edit.kind t)) r ≡ Ok more → OneMore book more edit
one_at book more edit t (Err e) h = cc
one_at book more edit t (Ok place) h = one_by book more edit place (new_cells (length book.versions + 1) book.picks edit.kind t) h

pub one_more : (book more : NotebookData) (edit : Edit) (t : Told) → step book edit t ≡ Ok more → OneMore book more edit
one_more book more edit t h = one_at book more edit t (plan_of book.versions edit) h

-- the cells of a version stand at its place
cells_there : (vs : List Version) (i : ℕ) → cells_at vs (suc i) ≡ get_or (map (λ (v : Version). v.cells) vs) i []
cells_there [] zero = refl
cells_there [] (suc i) = refl
cells_there (v ∷ vs) zero = refl
cells_there (v ∷ vs) (suc i) = cells_there vs i

-- with the run of the next version the kept runs are still those of the first
IsFront-next : (kept : List (List Cell)) (vs : List Version) (cells : List Cell) → length kept + 1 ≡ length vs → cells ≡ cells_at vs (length vs) → IsFront kept vs → IsFront (kept ++ cells ∷ []) vs
IsFront-next kept vs cells next is front =
    let xs = map (λ (v : Version). v.cells) vs in
    let n = length kept in
    let last : length vs ≡ suc n = omega (arith, next) in
    let here : cells ≡ get_or xs n [] = is ∙ ap (cells_at vs) last ∙ cells_there vs n in
    ap (λ (l : List (List Cell)). l ++ cells ∷ []) front ∙ ap (λ c. take n xs ++ c ∷ []) here
    ∙ sym (take_more xs n [] (omega (arith, next, length-map vs (λ (v : Version). v.cells))))
    ∙ ap (λ k. take k xs) (sym (length_push kept cells))

-- a run leaves the kept runs those of the first versions
pub run_front : {E : Type 0} (r : Result Ran E) (kept after : KeptData) (vs : List Version) (cells : List Cell) → length kept.versions + 1 ≡ length vs → cells ≡ cells_at vs (length vs)
    → IfOk r (λ x. IsDone x → after ≡ record kept { versions = kept.versions ++ cells ∷ [] }) → IfOk r (λ x. IsDone x ⊎ (after ≡ kept)) → OnErr r (after ≡ kept)
    → IsFront kept.versions vs → IsFront after.versions vs
run_front (Ok x) kept after vs cells next is done starved err front =
    elim starved [
      | inl d ↦ subst (λ (k : KeptData). IsFront k.versions vs) (sym (done d)) (IsFront-next kept.versions vs cells next is front)
      | inr same ↦ subst (λ (k : KeptData). IsFront k.versions vs) (sym same) front
    ]
run_front (Err e) kept after vs cells next is done starved err front = subst (λ (k : KeptData). IsFront k.versions vs) (sym err) front
