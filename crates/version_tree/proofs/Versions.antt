-- One version more: its prefixes, the limits, and what a step answers.
use Rattle.std.proofs.Common.{◌≡◌, ◌<◌, ◌≤◌, ◌+◌, ℕ, List, [], ◌∷◌, ◌++◌, length, take, drop, refl, ap, sym, ◌∙◌, subst, cond, arith, append_assoc, append-nil, Option, Some, None, Result, Ok, Err}
use Rattle.std.proofs.lemmas.List.{length_push, take-map, drop-map, map-append}
use Rattle.std.specs.Prelude.{is_some, is_ok}
use Rattle.cell_model.specs.declared.cell.Cell.{Cell}
use Rattle.cell_model.specs.declared.cell.CellKind.{CellKind}
use Rattle.cell_model.specs.declared.refusal.EditRefusal.{EditRefusal}
use Rattle.dataset_types.specs.declared.picks.Pick.{Pick}
use Rattle.edit_wire.specs.Answers.{Fails}
use Rattle.edit_wire.specs.declared.edit.Edit.{Edit}
use Rattle.edit_wire.specs.declared.edit.EditCell.{EditCell}
use Rattle.edit_wire.specs.declared.edit.EditFault.{EditFault}
use Rattle.edit_wire.specs.declared.edit.EditFault.TheVariants as fault
use Rattle.version_tree.specs.Versions.{cells_at}
use Rattle.version_tree.specs.Places.{on_ok, between}
use Rattle.version_tree.specs.Limits.{ids_of, prefixes_of, prefixes_after, new_prefixes, new_ids, cell_in}
use Rattle.version_tree.specs.Notebook.{NotebookData, file_in, new_cells, cell_made, made_by, plan_of, edited}
use Rattle.version_tree.specs.Calls.{Takes, Accepts, Tells}
use Rattle.version_tree.specs.Kept.{AllSmall, Small}
use Rattle.version_tree.specs.declared.version.Version.{Version}
use Rattle.version_tree.specs.declared.place.Place.{Place}
use Rattle.version_tree.specs.declared.told.Told.{Told}
use Rattle.version_tree.specs.declared.told.Told.TheVariants as told

after_push : (older vs : List Version) (v : Version) → prefixes_after older (vs ++ v ∷ []) ≡ prefixes_after older vs + new_prefixes (older ++ vs) (ids_of v.cells)
after_push older [] v =
    let e : new_prefixes older (ids_of v.cells) + 0 ≡ 0 + new_prefixes older (ids_of v.cells) = omega arith in
    e ∙ ap (λ l. 0 + new_prefixes l (ids_of v.cells)) (sym (append-nil older))
after_push older (x ∷ vs) v =
    let n = new_prefixes older (ids_of x.cells) in
    let more = after_push (older ++ x ∷ []) vs v in
    let same : new_prefixes ((older ++ x ∷ []) ++ vs) (ids_of v.cells) ≡ new_prefixes (older ++ x ∷ vs) (ids_of v.cells) = ap (λ l. new_prefixes l (ids_of v.cells)) (append_assoc older (x ∷ []) vs) in
    omega (arith, more, same)

-- a version more adds its new prefixes
pub prefixes_push : (vs : List Version) (v : Version) → prefixes_of (vs ++ v ∷ []) ≡ prefixes_of vs + new_prefixes vs (ids_of v.cells)
prefixes_push vs v = after_push [] vs v

small_cells : (vs : List Version) (v : Version) → AllSmall vs → length v.cells ≤ 48 → AllSmall (vs ++ v ∷ [])
small_cells [] v a h = (h, tt)
small_cells (x ∷ vs) v a h = (a.0, small_cells vs v a.1 h)

-- a version more keeps the limits where there is room for it
pub small_push : (vs new : List Version) (v : Version) (prefixes added : ℕ) → new ≡ vs ++ v ∷ [] → Small vs prefixes
    → added ≡ new_prefixes vs (ids_of v.cells) → prefixes_of vs + added ≤ 768 → length vs < 256 → length v.cells ≤ 48 → Small new (prefixes + added)
small_push vs new v prefixes added is s adds few room short =
    subst (λ l. Small l (prefixes + added)) (sym is) (record {
      count = omega (arith, s.count, adds, prefixes_push vs v);
      few = omega (arith, s.count, few);
      versions = omega (arith, room, length_push vs v);
      cells = small_cells vs v s.cells short;
    })

-- ---- the ids of a new version

ids_between : (place : Place) (new cells : List Cell) → ids_of (between place new cells) ≡ between place (ids_of new) (ids_of cells)
ids_between place new cells =
    let front = take place.front cells in
    let after = drop place.after cells in
    let a : ids_of (front ++ new ++ after) ≡ ids_of (front ++ new) ++ ids_of after = map-append (λ (c : Cell). c.id) (front ++ new) after in
    let b : ids_of (front ++ new) ≡ ids_of front ++ ids_of new = map-append (λ (c : Cell). c.id) front new in
    let x : ids_of front ≡ take place.front (ids_of cells) = sym (take-map (λ (c : Cell). c.id) place.front cells) in
    let y : ids_of after ≡ drop place.after (ids_of cells) = sym (drop-map (λ (c : Cell). c.id) place.after cells) in
    a ∙ ap (λ (l : List ℕ). l ++ ids_of after) b ∙ ap (λ (l : List ℕ). l ++ ids_of new ++ ids_of after) x ∙ ap (λ (l : List ℕ). take place.front (ids_of cells) ++ ids_of new ++ l) y

ids_made : (id : ℕ) (picks : List Pick) (r : Result CellKind EditRefusal) (new : List Cell) → on_ok (λ kind. Ok (record { id = id; kind = kind; picks = picks } ∷ [])) r ≡ Ok new → ids_of new ≡ id ∷ []
ids_made id picks (Ok kind) new e = let same : record { id = id; kind = kind; picks = picks } ∷ [] ≡ new = cc in ap ids_of (sym same)
ids_made id picks (Err r) new e = cc

ids_cell : (id : ℕ) (picks : List Pick) (c : Option EditCell) (t : Told) (new : List Cell) → cell_made id picks c t ≡ Ok new → ids_of new ≡ cond (is_some c) (id ∷ []) []
ids_cell id picks None t new e = let same : [] ≡ new = cc in ap ids_of (sym same)
ids_cell id picks (Some c) t new e = ids_made id picks (made_by c t) new e

-- the ids of a version that is made are those that were looked at before
pub ids_new : (vs : List Version) (picks : List Pick) (edit : Edit) (place : Place) (t : Told) (new cells : List Cell) (n : ℕ) → n ≡ length vs → new_cells (n + 1) picks edit.kind t ≡ Ok new
    → cells ≡ between place new (cells_at vs place.base) → ids_of cells ≡ new_ids vs edit place
ids_new vs picks edit place t new cells n len made is =
    ap ids_of is ∙ ids_between place new (cells_at vs place.base)
    ∙ ap (λ l. between place l (ids_of (cells_at vs place.base))) (ids_cell (n + 1) picks (cell_in edit.kind) t new made ∙ ap (λ k. cond (is_some (cell_in edit.kind)) ((k + 1) ∷ []) []) len)

-- ---- an edit that is refused before its file is asked for

asked_none : (r : Result Place EditRefusal) (e : EditRefusal) (file : Option (List ℕ)) → r ≡ Err e → cond (is_ok r) file None ≡ None
asked_none (Ok p) e file h = cc
asked_none (Err x) e file h = refl

-- a fault of the plan is the answer of the edit
pub refused : (e : EditFault) (files : Option (List (List ℕ × List ℕ))) (n : ℕ) (book : NotebookData) (edit : Edit) → Fails e (plan_of book.versions edit) → Takes (Err e) files n n book edit book
refused fault.NoMemory files n book edit f = refl
refused (fault.Refused r) files n book edit f = (
  told.NotAsked,
  subst (λ a. Tells files n n a told.NotAsked) (sym (asked_none (plan_of book.versions edit) r _ f)) (tt, refl),
  ap (on_ok (λ place. on_ok (λ new. Ok (edited book edit place new)) (new_cells (length book.versions + 1) book.picks edit.kind told.NotAsked))) f,
  refl,
)

-- ---- an edit that goes on

asked_some : (r : Result Place EditRefusal) (p : Place) (file : Option (List ℕ)) → r ≡ Ok p → cond (is_ok r) file None ≡ file
asked_some (Ok q) p file h = refl
asked_some (Err x) p file h = cc

-- what is answered with what the shelf told is the answer of the edit
pub taken : (r : Result ℕ EditFault) (files : Option (List (List ℕ × List ℕ))) (before now : ℕ) (book new : NotebookData) (edit : Edit) (place : Place) (t : Told)
    → plan_of book.versions edit ≡ Ok place → Tells files before now (file_in edit.kind) t → Accepts r book edit t new → Takes r files before now book edit new
taken (Ok n) files before now book new edit place t p tells a = (t, subst (λ f. Tells files before now f t) (sym (asked_some (plan_of book.versions edit) place _ p)) tells, a.0, a.1)
taken (Err fault.NoMemory) files before now book new edit place t p tells a = a.1
taken (Err (fault.Refused r)) files before now book new edit place t p tells a = (t, subst (λ f. Tells files before now f t) (sym (asked_some (plan_of book.versions edit) place _ p)) tells, a.0, a.1)
