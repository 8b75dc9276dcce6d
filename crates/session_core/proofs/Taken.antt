-- One line: what the shelf told, and what is earned.
use Rattle.std.proofs.Common.{◌≡◌, ◌≤◌, ◌+◌, ◌-◌, ◌^◌, min, ℕ, suc, List, [], ◌∷◌, ◌++◌, length, take, refl, ap, sym, ◌∙◌, subst, inl, inr, arith, Bool, true, false, cond, nat_le, Option, Some, None, option_map, unwrap_or, Result, Ok, Err, IfOk}
use Rattle.std.specs.List.{slice_get}
use Rattle.cell_model.specs.declared.cell.Cell.{Cell}
use Rattle.version_tree.specs.declared.version.Version.{Version}
use Rattle.std.proofs.lemmas.List.{length_push, take_all, length-take}
use Rattle.std.proofs.lemmas.Bool.{cases_lt, lt-leb}
use Rattle.cell_model.specs.declared.refusal.EditRefusal.{EditRefusal}
use Rattle.cell_model.specs.declared.refusal.EditRefusal.TheVariants as refusal
use Rattle.line_reader.specs.Cut.{kept_most}
use Rattle.edit_wire.specs.declared.edit.Edit.{Edit}
use Rattle.edit_wire.specs.declared.edit.EditFault.TheVariants as fault
use Rattle.edit_wire.specs.Wire.{edit_of}
use Rattle.version_tree.specs.Calls.{Takes, MayTell, Counts, Tells}
use Rattle.version_tree.specs.Notebook.{NotebookData, step, asked, after}
use Rattle.version_tree.specs.declared.told.Told.{Told}
use Rattle.version_tree.specs.declared.told.Told.TheVariants as told
use Rattle.line_reader.specs.Blanks.{is_blank}
use Rattle.report_words.specs.Reports.{said, said_by, branch_at, failure, after_said, earned, version_text, IsStarvedAt}
use Rattle.report_words.specs.declared.said.Said.TheVariants.{Nothing, Refuses, Edits}
use Rattle.session_core.specs.Earned.{Took, EarnsText, earned_text, is_starved}
use Rattle.session_core.specs.Books.{IsFront, IsVersion, IsVersionText}
use Rattle.session_core.specs.declared.earned.Earned.{Earned}
use Rattle.session_core.specs.declared.earned.Earned.TheVariants as earned
use Rattle.session_core.proofs.Fronts.{one_more, IsFront-push}

-- the count rises with what was told
rises : (before now : ℕ) (t : Told) → Counts t before now → min (before + failure t) (2 ^ 64 - 1) ≤ now
rises before now told.NotAsked h = omega (arith, h)
rises before now told.Failed h = h
rises before now (told.Got f) h = omega (arith, h)

-- an accepted edit makes one version
pub step_grows : (book more : NotebookData) (edit : Edit) (t : Told) → step book edit t ≡ Ok more → length more.versions ≡ suc (length book.versions)
step_grows book more edit t h =
    let one = one_more book more edit t h in
    omega (arith, ap (λ l. length l) one.versions, length_push book.versions (record { branch = edit.branch; cells = one.cells }))

-- the last of some versions
last_there : (vs : List Version) (v : Version) → slice_get (vs ++ v ∷ []) (length vs) ≡ Some v
last_there [] v = refl
last_there (w ∷ vs) v = last_there vs v

-- the new version stands on the edit's branch
pub branch_made : (files : Option (List (List ℕ × List ℕ))) (before now : ℕ) (book more : NotebookData) (n : ℕ) (edit : Edit)
    → Takes (Ok n) files before now book edit more → edit.branch ≡ branch_at more n
branch_made files before now book more n edit (t, tells, e, len) =
    let one = one_more book more edit t e in
    let v : Version = record { branch = edit.branch; cells = one.cells } in
    let number : n ≡ suc (length book.versions) = len ∙ step_grows book more edit t e in
    let there : slice_get more.versions (length book.versions) ≡ Some v =
    ap (λ (vs : List Version). slice_get vs (length book.versions)) one.versions ∙ last_there book.versions v in
    sym (ap (branch_at more) number ∙ ap (λ (o : Option Version). unwrap_or (option_map (λ (w : Version). w.branch) o) []) there)

-- the kept runs are still those of the first versions
pub front_made : (kept : List (List Cell)) (files : Option (List (List ℕ × List ℕ))) (before now : ℕ) (book more : NotebookData) (n : ℕ) (edit : Edit)
    → Takes (Ok n) files before now book edit more → IsFront kept book.versions → IsFront kept more.versions
front_made kept files before now book more n edit (t, tells, e, len) is =
    let one = one_more book more edit t e in
    subst (IsFront kept) (sym one.versions) (IsFront-push kept book.versions (record { branch = edit.branch; cells = one.cells }) is)

-- what the new version earns is what the line earns
made_text : (b : Bool) (text : List ℕ) (book more : NotebookData) (line n : ℕ) (edit : Edit) (t : Told) → step book edit t ≡ Ok more → n ≡ length more.versions
    → IsVersionText b text more n → EarnsText b text book line (Edits edit) t
made_text false text book more line n edit t e is v = v ∙ ap (version_text more) is ∙ ap (earned line) (sym e)
made_text true text book more line n edit t e is v =
    let same : more ≡ after_said book (Edits edit) t = ap (after book) (sym e) in
    let grows : n ≡ suc (length book.versions) = is ∙ step_grows book more edit t e in (
      ap (λ (k : NotebookData). length k.versions) (sym same) ∙ step_grows book more edit t e,
      subst (λ k. IsStarvedAt k (suc (length book.versions)) text) same (subst (λ k. IsStarvedAt more k text) grows v),
    )

pub took_made : {E : Type 0} (r : Result Earned E) (files : Option (List (List ℕ × List ℕ))) (before now : ℕ) (book more : NotebookData) (line n : ℕ) (edit : Edit)
    → Takes (Ok n) files before now book edit more → IfOk r (λ e. IsVersion e more n) → IfOk r (λ e. Took files before now book line (Edits edit) e more)
took_made (Err e) files before now book more line n edit a v = tt
took_made (Ok x) files before now book more line n edit (t, tells, e, len) v =
    (t, tells.0, rises before now t tells.1, ap (after book) (sym e), made_text (is_starved x) (earned_text line x) book more line n edit t e len (v line))

pub took_refused : (files : Option (List (List ℕ × List ℕ))) (before now : ℕ) (book more : NotebookData) (line : ℕ) (r : EditRefusal) (edit : Edit)
    → Takes (Err (fault.Refused r)) files before now book edit more → Took files before now book line (Edits edit) (earned.Refusal r) more
took_refused files before now book more line r edit (t, tells, e, same) =
    (t, tells.0, rises before now t tells.1, same ∙ ap (after book) (sym e), ap (earned line) (sym e))

-- ---- what is kept of a line tells what it says

said_where : (b : Bool) (line kept : List ℕ) → nat_le (length line) 65536 ≡ b → nat_le (length kept) 65536 ≡ b → (b ≡ true → kept ≡ line) → said kept ≡ said line
unfolding said
said_where true line kept x y h = ap said (h refl)
said_where false line kept x y h =
    ap (λ t. cond t (cond (is_blank kept) Nothing (said_by (edit_of kept))) (Refuses refusal.LineTooLong)) y
    ∙ sym (ap (λ t. cond t (cond (is_blank line) Nothing (said_by (edit_of line))) (Refuses refusal.LineTooLong)) x)

pub said_kept : (line kept : List ℕ) → kept ≡ take kept_most line → said kept ≡ said line
said_kept line kept is =
    elim (cases_lt 65536 (length line)) [
      | inl lt ↦ said_where false line kept (lt-leb (length line) 65536 lt) (lt-leb (length kept) 65536 (omega (arith, lt, ap (λ (l : List ℕ). length l) is, length-take kept_most line))) (λ e. cc)
      | inr le ↦
          let all : kept ≡ line = is ∙ take_all kept_most line (omega (arith, le)) in
          ap said all
    ]
