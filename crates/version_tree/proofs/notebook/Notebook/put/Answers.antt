use Rattle.std.proofs.Common.{◌≡◌, ◌∙◌, sym, ap, arith, length, List, ℕ}
use Rattle.std.proofs.lemmas.List.{length-map}
use Rattle.cell_model.specs.declared.cell.Cell.{Cell}
use Rattle.version_tree.specs.Versions.{cells_at}
use Rattle.version_tree.specs.Places.{between}
use Rattle.version_tree.specs.Limits.{new_prefixes, ids_of, new_ids}
use Rattle.version_tree.specs.declared.version.Version.{Version}
use Rattle.version_tree.proofs.Versions.{ids_new}
use Rattle.version_tree.proofs.notebook.Notebook.put.Goals as goal

pub push-requires-clause-added : goal.push-requires-clause-added
push-requires-clause-added c =
    let vs = c.args.self.now.versions in
    let ids : ids_of c.in_ok-cells.cells ≡ new_ids vs c.args.edit.now c.args.plan.place =
    ids_new vs c.self.inside.picks c.args.edit.now c.args.plan.place c.args.told c.in_ok-new.new c.in_ok-cells.cells (length c.versions-versions.result.now)
    (ap (λ (l : List Version). length l) c.versions-versions.ensures.value) c.in_ok-new.ensures
    (c.in_ok-cells.ensures ∙ ap (λ (l : List Version). between c.args.plan.place c.in_ok-new.new (cells_at l c.args.plan.place.base)) c.versions-versions.ensures.value) in
    c.requires.added ∙ ap (new_prefixes vs) (sym ids)

pub push-requires-clause-short : goal.push-requires-clause-short
push-requires-clause-short c =
    let vs = c.args.self.now.versions in
    let ids : ids_of c.in_ok-cells.cells ≡ new_ids vs c.args.edit.now c.args.plan.place =
    ids_new vs c.self.inside.picks c.args.edit.now c.args.plan.place c.args.told c.in_ok-new.new c.in_ok-cells.cells (length c.versions-versions.result.now)
    (ap (λ (l : List Version). length l) c.versions-versions.ensures.value) c.in_ok-new.ensures
    (c.in_ok-cells.ensures ∙ ap (λ (l : List Version). between c.args.plan.place c.in_ok-new.new (cells_at l c.args.plan.place.base)) c.versions-versions.ensures.value) in
    omega (arith, ap (λ (l : List ℕ). length l) ids, length-map c.in_ok-cells.cells (λ (k : Cell). k.id), c.requires.short)
