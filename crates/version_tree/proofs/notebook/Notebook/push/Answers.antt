use Rattle.std.proofs.Common.{◌≡◌, ◌∙◌, ◌≤◌, ◌<◌, ◌+◌, sym, ap, subst, List, length, take}
use Rattle.version_tree.specs.Versions.{cells_at}
use Rattle.version_tree.specs.Limits.{new_prefixes, prefixes_of, ids_of}
use Rattle.version_tree.specs.Kept.{InPlace}
use Rattle.version_tree.specs.Notebook.{NotebookData}
use Rattle.version_tree.specs.declared.version.Version.{Version}
use Rattle.version_tree.proofs.Cells.{shares_push}
use Rattle.version_tree.proofs.Versions.{small_push}
use Rattle.version_tree.proofs.notebook.Notebook.push.Goals as goal

pub invariant_of-self-2 : goal.invariant_of-self-2
invariant_of-self-2 c =
    let v = c.args.version in
    let n = c.args.added in
    let place = c.args.place in
    let is = ap (λ (b : NotebookData). b.versions) (sym c.self.view_is) in (
      small_push c.self.inside.versions.items c.push.new.self.items v c.self.inside.prefixes n c.in_ok-push.ensures.items c.self.invariant.0
          (c.requires.added ∙ ap (λ (l : List Version). new_prefixes l (ids_of v.cells)) is)
          (subst (λ (l : List Version). prefixes_of l + n ≤ 768) is c.requires.few)
          (subst (λ (l : List Version). length l < 256) is c.requires.room) c.requires.short,
      shares_push c.self.inside.versions.items c.push.new.self.items v place c.in_ok-push.ensures.items
          (subst (λ (l : List Version). InPlace l place) is c.requires.inside)
          (subst (λ (l : List Version). take place.front (cells_at l place.base) ≡ take place.front v.cells) is c.requires.base) c.requires.front,
    )
