-- Edits, and their lines, are read back from their JSON.
use Rattle.std.proofs.Common.{◌≡◌, ℕ, ◌<◌, ◌≤◌, ◌^◌, List, Some, Ok, codes, refl, sym, subst, arith}
use Rattle.std.specs.Prelude.{IsUtf8}
use Rattle.std.proofs.lemmas.Str.{is_utf8-from_IsUtf8}
use Rattle.serde_json.specs.Data.{Data, unsigned, number, string, object, member, no_members, depth}
use Rattle.serde_json.specs.Read.{read, max_depth}
use Rattle.edit_wire.specs.declared.edit.Edit.{Edit}
use Rattle.edit_wire.specs.declared.edit.EditCell.{EditCell}
use Rattle.edit_wire.specs.declared.edit.EditKind.TheVariants as kind
use Rattle.edit_wire.specs.Cells.{cell_of}
use Rattle.json_fields.specs.Values.{name_in}
use Rattle.json_glance.specs.Line.{json_of}
use Rattle.edit_wire.specs.Wire.{edit_on, edit_in, edit_of}
use Rattle.json_fields.proofs.Ranges.{in_range}
use Rattle.json_fields.specs.Written.{IsJsonOf}

-- ---- objects of an edit's fields

pub append_back : (branch : List ℕ) (cell : EditCell) (d named celled : Data) → IsJsonOf name_in 0 branch named → IsJsonOf cell_of 4 cell celled
    → d ≡ object (member (codes "branch") named (member (codes "cell") celled (member (codes "edit") (string (codes "append")) no_members)))
    → IsJsonOf edit_in 5 (edit_on branch (kind.Append cell)) d
unfolding edit_in
append_back branch cell d named celled name of made =
    subst (IsJsonOf edit_in 5 (edit_on branch (kind.Append cell))) (sym made) (record {
      read = rw (name.read, of.read) refl;
      depth = omega (arith, name.depth, of.depth);
    })

pub insert_back : (branch : List ℕ) (at : ℕ) (cell : EditCell) (d named celled : Data) → at < 2 ^ 32 → IsJsonOf name_in 0 branch named → IsJsonOf cell_of 4 cell celled
    → d ≡ object (member (codes "at") (number (unsigned at)) (member (codes "branch") named (member (codes "cell") celled (member (codes "edit") (string (codes "insert")) no_members))))
    → IsJsonOf edit_in 5 (edit_on branch (kind.Insert at cell)) d
unfolding edit_in
insert_back branch at cell d named celled small name of made =
    subst (IsJsonOf edit_in 5 (edit_on branch (kind.Insert at cell))) (sym made) (record {
      read = rw (name.read, of.read, in_range at small) refl;
      depth = omega (arith, name.depth, of.depth);
    })

pub update_back : (branch : List ℕ) (at : ℕ) (cell : EditCell) (d named celled : Data) → at < 2 ^ 32 → IsJsonOf name_in 0 branch named → IsJsonOf cell_of 4 cell celled
    → d ≡ object (member (codes "at") (number (unsigned at)) (member (codes "branch") named (member (codes "cell") celled (member (codes "edit") (string (codes "update")) no_members))))
    → IsJsonOf edit_in 5 (edit_on branch (kind.Update at cell)) d
unfolding edit_in
update_back branch at cell d named celled small name of made =
    subst (IsJsonOf edit_in 5 (edit_on branch (kind.Update at cell))) (sym made) (record {
      read = rw (name.read, of.read, in_range at small) refl;
      depth = omega (arith, name.depth, of.depth);
    })

pub delete_back : (branch : List ℕ) (at : ℕ) (d named : Data) → at < 2 ^ 32 → IsJsonOf name_in 0 branch named
    → d ≡ object (member (codes "at") (number (unsigned at)) (member (codes "branch") named (member (codes "edit") (string (codes "delete")) no_members)))
    → IsJsonOf edit_in 5 (edit_on branch (kind.Delete at)) d
unfolding edit_in
delete_back branch at d named small name made =
    subst (IsJsonOf edit_in 5 (edit_on branch (kind.Delete at))) (sym made) (record {
      read = rw (name.read, in_range at small) refl;
      depth = omega (arith, name.depth);
    })

pub branch_back : (branch : List ℕ) (from : ℕ) (d named : Data) → from < 2 ^ 32 → IsJsonOf name_in 0 branch named
    → d ≡ object (member (codes "branch") named (member (codes "edit") (string (codes "branch")) (member (codes "from") (number (unsigned from)) no_members)))
    → IsJsonOf edit_in 5 (edit_on branch (kind.Branch from)) d
unfolding edit_in
branch_back branch from d named small name made =
    subst (IsJsonOf edit_in 5 (edit_on branch (kind.Branch from))) (sym made) (record {
      read = rw (name.read, in_range from small) refl;
      depth = omega (arith, name.depth);
    })

-- ---- lines

-- the text of an edit's JSON is a line of the edit
pub line_back : (e : Edit) (d : Data) (line : List ℕ) → IsJsonOf edit_in 5 e d → IsUtf8 line → (depth d ≤ max_depth → read line ≡ Some d) → edit_of line ≡ Ok e
unfolding json_of
line_back e d line of utf8 reads =
    let there : read line ≡ Some d = reads (omega (arith, of.depth)) in
    rw (is_utf8-from_IsUtf8 line utf8, there, of.read) refl
