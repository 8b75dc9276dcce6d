-- LIMIT: the first rows.
use Rattle.std.specs.Prelude.{ℕ, Bool, true, false, ◌||◌, if◌then◌else◌, [], map, take}
use Rattle.dataset_types.specs.declared.row.Row.{Row}
use Rattle.cell_errors.specs.Answers.{Answer}
use Rattle.relations.specs.Rels.{RelData, rel_of, whole}
use Rattle.relations.specs.Plain.{PlainRel, plain_whole}
use Rattle.relations.specs.Shown.{ShownRel}

-- which rows are the first isn't certain
abbrev pub is_uncertain : RelData → Bool
is_uncertain rel = rel.is_open || rel.is_loose

-- a row that is unsure where there is doubt
abbrev pub doubted : Bool → Row → Row
doubted true r = record { id = r.id; sure = false; values = r.values }
doubted false r = r

-- of an open or loose relation every row is unsure and the result is open
abbrev pub limited : RelData → ℕ → Answer RelData
limited rel n = whole (rel_of rel.columns (map (doubted (is_uncertain rel)) (take n rel.rows)) (is_uncertain rel) rel.is_loose)

-- without marks
abbrev pub plain_limited : PlainRel → ℕ → Answer PlainRel
plain_limited rel n = plain_whole (record { columns = rel.columns; rows = take n rel.rows })

-- over what is shown
abbrev pub shown_limited : ShownRel → ℕ → ShownRel
shown_limited rel n = record {
  columns = rel.columns;
  rows = if rel.is_open || rel.is_loose then [] else take n rel.rows;
  is_open = rel.is_open || rel.is_loose;
  is_loose = rel.is_loose;
}
