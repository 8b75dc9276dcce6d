-- What a condition makes of a row: with marks, without them, and over what is shown.
use Rattle.std.specs.Prelude.{Bool, true, false, not, ◌&&◌, Some, None, Ok, Err, List, [], ◌∷◌}
use Rattle.value_types.specs.declared.value.Value.{Value}
use Rattle.dataset_types.specs.declared.row.Row.{Row}
use Rattle.dataset_types.specs.Plain.{PlainRow}
use Rattle.cell_errors.specs.Answers.{Answer, and_then}
use Rattle.cell_errors.specs.Seen.{Seen}
use Rattle.expr_ops.specs.Truths.{is_true}
use Rattle.expr_meaning.specs.Known.{Known}
use Rattle.relations.specs.declared.batch.Batch.{Batch}
use Rattle.relations.specs.declared.condition.Test.{Test}

-- whether a condition is TRUE, and the mark of its value
abbrev pub test_of : Seen Value → Answer Test
test_of s = and_then s.answer (λ v. and_then (is_true v) (λ t. Ok (record { holds = t; marked = s.marked })))

-- a list of one where it holds, else of none
abbrev pub kept_if : {A : Type 0} → Bool → A → List A
kept_if true x = x ∷ []
kept_if false x = []

-- the row where the condition is TRUE, unsure where that is marked; a mark opens whether the row is kept or not
abbrev pub kept : Row → Test → Batch
kept r t = record {
  rows = kept_if t.holds (record { id = r.id; sure = r.sure && not t.marked; values = r.values });
  marked = t.marked;
}

-- without marks: the row where the condition is TRUE
abbrev pub plain_kept : PlainRow → Answer Value → Answer (List PlainRow)
plain_kept r a = and_then a (λ v. and_then (is_true v) (λ t. Ok (kept_if t r)))

-- whether a test holds; an error holds nothing
abbrev pub holds : Answer Bool → Bool
holds (Ok t) = t
holds (Err e) = false

-- whether a condition is known to be TRUE
abbrev pub known_true : Known Value → Bool
known_true None = false
known_true (Some a) = holds (and_then a is_true)
