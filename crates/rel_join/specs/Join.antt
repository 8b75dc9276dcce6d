-- JOIN and LEFT JOIN, left row by left row.
use Rattle.std.specs.Prelude.{ℕ, Bool, true, false, not, ◌&&◌, ◌||◌, ◌*◌, nat_le, is_none, length, replicate, Some, Ok, Err, List, [], ◌∷◌, ◌++◌}
use Rattle.std.specs.List.{flat_map, list_any}
use Rattle.value_types.specs.declared.value.Value.{Value}
use Rattle.value_types.specs.declared.value.Value.TheVariants.{Null}
use Rattle.value_types.specs.declared.row_id.RowId.{Pair, Alone}
use Rattle.dataset_types.specs.declared.picks.Pick.{Pick}
use Rattle.dataset_types.specs.declared.row.Marked.{Marked}
use Rattle.dataset_types.specs.declared.row.Row.{Row}
use Rattle.dataset_types.specs.Plain.{PlainRow}
use Rattle.caveat_marks.specs.Shown.{ShownRow}
use Rattle.cell_errors.specs.Answers.{Answer, and_then}
use Rattle.cell_errors.specs.declared.fault.CellError.TheVariants.{TooLarge}
use Rattle.expr_lang.specs.declared.expr.Expr.{Expr}
use Rattle.expr_meaning.specs.declared.bindings.ScopeColumn.{ScopeColumn}
use Rattle.expr_meaning.specs.Known.{Known}
use Rattle.expr_meaning.specs.Meaning.{marked_over_row, plain_over_row, known_over_row}
use Rattle.relations.specs.declared.batch.Batch.{Batch}
use Rattle.relations.specs.Rels.{RelData, rel_of, whole}
use Rattle.relations.specs.Bound.{bindings, plain_bindings, known_bindings}
use Rattle.relations.specs.Batches.{gathered}
use Rattle.relations.specs.Conditions.{test_of, kept_if, kept, plain_kept, known_true}
use Rattle.relations.specs.Plain.{PlainRel, listed, plain_whole}
use Rattle.relations.specs.Shown.{ShownRel}
use Rattle.rel_join.specs.declared.kind.Kind.{Kind}
use Rattle.rel_join.specs.declared.kind.Kind.TheVariants.{Inner, Outer}

-- nothing, or that it is too much
abbrev pub allowed : Bool → Answer (Unit {0})
allowed true = Ok tt
allowed false = Err TooLarge

-- at most 16,000,000 pairs are looked at
abbrev pub few_pairs : ℕ → ℕ → Answer (Unit {0})
few_pairs m n = allowed (nat_le (m * n) 16000000)

-- two rows as one, sure where both are
abbrev pub paired : Row → Row → Row
paired l r = record { id = Pair l.id r.id; sure = l.sure && r.sure; values = l.values ++ r.values }

module _ (left right : List ScopeColumn) (on : Expr) (picks : List Pick) (cell : ℕ) where
  -- the pair where ON is TRUE, unsure where that is marked
  abbrev pub pair_row : Row → Row → Answer Batch
  pair_row l r =
      and_then (test_of (marked_over_row (bindings left l.values ++ bindings right r.values) picks cell on)) (λ t.
      Ok (kept (paired l r) t))

  -- the pairs of a left row
  abbrev pub pairs_of : List Row → Row → Answer Batch
  pairs_of rs l = gathered (pair_row l) rs

-- NULL, without a mark
abbrev pub null_value : Marked
null_value = record { value = Null; marked = false }

-- a left row without a pair: sure where it was, the right side is closed and no ON of it is marked
abbrev pub alone : ℕ → Bool → Bool → Row → Row
alone width right_open marked l = record {
  id = Alone l.id;
  sure = l.sure && (not right_open && not marked);
  values = l.values ++ replicate width null_value;
}

-- that row where there is no other
abbrev pub or_one : {A : Type 0} → List A → A → List A
or_one [] x = x ∷ []
or_one (y ∷ ys) x = y ∷ ys

-- LEFT JOIN keeps a left row that has no pair
abbrev pub by_kind : Kind → ℕ → Bool → Row → Batch → Batch
by_kind Inner width right_open l b = b
by_kind Outer width right_open l b = record { rows = or_one b.rows (alone width right_open b.marked l); marked = b.marked }

-- what a join makes of a left row
abbrev pub left_row : Kind → List ScopeColumn → RelData → Expr → List Pick → ℕ → Row → Answer Batch
left_row kind left b on picks cell l =
    and_then (pairs_of left b.columns on picks cell b.rows l) (λ m. Ok (by_kind kind (length b.columns) b.is_open l m))

-- the result of a join of these rows: open where a side is or an ON is marked, loose where a side is
abbrev pub joined_of : RelData → RelData → Batch → Answer RelData
joined_of a b m =
    whole (rel_of (a.columns ++ b.columns) m.rows ((a.is_open || b.is_open) || m.marked) (a.is_loose || b.is_loose))

-- what it makes of all left rows, where the whole is within the limits
abbrev pub all_pairs : Kind → RelData → RelData → Expr → List Pick → ℕ → Answer RelData
all_pairs kind a b on picks cell = and_then (gathered (left_row kind a.columns b on picks cell) a.rows) (joined_of a b)

-- the number of pairs is looked at first
abbrev pub joined : Kind → RelData → RelData → Expr → List Pick → ℕ → Answer RelData
joined kind a b on picks cell = and_then (few_pairs (length a.rows) (length b.rows)) (λ u. all_pairs kind a b on picks cell)

-- ---- without marks

-- two rows as one
abbrev pub plain_paired : PlainRow → PlainRow → PlainRow
plain_paired l r = record { id = Pair l.id r.id; values = l.values ++ r.values }

-- the pair where ON is TRUE
abbrev pub plain_pair : List ScopeColumn → List ScopeColumn → Expr → List Pick → ℕ → PlainRow → PlainRow → Answer (List PlainRow)
plain_pair left right on picks cell l r =
    plain_kept (plain_paired l r) (plain_over_row (plain_bindings left l.values ++ plain_bindings right r.values) picks cell on)

-- a left row without a pair
abbrev pub plain_alone : ℕ → PlainRow → PlainRow
plain_alone width l = record { id = Alone l.id; values = l.values ++ replicate width Null }

-- LEFT JOIN keeps a left row that has no pair
abbrev pub plain_by_kind : Kind → ℕ → PlainRow → List PlainRow → List PlainRow
plain_by_kind Inner width l rows = rows
plain_by_kind Outer width l rows = or_one rows (plain_alone width l)

-- what a join makes of a left row
abbrev pub plain_left : Kind → List ScopeColumn → PlainRel → Expr → List Pick → ℕ → PlainRow → Answer (List PlainRow)
plain_left kind left b on picks cell l =
    and_then (listed (plain_pair left b.columns on picks cell l) b.rows) (λ rows. Ok (plain_by_kind kind (length b.columns) l rows))

-- what it makes of all left rows, where the whole is within the limits
abbrev pub plain_pairs : Kind → PlainRel → PlainRel → Expr → List Pick → ℕ → Answer PlainRel
plain_pairs kind a b on picks cell =
    and_then (listed (plain_left kind a.columns b on picks cell) a.rows) (λ rows.
    plain_whole (record { columns = a.columns ++ b.columns; rows = rows }))

-- the number of pairs is looked at first
abbrev pub plain_joined : Kind → PlainRel → PlainRel → Expr → List Pick → ℕ → Answer PlainRel
plain_joined kind a b on picks cell = and_then (few_pairs (length a.rows) (length b.rows)) (λ u. plain_pairs kind a b on picks cell)

-- ---- over what is shown

-- two rows as one
abbrev pub shown_paired : ShownRow → ShownRow → ShownRow
shown_paired l r = record { id = Pair l.id r.id; values = l.values ++ r.values }

module _ (left right : List ScopeColumn) (on : Expr) where
  -- what is known of ON
  abbrev pub known_on : ShownRow → ShownRow → Known Value
  known_on l r = known_over_row (known_bindings left l.values ++ known_bindings right r.values) on

  -- the pairs whose ON is known to be TRUE
  abbrev pub shown_pairs : List ShownRow → ShownRow → List ShownRow
  shown_pairs rs l = flat_map (λ r. kept_if (known_true (known_on l r)) (shown_paired l r)) rs

  -- whether an ON isn't known
  abbrev pub unknown_on : List ShownRow → ShownRow → Bool
  unknown_on rs l = list_any (λ r. is_none (known_on l r)) rs

-- a left row without a pair, whose NULLs are known
abbrev pub shown_alone : ℕ → ShownRow → ShownRow
shown_alone width l = record { id = Alone l.id; values = l.values ++ replicate width (Some Null) }

-- a left row is known to have no pair where the right side is closed and each ON is known
abbrev pub or_alone : List ShownRow → Bool → ShownRow → List ShownRow
or_alone [] certain x = kept_if certain x
or_alone (y ∷ ys) certain x = y ∷ ys

-- what a join makes of a left row: its known pairs, and at LEFT JOIN itself where it is known to have none
abbrev pub shown_left : Kind → List ScopeColumn → ShownRel → Expr → ShownRow → List ShownRow
shown_left Inner left b on l = shown_pairs left b.columns on b.rows l
shown_left Outer left b on l =
    or_alone (shown_pairs left b.columns on b.rows l) (not b.is_open && not (unknown_on left b.columns on b.rows l))
    (shown_alone (length b.columns) l)

-- the same of all left rows: open where a side is or an ON is unknown, loose where a side is
abbrev pub shown_joined : Kind → ShownRel → ShownRel → Expr → ShownRel
shown_joined kind a b on = record {
  columns = a.columns ++ b.columns;
  rows = flat_map (shown_left kind a.columns b on) a.rows;
  is_open = (a.is_open || b.is_open) || list_any (unknown_on a.columns b.columns on b.rows) a.rows;
  is_loose = a.is_loose || b.is_loose;
}
