-- Items that are read at places: what they read is what the expressions give over the bound rows.
use Rattle.std.proofs.Common.{◌≡◌, ℕ, zero, suc, ◌+◌, ◌<◌, ◌≤◌, false, ◌||◌, Option, Some, None, Ok, List, [], ◌∷◌, ◌++◌, map, length, drop, get_or, pos, refl, subst, ap, ◌∙◌, sym, append_assoc, append-nil, arith}
use Rattle.std.specs.Prelude.{IsTrue, slice_get}
use Rattle.std.specs.List.{cons_option, list_any}
use Rattle.std.proofs.lemmas.List.{drop_all, length-map}
use Rattle.std.proofs.Math.Bool.{or-false, or_assoc}
use Rattle.value_types.specs.declared.value.Value.{Value}
use Rattle.value_types.specs.declared.value.Value.TheVariants.{Int}
use Rattle.dataset_types.specs.declared.picks.Pick.{Pick}
use Rattle.dataset_types.specs.declared.row.Marked.{Marked}
use Rattle.dataset_types.specs.declared.row.Row.{Row}
use Rattle.cell_errors.specs.declared.fault.EvalFault.{EvalFault}
use Rattle.cell_errors.specs.declared.fault.EvalFault.TheVariants as fault
use Rattle.cell_errors.specs.Answers.{Answer, Fails}
use Rattle.cell_errors.specs.Seen.{Seen, after, seen_then}
use Rattle.expr_lang.specs.declared.expr.Expr.{Expr, CountAll}
use Rattle.expr_ops.specs.declared.aggregates.Aggregate.{Aggregate}
use Rattle.expr_ops.specs.Aggregates.{aggregate_of}
use Rattle.expr_meaning.specs.declared.bindings.Binding.{Binding}
use Rattle.expr_meaning.specs.declared.bindings.ScopeColumn.{ScopeColumn}
use Rattle.expr_meaning.specs.Settings.{at_row}
use Rattle.expr_meaning.specs.Meaning.{marked_at, over_at}
use Rattle.expr_meaning.specs.Steps.{all_marked}
use Rattle.expr_meaning.proofs.Readings.{M-Column, M-CountAll, M-Count, M-Sum, M-Min, M-Max}
use Rattle.dataset_types.specs.Tables.{row_fits, rows_fit}
use Rattle.relations.specs.Bound.{bindings}
use Rattle.relations.specs.Rels.{IsRel, bare_columns}
use Rattle.relations.specs.Places.{ReadsPlace}
use Rattle.relations.proofs.Gathered.{Each}
use Rattle.relations.proofs.Rules.{all_of}
use Rattle.rel_ops.specs.Project.{marked_value}
use Rattle.rel_group.specs.declared.parts.Lot.{Lot}
use Rattle.rel_group.specs.declared.job.Job.{Job}
use Rattle.rel_group.specs.declared.reading.Operands.{Operands}
use Rattle.rel_group.specs.Groups.{bound_rows}
use Rattle.rel_group.specs.Calls.{bound_in, expr_in, operands_at, operands_of, over_in, read_at, rows_by, setting_in, value_in, with_operand}
use Rattle.rel_group.proofs.GroupFits.{Good, good_parts, each_more}
use Rattle.rel_group.proofs.Lots.{next_rows}

-- ---- the loop over the operands

-- operands, and others after them
abbrev more_operands : Operands → Operands → Operands
more_operands a b = record { values = a.values ++ b.values; marked = a.marked || b.marked }

-- operands, and after them those at a place of these rows
unfoldable pub read_on : ℕ → Operands → List Row → Operands
read_on place all rows = more_operands all (operands_at place rows)

module _ (place : ℕ) where
  pub reading_begun : (rows : List Row) → operands_at place rows ≡ read_on place (record { values = []; marked = false }) rows
  unfolding read_on
  reading_begun rows = refl

  -- one comes after those before it
  one_before : (all : Operands) (m : Marked) (ms : List Marked) → more_operands all (operands_of (m ∷ ms)) ≡ more_operands (with_operand all m) (operands_of ms)
  one_before all m ms = rw (append_assoc, or_assoc all.marked m.marked (list_any (λ n. n.marked) ms)) refl

  one_more : (all : Operands) (r : Row) (rows : List Row) (m : Marked) → slice_get r.values place ≡ Some m →
      more_operands all (operands_at place (r ∷ rows)) ≡ more_operands (with_operand all m) (operands_at place rows)
  one_more all r rows m v = ap (λ o. more_operands all (operands_of (cons_option o (read_at place rows)))) v ∙ one_before all m (read_at place rows)

  module _ (rows : List Row) where
    next_read : (all : Operands) (ps : List ℕ) (i p : ℕ) (v : Option Marked) → i < length ps → p ≡ get_or ps i p → value_in place (slice_get rows p) ≡ v →
        more_operands all (operands_at place (rows_by rows (drop i ps)))
        ≡ more_operands all (operands_of (cons_option v (read_at place (rows_by rows (drop (i + 1) ps)))))
    next_read all ps i p v h e is =
        ap (λ z. more_operands all (operands_at place z)) (next_rows rows ps i p h e) ∙ ap (λ ms. more_operands all (operands_of ms)) (on (slice_get rows p) is)
      where
        on : (o : Option Row) → value_in place o ≡ v →
            read_at place (cons_option o (rows_by rows (drop (i + 1) ps))) ≡ cons_option v (read_at place (rows_by rows (drop (i + 1) ps)))
        on None k = ap (λ w. cons_option w (read_at place (rows_by rows (drop (i + 1) ps)))) k
        on (Some r) k = ap (λ w. cons_option w (read_at place (rows_by rows (drop (i + 1) ps)))) k

    pub operand_here : (all : Operands) (ps : List ℕ) (i p : ℕ) (m : Marked) → i < length ps → p ≡ get_or ps i p → value_in place (slice_get rows p) ≡ Some m →
        read_on place all (rows_by rows (drop i ps)) ≡ read_on place (with_operand all m) (rows_by rows (drop (i + 1) ps))
    unfolding read_on
    operand_here all ps i p m h e k = next_read all ps i p (Some m) h e k ∙ one_before all m (read_at place (rows_by rows (drop (i + 1) ps)))

    pub no_operand_here : (all : Operands) (ps : List ℕ) (i p : ℕ) → i < length ps → p ≡ get_or ps i p → value_in place (slice_get rows p) ≡ None →
        read_on place all (rows_by rows (drop i ps)) ≡ read_on place all (rows_by rows (drop (i + 1) ps))
    unfolding read_on
    no_operand_here all ps i p h e k = next_read all ps i p None h e k

    pub all_read : (all : Operands) (ps : List ℕ) (i : ℕ) → length ps ≤ i → read_on place all (rows_by rows (drop i ps)) ≡ all
    unfolding read_on
    all_read all ps i h = ap (λ z. more_operands all (operands_at place (rows_by rows z))) (drop_all i ps h) ∙ rw (append-nil, or-false all.marked) refl

pub ruleset operands = (reading_begun, operand_here, no_operand_here, all_read)

-- ---- how many rows there are

module _ (rows : List Row) where
  pub row_here : (ps : List ℕ) (i p : ℕ) (r : Row) → i < length ps → p ≡ get_or ps i p → slice_get rows p ≡ Some r →
      length (rows_by rows (drop i ps)) ≡ suc (length (rows_by rows (drop (i + 1) ps)))
  row_here ps i p r h e k = ap length (next_rows rows ps i p h e ∙ ap (λ o. cons_option o (rows_by rows (drop (i + 1) ps))) k)

  pub missing_here : (ps : List ℕ) (i p : ℕ) → i < length ps → p ≡ get_or ps i p → slice_get rows p ≡ None →
      length (rows_by rows (drop i ps)) ≡ length (rows_by rows (drop (i + 1) ps))
  missing_here ps i p h e k = ap length (next_rows rows ps i p h e ∙ ap (λ o. cons_option o (rows_by rows (drop (i + 1) ps))) k)

  pub none_left : (ps : List ℕ) (i : ℕ) → length ps ≤ i → length (rows_by rows (drop i ps)) ≡ 0
  none_left ps i h = ap (λ z. length (rows_by rows z)) (drop_all i ps h)

pub ruleset counting = (row_here, missing_here, none_left)

-- ---- rows with a value for each column

abbrev Long : List ScopeColumn → Row → Type 0
Long columns r = length r.values ≡ length columns

rows_long : (columns : List ScopeColumn) (rows : List Row) → IsTrue (rows_fit (bare_columns columns) rows) → Each (Long columns) rows
rows_long columns rows e =
    each_more (Good columns) (Long columns) (λ r g. (good_parts columns r g).0 ∙ length-map columns (λ c. c.column)) rows
    (all_of (row_fits (bare_columns columns)) rows e)

-- what holds of each row holds of those at places
each_by : (P : Row → Type 0) (rows : List Row) (ps : List ℕ) → Each P rows → Each P (rows_by rows ps)
each_by P rows [] e = tt
each_by P rows (p ∷ ps) e = on (slice_get rows p) refl (each_by P rows ps e)
  where
    got : (xs : List Row) (i : ℕ) (r : Row) → Each P xs → slice_get xs i ≡ Some r → P r
    got [] i r h k = cc
    got (x ∷ xs) zero r h k = let same : x ≡ r = cc in subst P same h.0
    got (x ∷ xs) (suc i) r h k = got xs i r h.1 k

    on : (o : Option Row) → slice_get rows p ≡ o → Each P (rows_by rows ps) → Each P (cons_option o (rows_by rows ps))
    on None is rest = rest
    on (Some r) is rest = (got rows p r e is, rest)

there : {X : Type 0} (xs : List X) (i : ℕ) → i < length xs → (x : X) × (slice_get xs i ≡ Some x)
there [] i h = absurd (omega (arith, h))
there (x ∷ xs) zero h = (x, refl)
there (x ∷ xs) (suc i) h = there xs i (omega (arith, h))

-- ---- what the operands are

module _ (columns : List ScopeColumn) (place : ℕ) (e : Expr) (reads : ReadsPlace columns place e) (within : place < length columns) (picks : List Pick) (cell : ℕ) where
  abbrev at : List Binding → Seen Value
  at b = marked_at (at_row b) picks cell e

  -- what is made of operands
  abbrev made_of : (List Value → Answer Value) → Operands → Seen Value
  made_of k all = record { marked = all.marked; answer = k all.values }

  read_all : (rows : List Row) (o : Operands) (k : List Value → Answer Value) → Each (Long columns) rows →
      after o.marked (all_marked (map at (bound_rows columns rows)) o.values k) ≡ made_of k (more_operands o (operands_at place rows))
  read_all [] o k long = rw append-nil refl
  read_all (r ∷ rows) o k long =
      let found = there r.values place (omega (arith, within, long.0)) in
      let m = found.0 in
      let rest = all_marked (map at (bound_rows columns rows)) (o.values ++ m.value ∷ []) k in
      ap (λ s. after o.marked (seen_then s (λ v. all_marked (map at (bound_rows columns rows)) (o.values ++ v ∷ []) k))) (reads r.values picks cell m long.0 found.1)
      ∙ ((λ i. record { marked = sym (or_assoc o.marked m.marked rest.marked) i; answer = rest.answer })
      ∙ (read_all rows (with_operand o m) k long.1 ∙ ap (made_of k) (sym (one_more place o r rows m found.1))))

-- an aggregate of a column, from the values at its place
pub over_reads : (job : Job) (g : Lot) (op : Aggregate) (e : Expr) (place : ℕ) → ReadsPlace job.rel.now.columns place e → place < length job.rel.now.columns →
    IsRel job.rel.now → (all : Operands) → all ≡ operands_at place (rows_by job.rel.now.rows g.rows) →
    over_in op job g e ≡ marked_value (record { marked = job.uncertain || all.marked; answer = aggregate_of op all.values })
unfolding over_at
over_reads job g op e place reads within is all are =
    ap (λ s. marked_value (after job.uncertain s))
    (read_all job.rel.now.columns place e reads within job.picks.now job.cell (rows_by job.rel.now.rows g.rows) (record { values = []; marked = false }) (aggregate_of op)
    (each_by (Long job.rel.now.columns) job.rel.now.rows g.rows (rows_long job.rel.now.columns job.rel.now.rows is.rules.fitting)))
    ∙ ap (λ o. marked_value (record { marked = job.uncertain || o.marked; answer = aggregate_of op o.values })) (sym are)

-- where the aggregate of these values fails, that of the column does
pub over_fails : (job : Job) (op : Aggregate) (all : Operands) (f : EvalFault) (a : Answer Marked) →
    a ≡ marked_value (record { marked = job.uncertain || all.marked; answer = aggregate_of op all.values }) → Fails f (aggregate_of op all.values) → Fails f a
over_fails job op all (fault.Error e) a is h = is ∙ ap (λ z. marked_value (record { marked = job.uncertain || all.marked; answer = z })) h
over_fails job op all fault.NoMemory a is h = tt

-- COUNT(*) counts the rows of the lot
pub count_reads : (job : Job) (g : Lot) →
    expr_in job g CountAll ≡ Ok (record { value = Int (pos (length (rows_by job.rel.now.rows g.rows))); marked = job.uncertain })
count_reads job g =
    ap marked_value (M-CountAll (setting_in job (bound_in job g)) job.picks.now job.cell)
    ∙ ap (λ n. Ok (record { value = Int (pos n); marked = job.uncertain })) (length-map (rows_by job.rel.now.rows g.rows) (λ r. bindings job.rel.now.columns r.values))

-- what the proof of COUNT(*) uses
pub ruleset counted = (count_reads)

-- what the proof of the items uses
pub ruleset reading = (M-Column, M-CountAll, M-Count, M-Sum, M-Min, M-Max)
