-- What a name stands for among columns is the value at the place of its column.
use Rattle.std.proofs.Common.{◌≡◌, ℕ, ◌+◌, length, Option, Some, None, Ok, Err, List, [], ◌∷◌, ◌++◌, map, arith, refl, ap, subst, sym, ◌∙◌}
use Rattle.std.specs.Prelude.{slice_get, IfSome, Result}
use Rattle.std.specs.Result.{result_ok}
use Rattle.std.proofs.lemmas.List.{length-append}
use Rattle.cell_errors.specs.Answers.{Answer}
use Rattle.cell_errors.specs.declared.fault.CellError.{CellError}
use Rattle.dataset_types.specs.declared.row.Marked.{Marked}
use Rattle.expr_lang.specs.declared.expr.Expr.{Column}
use Rattle.expr_meaning.specs.declared.bindings.Binding.{Binding}
use Rattle.expr_meaning.specs.declared.bindings.ScopeColumn.{ScopeColumn}
use Rattle.expr_meaning.specs.Names.{Name}
use Rattle.expr_meaning.specs.Settings.{at_row}
use Rattle.expr_meaning.specs.Meaning.{seen_of, find}
use Rattle.expr_meaning.specs.Sees.{seen}
use Rattle.expr_meaning.proofs.Alike.{Each, Both, meant_each}
use Rattle.expr_meaning.proofs.Readings.{M-Column}
use Rattle.relations.specs.declared.places.ColumnAt.{ColumnAt}
use Rattle.relations.specs.Bound.{bindings}
use Rattle.relations.specs.Places.{placed_from, find_placed, place_of, ReadsPlace}
use Rattle.relations.proofs.Gathered.{fine, the_same, then_ok}

-- the columns that were placed
pub columns_of : (cs : List ScopeColumn) (n : ℕ) → map (λ (p : ColumnAt). p.column) (placed_from n cs) ≡ cs
columns_of [] n = refl
columns_of (c ∷ cs) n = ap (λ z. c ∷ z) (columns_of cs (n + 1))

the_value : (m n : Marked) → Some m ≡ Some n → m ≡ n
the_value m n e = cc

-- ---- a name

seam : (pre : List Marked) (m : Marked) (ms : List Marked) → pre ++ (m ∷ ms) ≡ (pre ++ m ∷ []) ++ ms
seam [] m ms = refl
seam (p ∷ pre) m ms = ap (λ z. p ∷ z) (seam pre m ms)

at_seam : (pre : List Marked) (m : Marked) (ms : List Marked) → slice_get (pre ++ m ∷ ms) (length pre) ≡ Some m
at_seam [] m ms = refl
at_seam (p ∷ pre) m ms = at_seam pre m ms

module _ (values : List Marked) where
  -- a binding with the name of a column and the value at its place
  abbrev Stands : ColumnAt → Binding → Type 0
  Stands p b = (p.column.qualifier ≡ b.qualifier) × (p.column.column.name ≡ b.name) × (slice_get values p.place ≡ Some b.value)

  abbrev AllStand : List ColumnAt → List Binding → Type 0
  AllStand = Each ColumnAt Binding (λ p. p.column.qualifier) (λ p. p.column.column.name) (λ b. b.qualifier) (λ b. b.name) Stands (λ p b s. s.0) (λ p b s. s.1)

  abbrev BothStand : Answer ColumnAt → Answer Binding → Type 0
  BothStand = Both ColumnAt Binding (λ p. p.column.qualifier) (λ p. p.column.column.name) (λ b. b.qualifier) (λ b. b.name) Stands (λ p b s. s.0) (λ p b s. s.1)

  -- the columns from a place on, and the values there
  all_stand : (cs : List ScopeColumn) (ms pre : List Marked) (n : ℕ) → values ≡ pre ++ ms → n ≡ length pre → length ms ≡ length cs → AllStand (placed_from n cs) (bindings cs ms)
  all_stand [] ms pre n v l k = tt
  all_stand (c ∷ cs) [] pre n v l k = absurd (omega arith)
  all_stand (c ∷ cs) (m ∷ ms) pre n v l k =
      let longer = length-append pre (m ∷ []) in
      ((refl, refl, rw (v, l) (at_seam pre m ms)), all_stand cs ms (pre ++ m ∷ []) (n + 1) (v ∙ seam pre m ms) (omega arith) (omega arith))

  -- a column that is found is found with its value
  found_too : (at : ColumnAt) (m : Marked) (a : Answer ColumnAt) (b : Answer Binding) → BothStand a b → a ≡ Ok at → slice_get values at.place ≡ Some m → seen_of b ≡ seen m
  found_too at m (Ok p) (Ok b) s e here = of (the_value b.value m (sym s.2 ∙ (ap (λ (a : Answer ColumnAt). place_in a) e ∙ here)))
    where
      place_in : Answer ColumnAt → Option Marked
      place_in (Ok q) = slice_get values q.place
      place_in (Err d) = None

      of : b.value ≡ m → seen_of (Ok b) ≡ seen m
      of h = ap seen h
  found_too at m (Ok p) (Err d) s e here = absurd s
  found_too at m (Err d) b s e here = cc

-- a name that stands for a column reads the value at its place
column_reads : (columns : List ScopeColumn) (q : Option Name) (name : Name) (at : ColumnAt) → find_placed columns q name ≡ Ok at →
    ReadsPlace columns at.place (Column q name)
column_reads columns q name at e values picks cell m fits here =
    M-Column (at_row (bindings columns values)) picks cell q name
    ∙ found_too values at m _ (find (bindings columns values) q name)
    (meant_each ColumnAt Binding (λ p. p.column.qualifier) (λ p. p.column.column.name) (λ b. b.qualifier) (λ b. b.name) (Stands values) (λ p b s. s.0) (λ p b s. s.1)
    q name (placed_from 0 columns) (bindings columns values) (all_stand values columns values [] 0 refl refl fits))
    e here

name_reads : (columns : List ScopeColumn) (q : Option Name) (name : Name) (place : ℕ) → place_of columns q name ≡ Ok place → ReadsPlace columns place (Column q name)
name_reads columns q name place e =
    let h = then_ok (find_placed columns q name) (λ at. fine at.place) place e in
    subst (λ p. ReadsPlace columns p (Column q name)) (the_same h.0.place place h.2) (column_reads columns q name h.0 h.1)

-- the same, where a place was found or not
pub found_reads : (columns : List ScopeColumn) (q : Option Name) (name : Name) (found : Result ℕ CellError) → found ≡ place_of columns q name →
    IfSome (result_ok found) (λ place. ReadsPlace columns place (Column q name))
found_reads columns q name (Ok place) e = name_reads columns q name place (sym e)
found_reads columns q name (Err d) e = tt

-- what the proof of placing uses
pub ruleset placing = (columns_of)

-- what the proof of a column's place uses
pub ruleset reading = (found_reads)
