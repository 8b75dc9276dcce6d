-- A formula by the values of its column: where it stops, and what they make of the table.
use Rattle.std.proofs.Common.{◌≡◌, ℕ, Ok, Err, List, [], ◌∷◌, map, length, refl, ap, ◌∙◌, subst, arith}
use Rattle.std.specs.Prelude.{zip}
use Rattle.value_types.specs.declared.value.ColumnType.{ColumnType}
use Rattle.cell_errors.specs.Answers.{Answer, and_then, collect, Fails}
use Rattle.cell_errors.specs.declared.fault.EvalFault.{EvalFault}
use Rattle.cell_errors.specs.declared.fault.EvalFault.TheVariants as fault
use Rattle.dataset_types.specs.declared.picks.Pick.{Pick}
use Rattle.dataset_types.specs.declared.row.Marked.{Marked}
use Rattle.dataset_types.specs.declared.row.Row.{Row}
use Rattle.dataset_types.specs.Tables.{TableData, IsTable, table_of}
use Rattle.expr_lang.specs.declared.expr.Expr.{Expr}
use Rattle.expr_meaning.specs.Names.{Name}
use Rattle.relations.proofs.Gathered.{the_same, then_ok}
use Rattle.edit_results.specs.Results.{KeepsRules, whole}
use Rattle.column_edits.specs.Changes.{laid_row}
use Rattle.column_edits.specs.Formula.{scope, formula_type, value_over, refilled, formula_row, formula}
use Rattle.column_edits.specs.Filling.{values_of, refilled_rows, filled}
use Rattle.column_edits.proofs.TableRules.{formula_rules}

-- ---- the values of all first, then what each makes of its item

module _ {X Y Z : Type 0} (f : X → Answer Y) (g : Y → X → Z) where
  abbrev made : List Y → List X → List Z
  made ys xs = map (λ p. g p.0 p.1) (zip ys xs)

  in_turn : (xs : List X) → collect (λ x. and_then (f x) (λ y. Ok (g y x))) xs ≡ and_then (collect f xs) (λ ys. Ok (made ys xs))
  in_turn [] = refl
  in_turn (x ∷ xs) = at (f x) (in_turn xs)
    where
      rest : (y : Y) (a : Answer (List Y)) →
          and_then (and_then a (λ ys. Ok (made ys xs))) (λ zs. Ok (g y x ∷ zs)) ≡ and_then (and_then a (λ ys. Ok (y ∷ ys))) (λ ys. Ok (made ys (x ∷ xs)))
      rest y (Ok ys) = refl
      rest y (Err e) = refl

      at : (a : Answer Y) → collect (λ z. and_then (f z) (λ y. Ok (g y z))) xs ≡ and_then (collect f xs) (λ ys. Ok (made ys xs)) →
          and_then (and_then a (λ y. Ok (g y x))) (λ z. and_then (collect (λ w. and_then (f w) (λ y. Ok (g y w))) xs) (λ zs. Ok (z ∷ zs)))
          ≡ and_then (and_then a (λ y. and_then (collect f xs) (λ ys. Ok (y ∷ ys)))) (λ ys. Ok (made ys (x ∷ xs)))
      at (Ok y) e = ap (λ b. and_then b (λ zs. Ok (g y x ∷ zs))) e ∙ rest y (collect f xs)
      at (Err d) e = refl

one_each : {X Y : Type 0} (f : X → Answer Y) (xs : List X) (ys : List Y) → collect f xs ≡ Ok ys → length ys ≡ length xs
one_each f [] ys e = subst (λ zs. length zs ≡ 0) (the_same [] ys e) refl
one_each f (x ∷ xs) ys e =
    let p = then_ok (f x) (λ y. and_then (collect f xs) (λ zs. Ok (y ∷ zs))) ys e in
    let q = then_ok (collect f xs) (λ zs. Ok (p.0 ∷ zs)) ys p.2 in
    subst (λ zs. length zs ≡ length (x ∷ xs)) (the_same (p.0 ∷ q.0) ys q.2) (omega (arith, one_each f xs q.0 q.1))

-- ---- a formula

module _ (name : Name) (expr : Expr) (picks : List Pick) (cell : ℕ) (t : TableData) where
  abbrev with_rows : List Row → Answer TableData
  with_rows rows = whole (table_of t.columns rows t.is_open t.is_loose)

  by_values : formula name expr picks cell t ≡ and_then (values_of name expr picks cell t) (λ new. whole (filled name new t))
  by_values = at (formula_type name expr t.columns)
    where
      rest : (a : Answer (List Marked)) →
          and_then (and_then a (λ new. Ok (refilled_rows (refilled name t.columns) new t.rows))) with_rows ≡ and_then a (λ new. whole (filled name new t))
      rest (Ok new) = refl
      rest (Err e) = refl

      at : (a : Answer ColumnType) → and_then a (λ k. and_then (collect (formula_row name expr picks cell t.columns k) t.rows) with_rows)
          ≡ and_then (and_then a (λ k. collect (value_over (scope t.columns) expr picks cell k) t.rows)) (λ new. whole (filled name new t))
      at (Ok k) =
          let value = value_over (scope t.columns) expr picks cell k in
          ap (λ a. and_then a with_rows) (in_turn value (laid_row (refilled name t.columns)) t.rows) ∙ rest (collect value t.rows)
      at (Err e) = refl

  -- the error of the values is that of the formula
  pub formula_stops : (f : EvalFault) → Fails f (values_of name expr picks cell t) → Fails f (formula name expr picks cell t)
  formula_stops (fault.Error e) h = by_values ∙ ap (λ a. and_then a (λ new. whole (filled name new t))) h
  formula_stops fault.NoMemory h = tt

  module _ (new : List Marked) (are : values_of name expr picks cell t ≡ Ok new) where
    -- and without one they make the table
    pub formula_goes : formula name expr picks cell t ≡ whole (filled name new t)
    formula_goes = by_values ∙ ap (λ a. and_then a (λ n. whole (filled name n t))) are

    -- one for each row
    pub values_long : length new ≡ length t.rows
    values_long =
        let p = then_ok (formula_type name expr t.columns) (λ k. collect (value_over (scope t.columns) expr picks cell k) t.rows) new are in
        one_each (value_over (scope t.columns) expr picks cell p.0) t.rows new p.2

    pub filled_rules : IsTable t → KeepsRules (filled name new t)
    filled_rules is =
        let layout = refilled name t.columns in
        let p = then_ok (formula_type name expr t.columns) (λ k. collect (value_over (scope t.columns) expr picks cell k) t.rows) new are in
        formula_rules name expr picks cell t p.0 (refilled_rows layout new t.rows) is p.1
        (in_turn (value_over (scope t.columns) expr picks cell p.0) (laid_row layout) t.rows ∙ ap (λ a. and_then a (λ ms. Ok (refilled_rows layout ms t.rows))) p.2)
