use Rattle.std.proofs.Common.{◌≡◌, ◌<◌, List, [], ◌∷◌, length, refl, sym, ap, ◌∙◌, arith, None}
use Rattle.serde_json.specs.View.{items_view}
use Rattle.serde_json.specs.declared.value.Value.{Value}
use Rattle.json_fields.specs.Columns.{column_from}
use Rattle.json_fields.proofs.column.column_from.Goals as goal

-- three items or more are no column
more : (a b : Value) (rest : List Value) → 0 < length rest → None ≡ column_from (items_view (a ∷ b ∷ rest))
more a b [] h = absurd (omega (arith, h))
more a b (x ∷ xs) h = refl

pub returns-then-rest-gt0 : goal.returns-then-rest-gt0
returns-then-rest-gt0 c =
    let first = c.in-Some.ensures.cases.0 in
    let second = c.in-Some-split_first.ensures.cases.0 in
    more _ _ _ c.if-rest-gt0.true ∙ sym (ap (λ (l : List Value). column_from (items_view l)) (first ∙ ap (λ (l : List Value). c.in-Some.first.now ∷ l) second))
