-- Worked examples of joins. Each gives the whole result, which is within the limits where these few rows are.
use Rattle.std.proofs.Common.{◌≡◌, refl, ap, ◌∙◌, Bool, true, false, ◌||◌, List, [], ◌∷◌, ◌++◌, Ok}
use Rattle.std.specs.Prelude.{Some, pos, codes}
use Rattle.value_types.specs.declared.value.ColumnType.TheVariants as kind
use Rattle.value_types.specs.declared.value.Value.TheVariants.{Bool as Truth, Int}
use Rattle.value_types.specs.declared.row_id.RowId.{Rec, Pair, Alone}
use Rattle.cell_errors.specs.Answers.{and_then}
use Rattle.dataset_types.specs.declared.row.Row.{Row}
use Rattle.expr_lang.specs.declared.expr.Expr.{Expr, Column}
use Rattle.expr_meaning.specs.declared.bindings.ScopeColumn.{ScopeColumn}
use Rattle.expr_meaning.specs.Settings.{at_row}
use Rattle.expr_meaning.specs.Meaning.{marked_over_row}
use Rattle.expr_meaning.proofs.Readings.{M-Column}
use Rattle.relations.specs.Rels.{RelData, rel_of, whole}
use Rattle.relations.specs.Bound.{bindings}
use Rattle.relations.specs.Batches.{gathered}
use Rattle.rel_join.specs.declared.kind.Kind.TheVariants.{Inner, Outer}
use Rattle.rel_join.specs.Join.{null_value, left_row, joined}

-- orders, of which one stands here
abbrev orders : List ScopeColumn
orders = record { qualifier = Some (codes "o"); column = record { name = codes "n"; kind = kind.Int } } ∷ []

abbrev order : Row
order = record { id = Rec 1; sure = true; values = record { value = Int (pos 7); marked = false } ∷ [] }

abbrev one_order : RelData
one_order = rel_of orders (order ∷ []) false false

-- parcels, each with a test that ON reads
abbrev parcels : List ScopeColumn
parcels = record { qualifier = Some (codes "p"); column = record { name = codes "ok"; kind = kind.Bool } } ∷ []

abbrev parcel : Bool → Bool → Row
parcel holds marked = record { id = Rec 2; sure = true; values = record { value = Truth holds; marked = marked } ∷ [] }

abbrev is_ok : Expr
is_ok = Column (Some (codes "p")) (codes "ok")

-- an order without a parcel
abbrev lone : Bool → Row
lone sure = record { id = Alone (Rec 1); sure = sure; values = order.values ++ null_value ∷ [] }

-- an order with its parcel
abbrev sent : Bool → Bool → Row
sent sure marked = record { id = Pair (Rec 1) (Rec 2); sure = sure; values = order.values ++ (parcel true marked).values }

-- ---- no parcel at all

-- beside a closed side it is certain that an order has none
no_parcels : joined Outer one_order (rel_of parcels [] false false) is_ok [] 1 ≡ whole (rel_of (orders ++ parcels) (lone true ∷ []) false false)
no_parcels = refl

-- beside an open side it isn't
no_parcels_so_far : joined Outer one_order (rel_of parcels [] true false) is_ok [] 1 ≡ whole (rel_of (orders ++ parcels) (lone false ∷ []) true false)
no_parcels_so_far = refl

-- JOIN leaves such an order out
no_pairs : joined Inner one_order (rel_of parcels [] true true) is_ok [] 1 ≡ whole (rel_of (orders ++ parcels) [] true true)
no_pairs = refl

-- ---- one parcel

seen_of : (holds marked : Bool) → marked_over_row (bindings orders order.values ++ bindings parcels (parcel holds marked).values) [] 1 is_ok
    ≡ record { marked = marked; answer = Ok (Truth holds) }
seen_of holds marked = M-Column (at_row (bindings orders order.values ++ bindings parcels (parcel holds marked).values)) [] 1 (Some (codes "p")) (codes "ok") ∙ refl

abbrev one_parcel : Bool → Bool → RelData
one_parcel holds marked = rel_of parcels (parcel holds marked ∷ []) false false

-- a marked ON that isn't TRUE opens, and the order may have a pair
rows_in_doubt : gathered (left_row Outer orders (one_parcel false true) is_ok [] 1) (order ∷ []) ≡ Ok (record { rows = lone false ∷ []; marked = true })
rows_in_doubt = rw (seen_of false true) refl

lone_in_doubt : joined Outer one_order (one_parcel false true) is_ok [] 1 ≡ whole (rel_of (orders ++ parcels) (lone false ∷ []) true false)
lone_in_doubt = ap (λ b. and_then b (λ m. whole (rel_of (orders ++ parcels) m.rows ((false || false) || m.marked) false))) rows_in_doubt ∙ refl

-- a marked ON that is TRUE makes an unsure pair
pair_rows_in_doubt : gathered (left_row Inner orders (one_parcel true true) is_ok [] 1) (order ∷ []) ≡ Ok (record { rows = sent false true ∷ []; marked = true })
pair_rows_in_doubt = rw (seen_of true true) refl

pair_in_doubt : joined Inner one_order (one_parcel true true) is_ok [] 1 ≡ whole (rel_of (orders ++ parcels) (sent false true ∷ []) true false)
pair_in_doubt = ap (λ b. and_then b (λ m. whole (rel_of (orders ++ parcels) m.rows ((false || false) || m.marked) false))) pair_rows_in_doubt ∙ refl

-- without a mark the pair is certain, in both joins
pair_rows : gathered (left_row Outer orders (one_parcel true false) is_ok [] 1) (order ∷ []) ≡ Ok (record { rows = sent true false ∷ []; marked = false })
pair_rows = rw (seen_of true false) refl
