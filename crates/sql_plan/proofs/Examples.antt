-- Worked examples: columns by name and place, groups, items and their names.
use Rattle.std.proofs.Common.{◌≡◌, refl, ap, Some, None, Ok, Err, List, [], ◌∷◌, arith}
use Rattle.std.specs.Prelude.{codes}
use Rattle.std.proofs.lemmas.Fmt.{decimal_digit}
use Rattle.value_types.specs.declared.value.ColumnType.TheVariants as kind
use Rattle.cell_errors.specs.declared.fault.CellError.TheVariants as error
use Rattle.expr_meaning.specs.declared.bindings.ScopeColumn.{ScopeColumn}
use Rattle.expr_meaning.specs.declared.expr_type.ExprType.TheVariants.{Null as Unknown, Of}
use Rattle.expr_meaning.specs.Types.{column_type}
use Rattle.sql_parse.specs.declared.cores.CoreItems.TheVariants.{All}
use Rattle.sql_plan.specs.Names.{each_once}
use Rattle.sql_plan.specs.Places.{named_place}
use Rattle.sql_plan.specs.Conditions.{where_condition}
use Rattle.sql_plan.specs.Groups.{key_columns}
use Rattle.sql_plan.specs.Items.{position_name, name_by, column_item, items_of}
use Rattle.sql_plan.specs.Plan.{sides_checked}

-- the ids of two tables, and the price of the first
abbrev id_of_p : ScopeColumn
id_of_p = record { qualifier = Some (codes "p"); column = record { name = codes "id"; kind = kind.Int } }

abbrev price_of_p : ScopeColumn
price_of_p = record { qualifier = Some (codes "p"); column = record { name = codes "price"; kind = kind.Fixed } }

abbrev id_of_q : ScopeColumn
id_of_q = record { qualifier = Some (codes "q"); column = record { name = codes "id"; kind = kind.Int } }

abbrev columns : List ScopeColumn
columns = id_of_p ∷ price_of_p ∷ id_of_q ∷ []

-- ---- places

price_is_second : named_place columns None (codes "price") ≡ Ok 2
price_is_second = refl

id_of_q_is_third : named_place columns (Some (codes "q")) (codes "id") ≡ Ok 3
id_of_q_is_third = refl

-- two tables have an `id`
id_is_of_two : named_place columns None (codes "id") ≡ Err error.NoColumn
id_is_of_two = refl

-- ---- GROUP BY p.id: every other column stands twice

by_id : key_columns columns (1 ∷ []) ≡ id_of_p ∷ price_of_p ∷ price_of_p ∷ id_of_q ∷ id_of_q ∷ []
by_id = refl

key_is_found : column_type (key_columns columns (1 ∷ [])) (Some (codes "p")) (codes "id") ≡ Ok (Of kind.Int)
key_is_found = refl

price_is_no_key : column_type (key_columns columns (1 ∷ [])) None (codes "price") ≡ Err error.NoColumn
price_is_no_key = refl

-- also where one of the two is a key
bare_id_is_of_two : column_type (key_columns columns (1 ∷ [])) None (codes "id") ≡ Err error.NoColumn
bare_id_is_of_two = refl

-- GROUP BY p.id, p.id
twice_a_key : key_columns columns (1 ∷ 1 ∷ []) ≡ key_columns columns (1 ∷ [])
twice_a_key = refl

-- ---- items

all_columns : items_of columns All ≡ column_item id_of_p ∷ column_item price_of_p ∷ column_item id_of_q ∷ []
all_columns = refl

third_item : position_name 3 ≡ codes "c3"
third_item = ap (λ z. 99 ∷ z) (decimal_digit 3 (omega arith))

name_of_as : name_by (Some (codes "x")) (Some (codes "id")) 1 ≡ codes "x"
name_of_as = refl

-- ---- names, conditions and sides

twice : each_once (codes "id" ∷ codes "price" ∷ codes "id" ∷ []) ≡ Err error.NameTaken
twice = refl

null_is_a_condition : where_condition Unknown ≡ Ok tt
null_is_a_condition = refl

no_cores : sides_checked [] ≡ Ok tt
no_cores = refl
