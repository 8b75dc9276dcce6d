-- SELECT without marks is the plain SELECT: each step is, and so is the whole.
use Rattle.std.proofs.Common.{◌≡◌, ℕ, Bool, true, false, Option, Some, None, Ok, Err, List, [], ◌∷◌, map, refl, ap, ◌∙◌, subst}
use Rattle.std.specs.Prelude.{if◌then◌else◌, option_map}
use Rattle.std.specs.Result.{result_map_both}
use Rattle.std.specs.Str.{bytes_eq}
use Rattle.dataset_types.specs.declared.picks.Pick.{Pick}
use Rattle.dataset_types.specs.declared.slot.Slot.{Slot}
use Rattle.dataset_types.specs.Tables.{TableData, table_of as table_from, within_limits as table_limits}
use Rattle.dataset_types.specs.Plain.{PlainTable, erased}
use Rattle.dataset_types.proofs.PlainLemmas.{within_erased}
use Rattle.cell_errors.specs.Answers.{Answer, and_then, collect}
use Rattle.cell_errors.specs.declared.fault.CellError.TheVariants as error
use Rattle.expr_lang.specs.declared.expr.Expr.{Expr}
use Rattle.relations.specs.declared.parts.Item.{Item}
use Rattle.relations.specs.Rels.{RelData, bare_columns, rel_table}
use Rattle.relations.specs.Plain.{PlainRel, erased_rel}
use Rattle.rel_ops.proofs.FilterLaws.{filter_erases}
use Rattle.rel_ops.proofs.ProjectLaws.{project_erases}
use Rattle.rel_ops.proofs.SortLaws.{sort_erases}
use Rattle.rel_ops.proofs.LimitLaws.{limit_erases}
use Rattle.rel_ops.proofs.UnionLaws.{union_erases}
use Rattle.rel_join.proofs.ErasedJoin.{join_erases}
use Rattle.rel_group.proofs.ErasedGroup.{group_erases_all, distinct_erases}
use Rattle.sql_parse.specs.declared.tables.TableRef.{TableRef}
use Rattle.sql_parse.specs.declared.tables.JoinPart.{JoinPart}
use Rattle.sql_parse.specs.declared.cores.Core.{Core}
use Rattle.sql_parse.specs.declared.select.Select.{Select}
use Rattle.sql_parse.specs.Names.{names_of}
use Rattle.sql_plan.specs.declared.core_plan.CorePlan.{CorePlan}
use Rattle.sql_plan.specs.declared.plan.Plan.{Plan}
use Rattle.sql_plan.specs.Folds.{folded}
use Rattle.sql_plan.specs.Plan.{checked}
use Rattle.sql_meaning.specs.declared.input.Input.{Input}
use Rattle.sql_meaning.specs.Steps.{Steps, kind_of, table_of, as_relation_under, rel_at, joined_with, joined_tables, filter_if, output_by, distinct_if, core_rel, all_united, limit_if, planned, headings_of, selected}
use Rattle.sql_meaning.specs.Inputs.{input_if, input_in, inputs_in, named_table, named_tables, any_doubt}
use Rattle.sql_meaning.specs.Select.{marked_steps, select_slot, select_meaning}
use Rattle.sql_meaning.specs.Plain.{plain_steps, plain_rel_table, plain_input_if, plain_inputs, plain_select}
use Rattle.sql_meaning.specs.Laws.{erased_slot, erased_look, SelectErases}

-- ---- answers

abbrev mapped : {A B : Type 0} → (A → B) → Answer A → Answer B
mapped f a = result_map_both f (λ e. e) a

module _ {A B P Q : Type 0} (f : A → P) (g : B → Q) where
  then_mapped : (a : Answer A) (p : Answer P) (k : A → Answer B) (l : P → Answer Q) → mapped f a ≡ p → ((x : A) → mapped g (k x) ≡ l (f x)) →
      mapped g (and_then a k) ≡ and_then p l
  then_mapped (Ok x) p k l e h = subst (λ z. mapped g (k x) ≡ and_then z l) e (h x)
  then_mapped (Err d) p k l e h = ap (λ z. and_then z l) e

module _ {A P X : Type 0} (e : A → P) where
  folded_mapped : (f : A → X → Answer A) (g : P → X → Answer P) → ((a : A) (x : X) → mapped e (f a x) ≡ g (e a) x) → (a : A) (xs : List X) →
      mapped e (folded f a xs) ≡ folded g (e a) xs
  folded_mapped f g each a [] = refl
  folded_mapped f g each a (x ∷ xs) =
      then_mapped e e (f a x) (g (e a) x) (λ b. folded f b xs) (λ b. folded g b xs) (each a x) (λ b. folded_mapped f g each b xs)

  collect_mapped : (f : X → Answer A) (g : X → Answer P) → ((x : X) → mapped e (f x) ≡ g x) → (xs : List X) → mapped (map e) (collect f xs) ≡ collect g xs
  collect_mapped f g each [] = refl
  collect_mapped f g each (x ∷ xs) =
      then_mapped e (map e) (f x) (g x) (λ y. and_then (collect f xs) (λ ys. Ok (y ∷ ys))) (λ y. and_then (collect g xs) (λ ys. Ok (y ∷ ys))) (each x)
      (λ y. then_mapped (map e) (map e) (collect f xs) (collect g xs) (λ ys. Ok (y ∷ ys)) (λ ys. Ok (e y ∷ ys)) (collect_mapped f g each xs) (λ ys. refl))

both_mapped : {A P : Type 0} (e : A → P) (f : A → A → Answer A) (g : P → P → Answer P) → ((a b : A) → mapped e (f a b) ≡ g (e a) (e b)) → (a : A) (xs : List A) →
    mapped e (folded f a xs) ≡ folded g (e a) (map e xs)
both_mapped e f g each a [] = refl
both_mapped e f g each a (x ∷ xs) =
    then_mapped e e (f a x) (g (e a) (e x)) (λ b. folded f b xs) (λ b. folded g b (map e xs)) (each a x) (λ b. both_mapped e f g each b xs)

-- ---- the steps

abbrev erased_pair : List ℕ × TableData → List ℕ × PlainTable
erased_pair t = (t.0, erased t.1)

abbrev E : Answer RelData → Answer PlainRel
E = mapped erased_rel

closed_erases : (r : RelData) → mapped erased (rel_table r) ≡ plain_rel_table (erased_rel r)
closed_erases r = rw (within_erased t) (by (table_limits t))
  where
    t : TableData
    t = table_from (bare_columns r.columns) r.rows r.is_open r.is_loose

    by : (b : Bool) → mapped erased (if b then Ok t else Err error.TooLarge) ≡ (if b then Ok (erased t) else Err error.TooLarge)
    by true = refl
    by false = refl

module _ (picks : List Pick) (cell : ℕ) where
  abbrev S : Steps TableData RelData
  S = marked_steps picks cell

  abbrev P : Steps PlainTable PlainRel
  P = plain_steps picks cell

  limit_if_erases : (rel : RelData) (count : Option ℕ) → E (limit_if S rel count) ≡ limit_if P (erased_rel rel) count
  limit_if_erases rel None = refl
  limit_if_erases rel (Some n) = limit_erases n rel

  filter_if_erases : (rel : RelData) (condition : Option Expr) → E (filter_if S rel condition) ≡ filter_if P (erased_rel rel) condition
  filter_if_erases rel None = refl
  filter_if_erases rel (Some condition) = filter_erases condition picks cell rel

  output_erases : (rel : RelData) (keys : Option (List ℕ)) (having : Option Expr) (items : List Item) →
      E (output_by S rel keys having items) ≡ output_by P (erased_rel rel) keys having items
  output_erases rel None having items = project_erases items picks cell rel
  output_erases rel (Some keys) having items = group_erases_all keys having items picks cell rel

  distinct_if_erases : (b : Bool) (rel : RelData) → E (distinct_if S b rel) ≡ distinct_if P b (erased_rel rel)
  distinct_if_erases true rel = distinct_erases rel
  distinct_if_erases false rel = refl

  united_erases : (rels : List RelData) → E (all_united S rels) ≡ all_united P (map erased_rel rels)
  united_erases [] = refl
  united_erases (r ∷ rs) = both_mapped erased_rel S.union P.union union_erases r rs

  module _ (tables : List (List ℕ × TableData)) where
    abbrev plain : List (List ℕ × PlainTable)
    plain = map erased_pair tables

    table_erases : (ts : List (List ℕ × TableData)) (name : List ℕ) → option_map erased (table_of ts name) ≡ table_of (map erased_pair ts) name
    table_erases [] name = refl
    table_erases (t ∷ ts) name = by (bytes_eq t.0 name) (table_erases ts name)
      where
        by : (b : Bool) → option_map erased (table_of ts name) ≡ table_of (map erased_pair ts) name →
            option_map erased (if b then Some t.1 else table_of ts name) ≡ (if b then Some (erased t.1) else table_of (map erased_pair ts) name)
        by true rest = refl
        by false rest = rest

    headings_erase : (ts : List (List ℕ × TableData)) → headings_of S ts ≡ headings_of P (map erased_pair ts)
    headings_erase [] = refl
    headings_erase (t ∷ ts) = ap (λ hs. record { dataset = t.0; columns = t.1.columns } ∷ hs) (headings_erase ts)

    opened_erases : (t : TableRef) (o : Option TableData) → E (as_relation_under S t o) ≡ as_relation_under P t (option_map erased o)
    opened_erases t None = refl
    opened_erases t (Some table) = refl

    rel_erases : (t : TableRef) → E (rel_at S tables t) ≡ rel_at P plain t
    rel_erases t = opened_erases t (table_of tables t.dataset) ∙ ap (as_relation_under P t) (table_erases tables t.dataset)

    joined_erases : (sofar : RelData) (j : JoinPart) → E (joined_with S tables sofar j) ≡ joined_with P plain (erased_rel sofar) j
    joined_erases sofar j =
        then_mapped erased_rel erased_rel (rel_at S tables j.table) (rel_at P plain j.table) (λ right. S.join (kind_of j.left) sofar right j.on)
        (λ right. P.join (kind_of j.left) (erased_rel sofar) right j.on) (rel_erases j.table) (λ right. join_erases (kind_of j.left) j.on sofar right picks cell)

    tables_erase : (core : Core) → E (joined_tables S tables core) ≡ joined_tables P plain core
    tables_erase core =
        then_mapped erased_rel erased_rel (rel_at S tables core.table) (rel_at P plain core.table) (λ first. folded (joined_with S tables) first core.joins)
        (λ first. folded (joined_with P plain) first core.joins) (rel_erases core.table)
        (λ first. folded_mapped erased_rel (joined_with S tables) (joined_with P plain) joined_erases first core.joins)

    core_erases : (c : CorePlan) → E (core_rel S tables c) ≡ core_rel P plain c
    core_erases c =
        then_mapped erased_rel erased_rel (joined_tables S tables c.core) (joined_tables P plain c.core)
        (λ all. and_then (filter_if S all c.core.condition) (λ rows. and_then (output_by S rows c.keys c.core.having c.items) (λ out. distinct_if S c.core.distinct out)))
        (λ all. and_then (filter_if P all c.core.condition) (λ rows. and_then (output_by P rows c.keys c.core.having c.items) (λ out. distinct_if P c.core.distinct out)))
        (tables_erase c.core) (λ all.
        then_mapped erased_rel erased_rel (filter_if S all c.core.condition) (filter_if P (erased_rel all) c.core.condition)
        (λ rows. and_then (output_by S rows c.keys c.core.having c.items) (λ out. distinct_if S c.core.distinct out))
        (λ rows. and_then (output_by P rows c.keys c.core.having c.items) (λ out. distinct_if P c.core.distinct out))
        (filter_if_erases all c.core.condition) (λ rows.
        then_mapped erased_rel erased_rel (output_by S rows c.keys c.core.having c.items) (output_by P (erased_rel rows) c.keys c.core.having c.items)
        (λ out. distinct_if S c.core.distinct out) (λ out. distinct_if P c.core.distinct out)
        (output_erases rows c.keys c.core.having c.items) (λ out. distinct_if_erases c.core.distinct out)))

    planned_erases : (plan : Plan) (count : Option ℕ) → mapped erased (planned S tables plan count) ≡ planned P plain plan count
    planned_erases plan count =
        then_mapped (map erased_rel) erased (collect (core_rel S tables) plan.cores) (collect (core_rel P plain) plan.cores)
        (λ rels. and_then (all_united S rels) (λ all. and_then (S.sort all plan.order) (λ ordered. and_then (limit_if S ordered count) (λ first. S.as_table first))))
        (λ rels. and_then (all_united P rels) (λ all. and_then (P.sort all plan.order) (λ ordered. and_then (limit_if P ordered count) (λ first. P.as_table first))))
        (collect_mapped erased_rel (core_rel S tables) (core_rel P plain) core_erases plan.cores) (λ rels.
        then_mapped erased_rel erased (all_united S rels) (all_united P (map erased_rel rels))
        (λ all. and_then (S.sort all plan.order) (λ ordered. and_then (limit_if S ordered count) (λ first. S.as_table first)))
        (λ all. and_then (P.sort all plan.order) (λ ordered. and_then (limit_if P ordered count) (λ first. P.as_table first)))
        (united_erases rels) (λ all.
        then_mapped erased_rel erased (S.sort all plan.order) (P.sort (erased_rel all) plan.order)
        (λ ordered. and_then (limit_if S ordered count) (λ first. S.as_table first)) (λ ordered. and_then (limit_if P ordered count) (λ first. P.as_table first))
        (sort_erases plan.order all) (λ ordered.
        then_mapped erased_rel erased (limit_if S ordered count) (limit_if P (erased_rel ordered) count) (λ first. S.as_table first) (λ first. P.as_table first)
        (limit_if_erases ordered count) closed_erases)))

    selected_erases : (select : Select) → mapped erased (selected S tables select) ≡ selected P plain select
    selected_erases select = by (checked select (headings_of S tables)) (ap (checked select) (headings_erase tables))
      where
        by : (a : Answer Plan) → a ≡ checked select (headings_of P plain) →
            mapped erased (and_then a (λ plan. planned S tables plan select.limit)) ≡ selected P plain select
        by (Ok plan) is = planned_erases plan select.limit ∙ ap (λ z. and_then z (λ p. planned P plain p select.limit)) is
        by (Err e) is = ap (λ z. and_then z (λ p. planned P plain p select.limit)) is

  -- ---- the whole

  slot_erases : (a : Answer TableData) (doubt : Bool) → mapped erased_slot (and_then a (λ table. Ok (record { table = Some table; doubt = doubt }))) ≡ mapped Some (mapped erased a)
  slot_erases (Ok table) doubt = refl
  slot_erases (Err e) doubt = refl

  some_after : (a : Answer (List (List ℕ × PlainTable))) (k : List (List ℕ × PlainTable) → Answer PlainTable) → and_then a (λ ts. mapped Some (k ts)) ≡ mapped Some (and_then a k)
  some_after (Ok ts) k = refl
  some_after (Err e) k = refl

  abbrev plain_named : Input → List ℕ × PlainTable
  plain_named s = erased_pair (named_table s)

  input_erases : (name : List ℕ) (slot : Slot) → mapped plain_named (input_if name slot.doubt slot.table) ≡ plain_input_if name (erased_slot slot)
  input_erases name slot = by slot.table
    where
      by : (o : Option TableData) → mapped plain_named (input_if name slot.doubt o) ≡ plain_input_if name (option_map erased o)
      by None = refl
      by (Some t) = refl

  tables_named : (ss : List Input) → map erased_pair (named_tables ss) ≡ map plain_named ss
  tables_named [] = refl
  tables_named (s ∷ ss) = ap (λ ts. plain_named s ∷ ts) (tables_named ss)

  whole_erases : (select : Select) (look : List ℕ → Slot) →
      mapped erased_slot (select_meaning look select picks cell) ≡ mapped Some (plain_select (erased_look look) select picks cell)
  whole_erases select look =
      then_mapped (map plain_named) erased_slot (inputs_in look (names_of select)) (plain_inputs (erased_look look) (names_of select))
      (λ inputs. select_slot inputs select picks cell) (λ ts. mapped Some (selected P ts select))
      (collect_mapped plain_named (input_in look) (λ name. plain_input_if name (erased_look look name)) (λ name. input_erases name (look name)) (names_of select))
      (λ inputs.
      slot_erases (selected S (named_tables inputs) select) (any_doubt inputs)
      ∙ ap (mapped Some) (selected_erases (named_tables inputs) select ∙ ap (λ ts. selected P ts select) (tables_named inputs)))
      ∙ some_after (plain_inputs (erased_look look) (names_of select)) (λ ts. selected P ts select)

pub select_erases : (select : Select) → SelectErases select
select_erases select look picks cell = whole_erases picks cell select look
