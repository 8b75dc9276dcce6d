-- The rules of the rows that DISTINCT gives.
use Rattle.std.proofs.Common.{◌≡◌, false, None, List, [], ◌∷◌, map, length, refl, subst, ap}
use Rattle.std.specs.Prelude.{IsTrue}
use Rattle.std.specs.List.{list_any}
use Rattle.std.proofs.lemmas.Bool.Decides.{Decides-eqb}
use Rattle.value_types.specs.declared.row_id.RowId.{Key as KeyId}
use Rattle.dataset_types.specs.Tables.{Distinct, row_fits, row_ids}
use Rattle.relations.specs.Rels.{RelData, rel_of, bare_columns, KeepsRules, IsRel}
use Rattle.dataset_types.proofs.TableLemmas.{distinct_one}
use Rattle.relations.specs.declared.parts.Item.{Item}
use Rattle.rel_ops.specs.Project.{item_names}
use Rattle.relations.proofs.Rules.{or_parts, all_of, all_from}
use Rattle.rel_group.specs.Groups.{Group}
use Rattle.rel_group.specs.Keys.{ascending, rows_at}
use Rattle.rel_group.specs.Groups.{key_values, has_marked_key, is_uncertain, group_of, keyed_groups, certain}
use Rattle.rel_group.specs.Group.{key_row}
use Rattle.rel_group.proofs.KeyOrder.{Key}
use Rattle.rel_group.proofs.GroupFits.{FitsBare, certain_fit, each_to, each_more, keys_fit, keyed_apart, ids_apart, all_certain, keyed_sure}

ids_are : (gs : List Group) → map KeyId (map (λ g. g.key) gs) ≡ row_ids (map key_row gs)
ids_are [] = refl
ids_are (g ∷ gs) = ap (λ z. KeyId g.key ∷ z) (ids_are gs)

pub distinct_rules : (rel : RelData) → IsRel rel → KeepsRules (rel_of rel.columns (map key_row (keyed_groups [] None rel.rows)) (is_uncertain None rel) false)
distinct_rules rel is =
    let gs = keyed_groups [] None rel.rows in
    let fits = row_fits (bare_columns rel.columns) in
    let at : Key → Group = λ k. group_of [] None k (rows_at (key_values None) rel.rows k) in record {
      names = is.rules.names;
      ids = subst Distinct (ids_are gs) (ids_apart gs (keyed_apart [] None rel.rows));
      fitting = all_from fits (map key_row gs)
          (each_to key_row (λ r. IsTrue (fits r)) gs
          (each_to at (λ g. IsTrue (fits (key_row g))) (ascending (map (key_values None) rel.rows))
          (each_more (FitsBare rel.columns) (λ k. IsTrue (fits (key_row (at k))))
          (λ k f. let p = certain_fit rel.columns k f in rw ((Decides-eqb (length (map certain k)) (length (bare_columns rel.columns))).1 p.0, p.1) refl)
          (ascending (map (key_values None) rel.rows)) (keys_fit rel.columns None rel.rows (all_of fits rel.rows is.rules.fitting)))));
      sure = λ o.
          let q = or_parts rel.is_open (list_any (has_marked_key None) rel.rows) o in
          all_from (λ r. r.sure) (map key_row gs)
          (each_to key_row (λ r. IsTrue r.sure) gs (keyed_sure [] None rel.rows (all_certain None rel.rows (is.rules.sure q.0) q.1)));
    }

-- one output column alone
pub one_name : (i : Item) → Distinct (item_names (i ∷ []))
one_name i = distinct_one i.name
