-- A dataset's rules and limits are those of a relation.
use Rattle.std.proofs.Common.{◌≡◌, ◌*◌, Bool, true, false, ◌&&◌, Option, List, [], ◌∷◌, map, length, refl, subst, ap, sym}
use Rattle.std.specs.Prelude.{IsTrue, nat_le}
use Rattle.std.proofs.lemmas.List.{length-map}
use Rattle.dataset_types.specs.declared.column.Column.{Column}
use Rattle.dataset_types.specs.Tables.{TableData, IsTable, Distinct, column_names, rows_fit, text_bytes, ids_short}
use Rattle.dataset_types.proofs.TableLemmas.{Distinct-map}
use Rattle.expr_meaning.specs.Names.{Name}
use Rattle.relations.specs.Rels.{IsRel, column_keys, bare_columns, qualified, table_rel, within_limits}

keys_are : (q : Option Name) (columns : List Column) → column_keys (map (qualified q) columns) ≡ map (λ n. (q, n)) (column_names columns)
keys_are q [] = refl
keys_are q (c ∷ cs) = ap (λ z. (q, c.name) ∷ z) (keys_are q cs)

bare_again : (q : Option Name) (columns : List Column) → bare_columns (map (qualified q) columns) ≡ columns
bare_again q [] = refl
bare_again q (c ∷ cs) = ap (λ z. c ∷ z) (bare_again q cs)

all_but_first : (a b c d e : Bool) → IsTrue (a && b && c && d && e) → IsTrue (b && c && d && e)
all_but_first true b c d e h = h
all_but_first false b c d e h = cc

limits_are : (q : Option Name) (t : TableData) → IsTable t → IsTrue (within_limits (table_rel q t))
limits_are q t is =
    rw (length-map t.columns (qualified q))
    (all_but_first (nat_le (length t.columns) 32) (nat_le (length t.rows) 65536) (nat_le (length t.rows * length t.columns) 65536) (nat_le (text_bytes t.rows) 1048576) (ids_short t.rows) is.limits)

pub table_is_rel : (q : Option Name) (t : TableData) → IsTable t → IsRel (table_rel q t)
table_is_rel q t is = record {
  rules = record {
    names = subst Distinct (sym (keys_are q t.columns)) (Distinct-map (λ n. (q, n)) (λ a b e. ap (λ (z : Option Name × Name). z.1) e) (column_names t.columns) is.names);
    ids = is.ids;
    fitting = subst (λ cs. IsTrue (rows_fit cs t.rows)) (sym (bare_again q t.columns)) is.fitting;
    sure = is.sure;
  };
  limits = limits_are q t is;
}

-- the names of a dataset's columns, without the qualifier that they got
pub names_again : (q : Option Name) (t : TableData) → IsTable t → Distinct (column_names (bare_columns (table_rel q t).columns))
names_again q t is = subst (λ cs. Distinct (column_names cs)) (sym (bare_again q t.columns)) is.names
