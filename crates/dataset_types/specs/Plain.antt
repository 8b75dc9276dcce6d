-- Plain tables and environments: without marks, doubt and flags.
use Rattle.std.specs.Prelude.{ℕ, ◌+◌, ◌&&◌, List, length, map, Bool, nat_le, Option, option_map}
use Rattle.std.specs.List.{list_all, sum_by}
use Rattle.value_types.specs.Text.{id, parts}
use Rattle.value_types.specs.declared.value.Value.{Value}
use Rattle.value_types.specs.declared.row_id.RowId.{RowId}
use Rattle.dataset_types.specs.declared.column.Column.{Column}
use Rattle.dataset_types.specs.declared.row.Row.{Row}
use Rattle.dataset_types.specs.Tables.{TableData, text_size, few_columns, few_rows, few_values, few_bytes}
use Rattle.dataset_types.specs.Envs.{EnvData, look}

-- a row without marks
pub record PlainRow : Type 0 where
  pub id : RowId
  pub values : List Value

-- a table without marks and flags
pub record PlainTable : Type 0 where
  pub columns : List Column
  pub rows : List PlainRow

-- the tables by their names
abbrev pub PlainEnv : Type 0
PlainEnv = List ℕ → Option PlainTable

-- a row without its marks, whether it is sure or not
abbrev pub erased_row : Row → PlainRow
erased_row r = record { id = r.id; values = map (λ m. m.value) r.values }

-- a table without its marks and flags
abbrev pub erased : TableData → PlainTable
erased t = record { columns = t.columns; rows = map erased_row t.rows }

-- an environment without doubt, in which a name without a table isn't there
abbrev pub erased_env : EnvData → PlainEnv
erased_env env name = option_map erased (look env name).table

-- the bytes of text in a plain row: its Text values and the text of its id
abbrev pub plain_size : PlainRow → ℕ
plain_size row = length (id row.id) + sum_by text_size row.values

-- each row's id has at most 8 parts
abbrev pub plain_short : List PlainRow → Bool
plain_short rows = list_all (λ r. nat_le (parts r.id) 8) rows

-- the limits of a dataset
abbrev pub plain_within : PlainTable → Bool
plain_within t =
    few_columns (length t.columns)
    && few_rows (length t.rows)
    && few_values (length t.rows) (length t.columns)
    && few_bytes (sum_by plain_size t.rows)
    && plain_short t.rows
