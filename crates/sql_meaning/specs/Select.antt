-- What a SELECT gives in an environment.
use Rattle.std.specs.Prelude.{ℕ, false, Some, Ok, List, []}
use Rattle.dataset_types.specs.Tables.{TableData}
use Rattle.dataset_types.specs.declared.picks.Pick.{Pick}
use Rattle.dataset_types.specs.declared.slot.Slot.{Slot}
use Rattle.cell_errors.specs.Answers.{Answer, and_then}
use Rattle.relations.specs.Rels.{RelData, rel_of, table_rel, rel_table}
use Rattle.rel_ops.specs.Filter.{filtered}
use Rattle.rel_ops.specs.Project.{projected}
use Rattle.rel_ops.specs.Sort.{ordered}
use Rattle.rel_ops.specs.Limit.{limited}
use Rattle.rel_ops.specs.Union.{united}
use Rattle.rel_join.specs.Join.{joined}
use Rattle.rel_group.specs.Group.{grouped, distinct}
use Rattle.sql_parse.specs.declared.select.Select.{Select}
use Rattle.sql_parse.specs.Names.{names_of}
use Rattle.sql_meaning.specs.declared.input.Input.{Input}
use Rattle.sql_meaning.specs.Steps.{Steps, selected}
use Rattle.sql_meaning.specs.Inputs.{inputs_in, names_read, named_tables, any_doubt}

-- the steps with marks, under the picks of a cell
abbrev pub marked_steps : List Pick → ℕ → Steps TableData RelData
marked_steps picks cell = record {
  columns = λ t. t.columns;
  as_relation = table_rel;
  join = λ kind a b on. joined kind a b on picks cell;
  filter = λ rel condition. filtered rel condition picks cell;
  project = λ rel items. projected rel items picks cell;
  group = λ rel keys having items. grouped rel keys having items picks cell;
  distinct = λ rel. distinct rel;
  nothing = rel_of [] [] false false;
  union = united;
  sort = ordered;
  limit = limited;
  as_table = rel_table;
}

-- the table under these datasets, doubtful where one of them is
abbrev pub select_slot : List Input → Select → List Pick → ℕ → Answer Slot
select_slot inputs select picks cell =
    and_then (selected (marked_steps picks cell) (named_tables inputs) select) (λ table.
    Ok (record { table = Some table; doubt = any_doubt inputs }))

-- what a SELECT gives in an environment: its datasets are read first
abbrev pub select_meaning : (List ℕ → Slot) → Select → List Pick → ℕ → Answer Slot
select_meaning look select picks cell =
    and_then (inputs_in look (names_of select)) (λ inputs. select_slot inputs select picks cell)

-- the names that it reads there, in order
abbrev pub select_names : (List ℕ → Slot) → Select → List (List ℕ)
select_names look select = names_read look (names_of select)
