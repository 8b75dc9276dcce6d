-- What a SELECT gives without marks.
use Rattle.std.specs.Prelude.{ℕ, if◌then◌else◌, Option, Some, None, Ok, Err, List, [], map}
use Rattle.dataset_types.specs.declared.picks.Pick.{Pick}
use Rattle.dataset_types.specs.Plain.{PlainTable, PlainEnv, plain_within}
use Rattle.cell_errors.specs.Answers.{Answer, and_then, collect}
use Rattle.cell_errors.specs.declared.fault.CellError.TheVariants as error
use Rattle.relations.specs.Rels.{bare_columns, qualified}
use Rattle.relations.specs.Plain.{PlainRel}
use Rattle.rel_ops.specs.Filter.{plain_filtered}
use Rattle.rel_ops.specs.Project.{plain_projected}
use Rattle.rel_ops.specs.Sort.{plain_ordered}
use Rattle.rel_ops.specs.Limit.{plain_limited}
use Rattle.rel_ops.specs.Union.{plain_united}
use Rattle.rel_join.specs.Join.{plain_joined}
use Rattle.rel_group.specs.Plain.{plain_grouped, plain_distinct}
use Rattle.sql_parse.specs.declared.select.Select.{Select}
use Rattle.sql_parse.specs.Names.{names_of}
use Rattle.sql_meaning.specs.Steps.{Steps, selected}

-- a table as a relation, its columns under a qualifier
abbrev pub plain_table_rel : Option (List ℕ) → PlainTable → PlainRel
plain_table_rel qualifier t = record { columns = map (qualified qualifier) t.columns; rows = t.rows }

-- a relation as a table, where it is within the limits of one
abbrev pub plain_rel_table : PlainRel → Answer PlainTable
plain_rel_table r =
    let t : PlainTable = record { columns = bare_columns r.columns; rows = r.rows } in if plain_within t then Ok t else Err error.TooLarge

-- the steps without marks
abbrev pub plain_steps : List Pick → ℕ → Steps PlainTable PlainRel
plain_steps picks cell = record {
  columns = λ t. t.columns;
  as_relation = plain_table_rel;
  join = λ kind a b on. plain_joined kind a b on picks cell;
  filter = λ rel condition. plain_filtered rel condition picks cell;
  project = λ rel items. plain_projected rel items picks cell;
  group = λ rel keys having items. plain_grouped rel keys having items picks cell;
  distinct = plain_distinct;
  nothing = record { columns = []; rows = [] };
  union = plain_united;
  sort = plain_ordered;
  limit = plain_limited;
  as_table = plain_rel_table;
}

-- the table under its name, if there is one
abbrev pub plain_input_if : List ℕ → Option PlainTable → Answer (List ℕ × PlainTable)
plain_input_if name None = Err error.NoDataset
plain_input_if name (Some table) = Ok (name, table)

-- the tables of names, or the error of the first that is absent
abbrev pub plain_inputs : PlainEnv → List (List ℕ) → Answer (List (List ℕ × PlainTable))
plain_inputs env names = collect (λ name. plain_input_if name (env name)) names

-- what a SELECT gives in an environment
abbrev pub plain_select : PlainEnv → Select → List Pick → ℕ → Answer PlainTable
plain_select env select picks cell =
    and_then (plain_inputs env (names_of select)) (λ tables. selected (plain_steps picks cell) tables select)
