-- The run of cells without its marks is their plain run.
use Rattle.std.proofs.Common.{◌≡◌, ℕ, List, [], ◌∷◌, map, Bool, true, false, if◌then◌else◌, refl, ap, ◌∙◌, Option, Some, None, option_map, Ok, Err}
use Rattle.std.proofs.Math.Path.{fun_ext}
use Rattle.std.specs.Str.{bytes_eq}
use Rattle.std.specs.Result.{result_map_both}
use Rattle.dataset_types.specs.declared.picks.Pick.{Pick}
use Rattle.dataset_types.specs.declared.slot.Slot.{Slot}
use Rattle.dataset_types.specs.Tables.{TableData}
use Rattle.dataset_types.specs.Slots.{blurred, find_slot}
use Rattle.dataset_types.specs.declared.slot.Named.{Named}
use Rattle.dataset_types.specs.Envs.{EnvData, look, or_else, empty_env}
use Rattle.dataset_types.specs.Plain.{PlainTable, PlainEnv, erased, erased_env}
use Rattle.dataset_types.proofs.EnvLemmas.{look-after_writes}
use Rattle.cell_errors.specs.Answers.{Answer, and_then}
use Rattle.csv_load.specs.Load.{load_of}
use Rattle.csv_load.proofs.Erasure.{erases as load_erases}
use Rattle.cell_model.specs.declared.cell.Cell.{Cell}
use Rattle.cell_model.specs.declared.cell.CellKind.{CellKind}
use Rattle.cell_model.specs.declared.cell.CellKind.TheVariants as kind
use Rattle.cell_model.specs.declared.cell_result.CellResult.{CellResult}
use Rattle.cell_model.specs.declared.cell_result.CellStatus.{CellStatus}
use Rattle.cell_model.specs.declared.cell_result.CellStatus.TheVariants as status
use Rattle.cell_model.specs.declared.run.Policy.{Policy}
use Rattle.cell_model.specs.Runs.{bare, after_cell, goes_on, step_by, step, run_from}
use Rattle.cell_kinds.specs.Make.{make_result}
use Rattle.cell_kinds.specs.Load.{load_result}
use Rattle.sql_parse.specs.declared.select.Select.{Select}
use Rattle.sql_meaning.specs.Select.{select_meaning}
use Rattle.sql_meaning.specs.Plain.{plain_select}
use Rattle.sql_meaning.specs.Laws.{erased_slot, erased_look}
use Rattle.sql_meaning.proofs.Erased.{select_erases}
use Rattle.text_answers.specs.Answers.{select_of}
use Rattle.vizual_edits.specs.Commands.{applied}
use Rattle.vizual_edits.specs.Plain.{PlainNamed, plain_entry, erased_write}
use Rattle.vizual_edits.proofs.Erasing.{applied_erases}
use Rattle.cell_kinds.specs.Written.{written}
use Rattle.cell_kinds.specs.Sql.{text_writes, sql_writes}
use Rattle.cell_kinds.specs.Kinds.{kind_meaning, meaning}
use Rattle.cell_kinds.specs.Plain.{PlainStep, with_table, with_writes, nothing, plain_result, plain_written, plain_text_writes, plain_kind, plain_step, plain_run_from}
use Rattle.cell_kinds.specs.Laws.{erased_step, Erases}

-- the step of a result without its marks
abbrev erased_by : EnvData → Cell → CellResult → PlainStep
erased_by env cell r = erased_step (step_by env cell r)

-- ---- environments

abbrev table_of_slot : Slot → Option PlainTable
table_of_slot s = option_map erased s.table

after_table : (b : Bool) (table : TableData) (s : Slot)
    → option_map erased (or_else (if b then Some (record { table = Some table; doubt = false }) else None) (blurred false s)).table
    ≡ (if b then Some (erased table) else option_map erased s.table)
after_table true table s = refl
after_table false table s = refl

made_table : (env : EnvData) (name : List ℕ) (table : TableData)
    → erased_env (after_cell env (make_result name table)) ≡ with_table (erased_env env) name (erased table)
made_table env name table = fun_ext (λ q.
    ap (λ (s : Slot). option_map erased s.table) (look-after_writes env false (make_result name table).writes q)
    ∙ after_table (bytes_eq name q) table (look env q))

kept : (env : EnvData) (s : CellStatus) → erased_env (after_cell env (bare s)) ≡ erased_env env
kept env s = fun_ext (λ q. ap (λ (s : Slot). option_map erased s.table) (look-after_writes env false [] q))

-- one write more
put : (b : Bool) (slot : Slot) (rest : Option Slot) (other : Slot) (table : Option PlainTable)
    → table_of_slot (or_else rest other) ≡ table
    → table_of_slot (or_else (if b then Some slot else rest) other) ≡ (if b then table_of_slot slot else table)
put true slot rest other table e = refl
put false slot rest other table e = e

put_all : (writes : List Named) (name : List ℕ) (other : Slot) (env : PlainEnv) → table_of_slot other ≡ env name
    → table_of_slot (or_else (find_slot writes name) other) ≡ with_writes env (map erased_write writes) name
put_all [] name other env e = e
put_all (w ∷ writes) name other env e =
    put (bytes_eq w.name name) w.slot (find_slot writes name) other (with_writes env (map erased_write writes) name) (put_all writes name other env e)

all_written : (env : EnvData) (writes : List Named)
    → erased_env (after_cell env (written (Ok writes))) ≡ with_writes (erased_env env) (map erased_write writes)
all_written env writes = fun_ext (λ q.
    ap table_of_slot (look-after_writes env false writes q)
    ∙ put_all writes q (blurred false (look env q)) (erased_env env) refl)

-- ---- steps

bare_erased : (env : EnvData) (cell : Cell) (s : CellStatus) → erased_by env cell (bare s) ≡ nothing (erased_env env) s
bare_erased env cell s = ap (λ (e : PlainEnv). nothing e s) (kept env s)

made_erased : (env : EnvData) (cell : Cell) (name : List ℕ) (table : TableData)
    → erased_by env cell (make_result name table) ≡ plain_result name (Ok (erased table)) (erased_env env)
made_erased env cell name table = ap (λ (e : PlainEnv). record { status = status.Ok; lines = []; env = e }) (made_table env name table)

loaded_erased : (env : EnvData) (cell : Cell) (name : List ℕ) (given : Answer TableData)
    → erased_by env cell (load_result name given) ≡ plain_result name (result_map_both erased (λ e. e) given) (erased_env env)
loaded_erased env cell name (Ok table) = made_erased env cell name table
loaded_erased env cell name (Err e) = bare_erased env cell (status.Error e)

writes_erased : (env : EnvData) (cell : Cell) (given : Answer (List Named))
    → erased_by env cell (written given) ≡ plain_written (result_map_both (map erased_write) (λ e. e) given) (erased_env env)
writes_erased env cell (Ok writes) = ap (λ (e : PlainEnv). record { status = status.Ok; lines = []; env = e }) (all_written env writes)
writes_erased env cell (Err e) = bare_erased env cell (status.Error e)

-- the write of a slot that a SELECT gives, or its error
select_write : (into : List ℕ) (given : Answer Slot) (plain : Answer PlainTable)
    → result_map_both erased_slot (λ e. e) given ≡ result_map_both Some (λ e. e) plain
    → result_map_both (map erased_write) (λ e. e) (and_then given (λ slot. Ok (record { name = into; slot = slot } ∷ [])))
    ≡ and_then plain (λ table. Ok (plain_entry into (Some table) ∷ []))
select_write into (Ok slot) (Ok table) e =
    let same : erased_slot slot ≡ Some table = cc in
    ap (λ (t : Option PlainTable). Ok (plain_entry into t ∷ [])) same
select_write into (Ok slot) (Err e) h = absurd (cc)
select_write into (Err e) (Ok table) h = absurd (cc)
select_write into (Err e) (Err f) h = let same : e ≡ f = cc in ap (λ x. Err x) same

sql_erased : (id : ℕ) (picks : List Pick) (into : List ℕ) (text : Answer Select) (look : List ℕ → Slot)
    → result_map_both (map erased_write) (λ e. e) (text_writes id picks into text look) ≡ plain_text_writes id picks into text (erased_look look)
sql_erased id picks into (Ok select) look =
    select_write into (select_meaning look select picks id) (plain_select (erased_look look) select picks id) (select_erases select look picks id)
sql_erased id picks into (Err e) look = refl

kind_erased : (env : EnvData) (cell : Cell) (id : ℕ) (picks : List Pick) (k : CellKind)
    → erased_by env cell (kind_meaning id picks k (look env)) ≡ plain_kind id picks k (erased_env env)
unfolding kind_meaning
kind_erased env cell id picks (kind.Make name table) = made_erased env cell name table
kind_erased env cell id picks (kind.Load name bytes types repair) =
    loaded_erased env cell name (load_of bytes types repair picks id)
    ∙ ap (λ (g : Answer PlainTable). plain_result name g (erased_env env)) (load_erases bytes types repair picks id)
kind_erased env cell id picks (kind.Vizual command) =
    writes_erased env cell (applied command id picks (look env))
    ∙ ap (λ (g : Answer (List PlainNamed)). plain_written g (erased_env env)) (applied_erases command id picks (look env))
kind_erased env cell id picks (kind.Sql text into) =
    writes_erased env cell (sql_writes id picks text into (look env))
    ∙ ap (λ (g : Answer (List PlainNamed)). plain_written g (erased_env env)) (sql_erased id picks into (select_of text) (look env))

step_erased : (going : Bool) (env : EnvData) (cell : Cell) → erased_step (step meaning going env cell) ≡ plain_step going (erased_env env) cell
step_erased true env cell = kind_erased env cell cell.id cell.picks cell.kind
step_erased false env cell = bare_erased env cell status.Blocked

-- ---- runs

-- the plain run whose first step is this
abbrev onward : Policy → List Cell → PlainStep → List PlainStep
onward p cells s = s ∷ plain_run_from p (goes_on p s.status) s.env cells

run_erased : (p : Policy) (going : Bool) (env : EnvData) (cells : List Cell)
    → map erased_step (run_from meaning p going env cells) ≡ plain_run_from p going (erased_env env) cells
run_erased p going env [] = refl
run_erased p going env (cell ∷ cells) =
    let s = step meaning going env cell in
    ap (λ rest. erased_step s ∷ rest) (run_erased p (goes_on p s.result.status) s.env cells)
    ∙ ap (onward p cells) (step_erased going env cell)

pub erases : (p : Policy) (cells : List Cell) → Erases p cells
erases p cells = run_erased p true empty_env cells ∙ ap (λ (e : PlainEnv). plain_run_from p true e cells) (fun_ext (λ q. refl))
