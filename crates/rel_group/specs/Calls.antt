-- What the functions promise each other: rows with their keys, and how they are put into lots, which stand for groups.
use Rattle.std.specs.Prelude.{◌≡◌, ℕ, suc, Bool, true, false, ◌||◌, ◌+◌, if◌then◌else◌, Option, Some, None, Result, Ok, Err, List, [], ◌∷◌, ◌++◌, map, slice_get, length, filter}
use Rattle.std.specs.List.{list_any, filter_map}
use Rattle.std.specs.Ordering.{is_lt, is_gt}
use Rattle.std.specs.declared.cmp.Ordering.{Ordering}
use Rattle.std.specs.declared.cmp.Ordering.TheVariants.{Less, Equal, Greater}
use Rattle.value_types.specs.declared.value.Value.{Value}
use Rattle.value_types.specs.declared.row_id.RowId.{Key}
use Rattle.value_types.specs.Order.{same_key}
use Rattle.dataset_types.specs.declared.row.Marked.{Marked}
use Rattle.dataset_types.specs.declared.row.Row.{Row}
use Rattle.dataset_types.specs.Tables.{few_values}
use Rattle.cell_errors.specs.declared.fault.CellError.TheVariants.{TooLarge}
use Rattle.cell_errors.specs.declared.fault.EvalFault.{EvalFault}
use Rattle.cell_errors.specs.Answers.{Answer, Fails, and_then, collect}
use Rattle.expr_lang.specs.declared.expr.Expr.{Expr}
use Rattle.expr_ops.specs.declared.aggregates.Aggregate.{Aggregate}
use Rattle.expr_meaning.specs.declared.bindings.Binding.{Binding}
use Rattle.expr_meaning.specs.declared.bindings.ScopeColumn.{ScopeColumn}
use Rattle.expr_meaning.specs.declared.setting.Setting.{Setting}
use Rattle.expr_meaning.specs.Meaning.{marked_at, over_at}
use Rattle.expr_meaning.specs.Settings.{MarkedSetting}
use Rattle.expr_meaning.specs.Sees.{setting_of}
use Rattle.relations.specs.declared.batch.Batch.{Batch}
use Rattle.relations.specs.declared.condition.Test.{Test}
use Rattle.relations.specs.declared.parts.Item.{Item}
use Rattle.relations.specs.Rels.{RelData}
use Rattle.relations.specs.Batches.{gathered}
use Rattle.rel_group.specs.declared.parts.Lot.{Lot}
use Rattle.rel_group.specs.declared.parts.TestedLot.{TestedLot}
use Rattle.rel_group.specs.declared.keyed.Keyed.{Keyed}
use Rattle.rel_group.specs.declared.job.Job.{Job}
use Rattle.rel_group.specs.declared.reading.Operands.{Operands}
use Rattle.rel_ops.specs.Project.{item_columns, marked_value}
use Rattle.rel_group.specs.Keys.{key_cmp, ascending, rows_at}
use Rattle.rel_group.specs.Groups.{Group, key_values, key_columns, is_certain, is_uncertain, bound_rows, groups, certain, setting_under, group_types}
use Rattle.rel_group.specs.Group.{Tested, condition_test, having_test, group_value, group_values, group_row, rows_of, grouped_to}

-- a row as it is grouped: its place, which counts from 0, with its key
abbrev pub with_key : Option (List ℕ) → ℕ → Row → Keyed
with_key keys n r = record { key = key_values keys r; certain = is_certain keys r; row = n }

-- rows with their keys, the first of them at a place
abbrev pub keyed_from : Option (List ℕ) → ℕ → List Row → List Keyed
keyed_from keys n [] = []
keyed_from keys n (r ∷ rs) = with_key keys n r ∷ keyed_from keys (n + 1) rs

-- rows with their keys
abbrev pub all_keyed : Option (List ℕ) → List Row → List Keyed
all_keyed keys rows = keyed_from keys 0 rows

-- a lot of one row
abbrev pub single : Keyed → Lot
single x = record { key = x.key; sure = x.certain; rows = x.row ∷ [] }

-- a lot with one row more
abbrev pub with_row : Lot → Keyed → Lot
with_row g x = record { key = g.key; sure = g.sure || x.certain; rows = g.rows ++ x.row ∷ [] }

-- the lots that are done and the last one, with one row more
abbrev pub taken_by : Bool → List Lot → Lot → Keyed → List Lot × Lot
taken_by true done g x = (done, with_row g x)
taken_by false done g x = (done ++ g ∷ [], single x)

-- the lots that are done and the last one, with one row more; the first row begins a lot
abbrev pub taken : List Lot → Option Lot → Keyed → List Lot × Lot
taken done None x = (done, single x)
taken done (Some g) x = taken_by (same_key g.key x.key) done g x

-- the lots that are done, and the last one after them
abbrev pub finished : List Lot → Option Lot → List Lot
finished done None = done
finished done (Some g) = done ++ g ∷ []

-- the rows cut where the key changes, the first of them into a lot that is begun
abbrev pub cut_from : Lot → List Keyed → List Lot
cut_from g [] = g ∷ []
cut_from g (x ∷ xs) = if same_key g.key x.key then cut_from (with_row g x) xs else g ∷ cut_from (single x) xs

-- the rows cut where the key changes
abbrev pub cut : List Keyed → List Lot
cut [] = []
cut (x ∷ xs) = cut_from (single x) xs

-- the lot of a key, of these rows
abbrev pub collected : List Keyed → List Value → Lot
collected xs k =
    let here = rows_at (λ x. x.key) xs k in record { key = k; sure = list_any (λ x. x.certain) here; rows = map (λ x. x.row) here }

-- a lot for each key of these rows, in ascending order
abbrev pub all_collected : List Keyed → List Lot
all_collected xs = map (collected xs) (ascending (map (λ x. x.key) xs))

-- a lot that a row comes before, is in, or comes after
abbrev pub placed_by : Ordering → Lot → List Lot → Keyed → List Lot → List Lot
placed_by Less g gs x rest = single x ∷ g ∷ gs
placed_by Equal g gs x rest = with_row g x ∷ gs
placed_by Greater g gs x rest = g ∷ rest

-- lots in ascending order with one row more, in its lot or in a new one
abbrev pub placed : List Lot → Keyed → List Lot
placed [] x = single x ∷ []
placed (g ∷ gs) x = placed_by (key_cmp x.key g.key) g gs x (placed gs x)

-- how many lots come before a key
abbrev pub lots_before : List Value → List Lot → ℕ
lots_before k [] = 0
lots_before k (g ∷ gs) = if is_gt (key_cmp k g.key) then suc (lots_before k gs) else 0

-- whether there is a lot and it has this key
abbrev pub is_of_key : Option Lot → List Value → Bool
is_of_key None k = false
is_of_key (Some g) k = same_key g.key k

-- whether the lot at a place, which counts from 0, has this key
abbrev pub has_key : List Lot → ℕ → List Value → Bool
has_key gs at k = is_of_key (slice_get gs at) k

-- a lot for each key, in ascending order
abbrev pub lots_of : Option (List ℕ) → List Row → List Lot
lots_of keys rows = all_collected (all_keyed keys rows)

-- lots for each key of these rows, in ascending order
abbrev pub AreLots : Option (List ℕ) → List Row → List Lot → Type 0
AreLots keys rows gs = gs ≡ lots_of keys rows

-- the rows at these places, which count from 0
abbrev pub rows_by : List Row → List ℕ → List Row
rows_by rows places = filter_map (slice_get rows) places

-- the group that a lot stands for
abbrev pub bound_lot : List ScopeColumn → List Row → Lot → Group
bound_lot columns rows g = record { key = g.key; sure = g.sure; rows = bound_rows columns (rows_by rows g.rows) }

-- lots that stand for the groups by these places
abbrev pub StandFor : List ℕ → List Row → List Lot → Type 0
StandFor places rows gs = (columns : List ScopeColumn) → map (bound_lot columns rows) gs ≡ groups columns places rows

-- the row of a lot with these values
abbrev pub lot_row : Lot → List Marked → Row
lot_row g values = record { id = Key g.key; sure = g.sure; values = values }

-- the row of a lot by all columns
abbrev pub key_lot : Lot → Row
key_lot g = lot_row g (map certain g.key)

-- the setting of a group of a job
abbrev pub setting_in : Job → Group → MarkedSetting
setting_in job = setting_under job.columns.now job.places.now job.uncertain

-- whether there is a value and it is marked
abbrev pub is_marked : Option Marked → Bool
is_marked None = false
is_marked (Some m) = m.marked

-- rows in ascending order of key
abbrev pub key_lt : Keyed → Keyed → Bool
key_lt a b = is_lt (key_cmp a.key b.key)

-- a job whose column places are those of its relation
abbrev pub HasColumnPlaces : Job → Type 0
HasColumnPlaces job = job.column_places.now ≡ job.rel.now.columns

-- a job whose columns, doubts and column places are those of its relation
pub record IsOf (job : Job) : Type 0 where
  pub columns : job.columns.now ≡ key_columns job.rel.now.columns job.places.now
  pub uncertain : job.uncertain ≡ is_uncertain (Some job.places.now) job.rel.now
  pub places : HasColumnPlaces job

-- the group that a lot of a job stands for
abbrev pub bound_in : Job → Lot → Group
bound_in job = bound_lot job.rel.now.columns job.rel.now.rows

-- that group with its test
abbrev pub bound_test : Job → TestedLot → Tested
bound_test job x = record { group = bound_in job x.lot; test = x.test }

-- whether a condition is TRUE of a group
abbrev pub condition_in : Job → Expr → Group → Answer Test
condition_in job condition g = condition_test condition job.picks.now job.cell (setting_in job g)

-- whether HAVING is TRUE of a group
abbrev pub having_in : Job → Option Expr → Group → Answer Test
having_in job having g = having_test having job.picks.now job.cell (setting_in job g)

-- a lot with the test of its group
abbrev pub tested_in : Job → Option Expr → Lot → Answer TestedLot
tested_in job having g = and_then (having_in job having (bound_in job g)) (λ t. Ok (record { lot = g; test = t }))

-- the columns of the key with the values of a lot's key
abbrev pub key_bindings : Job → Lot → List Binding
key_bindings job g = (setting_in job (bound_in job g)).row

-- the value of an item
abbrev pub item_in : Setting → Item → Answer Marked
item_in s i = group_value s.picks.now s.cell (setting_of s) i

-- the values of all items
abbrev pub items_in : Setting → List Item → Answer (List Marked)
items_in s items = group_values items s.picks.now s.cell (setting_of s)

-- the values of all items of a group
abbrev pub values_in : Job → List Item → Group → Answer (List Marked)
values_in job items g = group_values items job.picks.now job.cell (setting_in job g)

-- the row of the items of a lot whose group HAVING keeps
abbrev pub row_in : Job → List Item → TestedLot → Answer Batch
row_in job items x = group_row (setting_in job) items job.picks.now job.cell (bound_test job x)

-- the rows of these lots: HAVING of all, and then the items of those that it keeps
abbrev pub group_rows_in : Job → Option Expr → List Item → List Lot → Answer Batch
group_rows_in job having items gs = and_then (collect (tested_in job having) gs) (λ ts. gathered (row_in job items) ts)

-- the rows of the groups of a job
abbrev pub rows_in : Job → Option Expr → List Item → Answer Batch
rows_in job having items = rows_of job.rel.now job.places.now having items job.picks.now job.cell

-- rows of so many values each, where these are few in all
abbrev pub if_few_values : ℕ → Batch → Answer Batch
if_few_values width b = if few_values (length b.rows) width then Ok b else Err TooLarge

-- the rows of these lots, where their values are few
abbrev pub lots_within : Job → Option Expr → List Item → List Lot → Answer Batch
lots_within job having items gs = and_then (group_rows_in job having items gs) (if_few_values (length items))

-- the rows of the groups of a job, where their values are few
abbrev pub rows_within : Job → Option Expr → List Item → Answer Batch
rows_within job having items = and_then (rows_in job having items) (if_few_values (length items))

-- how many groups HAVING keeps
abbrev pub kept_count : List TestedLot → ℕ
kept_count ts = length (filter (λ x. x.test.holds) ts)

-- the types of a job's items
abbrev pub columns_in : Job → List Item → Answer (List ScopeColumn)
columns_in job items = item_columns (group_types job.rel.now.columns job.places.now) items

-- the rows of the groups of a job under the output columns
abbrev pub grouped_in : Job → List ScopeColumn → Option Expr → List Item → Answer RelData
grouped_in job columns having items = grouped_to columns job.rel.now job.places.now having items job.picks.now job.cell

-- ---- items that are read at places

-- what a call answers is what the definition gives, unless it leaves that to another or memory ran out
abbrev pub MayGive : {A : Type 0} → Result (Option A) EvalFault → Answer A → Type 0
MayGive (Ok None) given = Unit {0}
MayGive (Ok (Some value)) given = given ≡ Ok value
MayGive (Err f) given = Fails f given

-- the value of an expression over the group of a lot
abbrev pub expr_in : Job → Lot → Expr → Answer Marked
expr_in job g e = marked_value (marked_at (setting_in job (bound_in job g)) job.picks.now job.cell e)

-- the value of an item over that group
abbrev pub item_over : Job → Lot → Item → Answer Marked
item_over job g i = expr_in job g i.expr

-- an aggregate of an expression over that group
abbrev pub over_in : Aggregate → Job → Lot → Expr → Answer Marked
over_in op job g e = marked_value (over_at op (setting_in job (bound_in job g)) job.picks.now job.cell e)

-- the value at a place, which counts from 0, of a row, where there is one
abbrev pub value_in : ℕ → Option Row → Option Marked
value_in place None = None
value_in place (Some r) = slice_get r.values place

-- the values at a place of the rows that have one there
abbrev pub read_at : ℕ → List Row → List Marked
read_at place rows = filter_map (λ r. slice_get r.values place) rows

-- marked values as operands: the values, and whether one of them is marked
abbrev pub operands_of : List Marked → Operands
operands_of ms = record { values = map (λ m. m.value) ms; marked = list_any (λ m. m.marked) ms }

-- the operands at a place of these rows
abbrev pub operands_at : ℕ → List Row → Operands
operands_at place rows = operands_of (read_at place rows)

-- one operand more
abbrev pub with_operand : Operands → Marked → Operands
with_operand all m = record { values = all.values ++ m.value ∷ []; marked = all.marked || m.marked }
