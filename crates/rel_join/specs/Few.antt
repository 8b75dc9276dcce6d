-- Rows that are kept while they are few.
use Rattle.std.specs.Prelude.{◌≡◌, ℕ, Bool, ◌&&◌, if◌then◌else◌, length, IsTrue, Option, None, Some, Ok, List}
use Rattle.std.specs.Bool.{⊤}
use Rattle.cell_errors.specs.Answers.{Answer, and_then}
use Rattle.dataset_types.specs.declared.row.Row.{Row}
use Rattle.dataset_types.specs.Tables.{text_bytes, few_rows, few_bytes}
use Rattle.relations.specs.declared.batch.Batch.{Batch}
use Rattle.relations.specs.Batches.{both}

-- no more rows and bytes of text than any result may have
abbrev pub are_few : List Row → Bool
are_few rows = few_rows (length rows) && few_bytes (text_bytes rows)

-- the batch where its rows are few, else nothing: what comes after too much is too much
abbrev pub if_few : Batch → Option Batch
if_few m = if are_few m.rows then Some m else None

-- the same of an answer
abbrev pub few_of : Answer Batch → Answer (Option Batch)
few_of a = and_then a (λ m. Ok (if_few m))

-- both where their rows are few together
abbrev pub both_few : Option Batch → Option Batch → Option Batch
both_few None b = None
both_few (Some a) None = None
both_few (Some a) (Some b) = if_few (both a b)

-- few rows, with the bytes of text in them
abbrev pub AreCounted : Option Batch → ℕ → Type 0
AreCounted None bytes = ⊤
AreCounted (Some m) bytes = IsTrue (are_few m.rows) × (bytes ≡ text_bytes m.rows)
