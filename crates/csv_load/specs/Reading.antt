-- A reader of a file's records, and the records that it has left.
use Rattle.std.specs.Prelude.{◌≡◌, ℕ, ◌+◌, List, [], ◌∷◌, length, Bool, true, false, Option, Some, None, IsSome}
use Rattle.csv.specs.Machine.{ends_at_end}
use Rattle.csv.specs.Reading.{default_config, records_from, source_of, reader_config, reader_state, reader_trim, is_flexible, has_failed, Ready}
use Rattle.csv.specs.declared.reader.Reader.{Reader}
use Rattle.csv.specs.declared.reader.Trim.TheVariants as trim
use Rattle.csv.specs.declared.parser.State.{State}

-- the records of what is left of a text, if that is known
abbrev pub records_in : Option (List ℕ) → State → List (List (List ℕ))
records_in None s = []
records_in (Some text) s = records_from default_config (length text + 1) s text

-- the records that a reader has left
abbrev pub left_of : {R : Type 0} → (R → Option (List ℕ)) → Reader R → List (List (List ℕ))
left_of remaining reader = records_in (source_of remaining reader) (reader_state reader)

-- a reader between two records, with the defaults of `csv` but for flexible records and no header row
pub record IsReading {R : Type 0} (remaining : R → Option (List ℕ)) (reader : Reader R) : Type 0 where
  pub config : reader_config reader ≡ default_config
  pub trim : reader_trim reader ≡ trim.None
  pub flexible : is_flexible reader ≡ true
  pub ready : Ready reader
  pub working : has_failed reader ≡ false
  pub between : ends_at_end (reader_state reader) ≡ false
  pub known : IsSome (source_of remaining reader)

-- the next of these records and those after it, or that there is none
abbrev pub IsNext : List (List (List ℕ)) → Bool → List (List ℕ) → List (List (List ℕ)) → Type 0
IsNext all true fields rest = all ≡ fields ∷ rest
IsNext all false fields rest = all ≡ []
