-- Counts of a column's texts, kept record by record.
use Rattle.std.specs.Prelude.{ℕ, ◌+◌, ◌-◌, ◌^◌, min, if◌then◌else◌, List, [], ◌∷◌, map, Bool, Option, Some, None, slice_get, fold, replicate, is_some}
use Rattle.std.specs.List.{enumerate_from, list_all, range_with_len}
use Rattle.value_types.specs.declared.value.ColumnType.{ColumnType}
use Rattle.value_types.specs.declared.value.ColumnType.TheVariants as kind
use Rattle.csv_load.specs.declared.guess.Tally.{Tally}
use Rattle.csv_load.specs.Ends.{stripped}
use Rattle.csv_load.specs.Guess.{guess_by, is_readable, declared}

-- before the first record
abbrev pub no_texts : Tally
no_texts = record { filled = 0; ints = 0; fixeds = 0; truths = 0 }

-- one more where it holds, up to the last value of u64
abbrev pub more_if : Bool → ℕ → ℕ
more_if holds n = min (n + (if holds then 1 else 0)) (2 ^ 64 - 1)

-- with one text more, which is stripped; an empty one doesn't count
abbrev pub with_text : Tally → List ℕ → Tally
with_text t [] = t
with_text t (b ∷ bs) = record {
  filled = min (t.filled + 1) (2 ^ 64 - 1);
  ints = more_if (is_readable kind.Int (b ∷ bs)) t.ints;
  fixeds = more_if (is_readable kind.Fixed (b ∷ bs)) t.fixeds;
  truths = more_if (is_readable kind.Bool (b ∷ bs)) t.truths;
}

-- with the field of one record more, if it is there
abbrev pub with_field : Tally → Option (List ℕ) → Tally
with_field t None = t
with_field t (Some field) = with_text t (stripped field)

-- each with the field at its place
abbrev pub with_record : List Tally → List (List ℕ) → List Tally
with_record ts fields = map (λ p. with_field p.1 (slice_get fields p.0)) (enumerate_from 0 ts)

-- the type by what was counted
abbrev pub guess_of : Tally → ColumnType
guess_of t = guess_by t.filled t.ints t.fixeds t.truths

-- a type is declared for each of so many columns
abbrev pub all_declared : List (Option ColumnType) → ℕ → Bool
all_declared types width = list_all (λ j. is_some (declared types j)) (range_with_len 0 width)

-- the counts of so many columns, where some type isn't declared
abbrev pub tallies_of : List (Option ColumnType) → ℕ → List (List (List ℕ)) → List Tally
tallies_of types width records =
    if all_declared types width then replicate width no_texts
    else fold with_record (replicate width no_texts) records
