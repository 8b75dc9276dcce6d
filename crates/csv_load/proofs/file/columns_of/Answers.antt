use Rattle.std.proofs.Common.{◌≡◌, ◌∙◌, sym, length, map, ℕ, List, [], ◌∷◌, zero, suc, ◌+◌, refl, ap}
use Rattle.std.specs.List.{range_with_len}
use Rattle.csv.specs.Records.{fields_of}
use Rattle.csv_load.specs.Reading.{left_of}
use Rattle.csv_load.proofs.TableParts.{columns_zipped, names_many}
use Rattle.csv_load.proofs.file.columns_of.Goals as goal

range_many : {A : Type 0} (f : ℕ → A) (k n : ℕ) → length (map f (range_with_len k n)) ≡ n
range_many f k zero = refl
range_many f k (suc n) = ap suc (range_many f (k + 1) n)

pub columns_named-requires : goal.columns_named-requires
columns_named-requires g c =
    rw (c.as_slice.ensures, c.in_ok-names.ensures, c.as_slice-2.ensures.value, c.in_ok-kinds.ensures, c.len.ensures)
    (names_many [] (fields_of c.args.header.now) ∙ sym (range_many _ 0 (length (fields_of c.args.header.now))))

pub returns : goal.returns
returns g c =
    rw (c.as_slice.ensures, c.in_ok-names.ensures, c.as_slice-2.ensures.value, c.in_ok-kinds.ensures, c.len.ensures, columns_zipped c.args.types.now (left_of g.R.Read.remaining c.args.reader.now) (fields_of c.args.header.now)) at c.columns_named.ensures
