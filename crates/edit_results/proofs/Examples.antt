-- Worked examples of Ints in Fixed columns.
use Rattle.std.proofs.Common.{◌≡◌, Ok, Err, refl}
use Rattle.std.specs.Prelude.{pos, negsuc}
use Rattle.value_types.specs.declared.value.Value.TheVariants.{Fixed}
use Rattle.cell_errors.specs.declared.fault.CellError.TheVariants.{Overflow}
use Rattle.edit_results.specs.Widening.{as_fixed}

three : as_fixed (pos 3) ≡ Ok (Fixed (pos 30000))
three = refl

greatest : as_fixed (pos 922337203685477) ≡ Ok (Fixed (pos 9223372036854770000))
greatest = refl

least : as_fixed (negsuc 922337203685476) ≡ Ok (Fixed (negsuc 9223372036854769999))
least = refl

too_small : as_fixed (negsuc 922337203685477) ≡ Err Overflow
too_small = refl

too_great : as_fixed (pos 922337203685478) ≡ Err Overflow
too_great = refl
