-- Whole results: taken apart, without marks, and of what is a dataset.
use Rattle.std.proofs.Common.{◌≡◌, Bool, true, false, Ok, Err, refl, subst}
use Rattle.std.specs.Prelude.{if◌then◌else◌}
use Rattle.std.specs.Result.{result_map_both}
use Rattle.cell_errors.specs.declared.fault.CellError.TheVariants as error
use Rattle.dataset_types.specs.Tables.{TableData, IsTable, within_limits}
use Rattle.dataset_types.specs.Plain.{erased}
use Rattle.dataset_types.proofs.PlainLemmas.{within_erased}
use Rattle.edit_results.specs.Results.{KeepsRules, whole, plain_whole}

-- a result within the limits is that result
pub whole_is : (t out : TableData) → whole t ≡ Ok out → t ≡ out
whole_is t out e = at (within_limits t) e
  where
    at : (b : Bool) → (if b then Ok t else Err error.TooLarge) ≡ Ok out → t ≡ out
    at true e = cc
    at false e = cc

-- a dataset is a whole result
pub whole_of : (t : TableData) → IsTable t → whole t ≡ Ok t
whole_of t is = at (within_limits t) is.limits
  where
    at : (b : Bool) → b ≡ true → (if b then Ok t else Err error.TooLarge) ≡ Ok t
    at true e = refl
    at false e = cc

-- a result that keeps the rules is a dataset where it is within the limits
pub whole_table : (t out : TableData) → KeepsRules t → whole t ≡ Ok out → IsTable out
whole_table t out rules e = at (within_limits t) refl e
  where
    at : (b : Bool) → within_limits t ≡ b → (if b then Ok t else Err error.TooLarge) ≡ Ok out → IsTable out
    at true is k =
        subst IsTable (whole_is t out e) (record { names = rules.names; ids = rules.ids; fitting = rules.fitting; sure = rules.sure; limits = is })
    at false is k = cc

-- a result without its marks and flags
pub whole_erased : (t : TableData) → result_map_both erased (λ e. e) (whole t) ≡ plain_whole (erased t)
whole_erased t = rw (within_erased t) (at (within_limits t))
  where
    at : (b : Bool) → result_map_both erased (λ e. e) (if b then Ok t else Err error.TooLarge) ≡ (if b then Ok (erased t) else Err error.TooLarge)
    at true = refl
    at false = refl
