-- The name of a position is a name.
use Rattle.std.proofs.Common.{◌≡◌, ◌≤◌, ◌<◌, ◌+◌, ◌%◌, ◌^◌, ℕ, List, [], ◌∷◌, ◌++◌, length, true, refl, arith}
use Rattle.std.specs.Prelude.{decimal, nat_le}
use Rattle.std.specs.List.{list_all}
use Rattle.std.proofs.lemmas.Bool.Decides.{nat_tests}
use Rattle.std.proofs.lemmas.Fmt.{decimal_by_steps, length-decimal-le}
use Rattle.std.proofs.lemmas.List.Folds.{list_all-append}
use Rattle.value_types.specs.Names.{is_name, is_name_byte}
use Rattle.sql_plan.specs.Items.{position_name}

digit_byte : (d : ℕ) → d < 10 → is_name_byte (48 + d) ≡ true
digit_byte d h = grind (arith, nat_tests)

digits_are : (n : ℕ) → n < 2 ^ 64 → list_all is_name_byte (decimal n) ≡ true
digits_are n h = decimal_by_steps (λ m ds. list_all is_name_byte ds ≡ true) one more n h
  where
    one : (m : ℕ) → m < 10 → list_all is_name_byte ((48 + m) ∷ []) ≡ true
    one m lt = rw (digit_byte m lt) refl

    more : (m : ℕ) (ds : List ℕ) → 10 ≤ m → list_all is_name_byte ds ≡ true → list_all is_name_byte (ds ++ ((48 + m % 10) ∷ [])) ≡ true
    more m ds le is = rw (list_all-append is_name_byte ds ((48 + m % 10) ∷ []), is, digit_byte (m % 10) (omega arith)) refl

pub position_is_name : (n : ℕ) → n < 2 ^ 64 → is_name (position_name n) ≡ true
position_is_name n h =
    let short = length-decimal-le 20 n (omega arith) (omega arith) h in
    let few : nat_le (length (decimal n)) 31 ≡ true = grind (arith, nat_tests) in
    rw (digits_are n h, few) refl
