-- Numbers in the range of u32.
use Rattle.std.proofs.Common.{◌≡◌, ℕ, ◌<◌, ◌^◌, Some, refl}
use Rattle.std.proofs.lemmas.Bool.{lt-ltb}
use Rattle.json_fields.specs.Numbers.{in_u32}

pub in_range : (n : ℕ) → n < 2 ^ 32 → in_u32 n ≡ Some n
in_range n small = rw (lt-ltb n (2 ^ 32) small) refl
