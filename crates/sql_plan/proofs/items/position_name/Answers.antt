use Rattle.std.proofs.Common.{arith, refl}
use Rattle.sql_plan.proofs.Positions.{position_is_name}
use Rattle.sql_plan.proofs.items.position_name.Goals as goal

pub unwrap-requires : goal.unwrap-requires
unwrap-requires c =
    let named = position_is_name c.args.position (omega arith) in
    rw (c.read_name.ensures, c.as_bytes.ensures.value, c.in_ok-text.ensures.ok, named) refl
