use Rattle.std.proofs.Common.{◌≡◌, ◌∙◌, ◌<◌, length, true, refl, arith}
use Rattle.std.specs.List.{list_any}
use Rattle.std.specs.Str.{bytes_eq}
use Rattle.csv_load.specs.Names.{with_number}
use Rattle.csv_load.proofs.BaseNames.{numbered_is}
use Rattle.csv_load.proofs.FreeNames.{some_free, next_number, no_number}
use Rattle.csv_load.proofs.header.free_name.Goals as goal

pub unwrap-requires-then-not-is_taken-2 : goal.unwrap-requires-then-not-is_taken-2
unwrap-requires-then-not-is_taken-2 c =
    let named = numbered_is c.args.name.now c.loop-k.k c.requires.base (omega arith) in
    rw (c.read_name-then-not-is_taken-2.ensures, c.as_slice-then-not-is_taken-2.ensures.value, c.in_ok-candidate.ensures, named) refl

pub loop-k-preserved : goal.loop-k-preserved
loop-k-preserved c =
    let held = rw (c.as_slice.ensures.value, c.in_ok-candidate.ensures) at c.if-not-is_taken-2.ensures in
    c.loop-k.invariant ∙ next_number c.args.taken.now c.args.name.now (length c.args.taken.now) c.loop-k.k (omega arith) (rw (← held) refl)

pub unreachable-requires : goal.unreachable-requires
unreachable-requires c =
    some_free c.args.taken.now c.args.name.now c.requires.few
    (c.loop-k.invariant ∙ no_number c.args.taken.now c.args.name.now (length c.args.taken.now) c.loop-k.k c.loop-k-test.false)
