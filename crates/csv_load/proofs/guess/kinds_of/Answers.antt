use Rattle.std.proofs.Common.{◌≡◌, ◌∙◌}
use Rattle.std.specs.Prelude.{IfOk, Result}
use Rattle.csv_load.proofs.TallyLemmas.{kinds_are}
use Rattle.csv_load.proofs.guess.kinds_of.Goals as goal

pub returns : goal.returns
returns g c =
    let made = kinds_are c.args.types.now _ c.requires.few c.args.width in
    rw (c.as_slice.ensures.value, c.in_ok-tallies.ensures, made) at c.kinds_by.ensures
