use Rattle.std.proofs.Common.{◌≡◌, ◌++◌, ◌∙◌, sym, length, slice_get, Some, arith}
use Rattle.std.proofs.lemmas.Grind.{common_steps}
use Rattle.std.proofs.lemmas.Result.{err_from_is_err_and}
use Rattle.rel_join.proofs.ComparedPlaces.{on_places}
use Rattle.rel_join.proofs.pairs.test_places.Goals as goal

pub returns-in_err-test_equal : goal.returns-in_err-test_equal
returns-in_err-test_equal c =
    let job = c.args.job.now in
    let left = c.args.left.now in
    let right = c.args.right.now in
    let fits : length left.values ≡ length job.left.now.columns = grind (arith, common_steps) in
    let fits_too : length right.values ≡ length job.right.now.columns = grind (arith, common_steps) in
    let here : slice_get (left.values ++ right.values) c.args.at.first ≡ Some c.in-Some.x.now = grind (arith, common_steps) in
    let there : slice_get (left.values ++ right.values) c.args.at.second ≡ Some c.in-Some-value_at.y.now = grind (arith, common_steps) in
    let on = on_places job c.args.at left right c.in-Some.x.now c.in-Some-value_at.y.now c.requires fits fits_too here there in
    let p = err_from_is_err_and c.from_residual.result c.from_residual.ensures.1 in
    rw (p.1, p.2) (on ∙ sym c.in_err-test_equal.ensures)

pub returns-in-Some-value_at : goal.returns-in-Some-value_at
returns-in-Some-value_at c =
    let job = c.args.job.now in
    let left = c.args.left.now in
    let right = c.args.right.now in
    let fits : length left.values ≡ length job.left.now.columns = grind (arith, common_steps) in
    let fits_too : length right.values ≡ length job.right.now.columns = grind (arith, common_steps) in
    let here : slice_get (left.values ++ right.values) c.args.at.first ≡ Some c.in-Some.x.now = grind (arith, common_steps) in
    let there : slice_get (left.values ++ right.values) c.args.at.second ≡ Some c.in-Some-value_at.y.now = grind (arith, common_steps) in
    on_places job c.args.at left right c.in-Some.x.now c.in-Some-value_at.y.now c.requires fits fits_too here there
    ∙ sym c.in_ok-test_equal.ensures
