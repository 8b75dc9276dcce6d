use Rattle.relations.specs.Places.{ReadsPlace}
use Rattle.rel_join.proofs.ComparedPlaces.{compares}
use Rattle.rel_join.proofs.equality.equality_by.Goals as goal

pub returns-in-Some-Some : goal.returns-in-Some-Some
returns-in-Some-Some c = λ values picks cell x y fits here there.
    let first : ReadsPlace c.args.columns.now c.in-Some-Some.first c.args.first.now = rw (c.in-Some-Some.is-0, c.in_ok-places-in-Equal.ensures) at c.column_place.ensures.reads in
    let second : ReadsPlace c.args.columns.now c.in-Some-Some.second c.args.second.now = rw (c.in-Some-Some.is-1, c.in_ok-places-in-Equal.ensures) at c.column_place-in-Equal.ensures.reads in
    rw c.in-Equal.is
    (compares c.args.columns.now (record { first = c.in-Some-Some.first; second = c.in-Some-Some.second }) c.args.first.now c.args.second.now first second values picks cell x y fits here there)
