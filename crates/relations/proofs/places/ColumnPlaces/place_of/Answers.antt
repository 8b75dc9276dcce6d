use Rattle.std.proofs.Common.{sym}
use Rattle.relations.proofs.PlacesWithin.{found_within}
use Rattle.relations.proofs.places.ColumnPlaces.place_of.Goals as goal

pub returns-clause-within : goal.returns-clause-within
returns-clause-within c =
    found_within c.args.self.now c.args.qualifier.now c.args.name.now c.in_ok-found.found.now
    (sym (rw (c.as_slice.ensures, c.self.invariant, c.self.view_is) at c.in_ok-found.ensures))
