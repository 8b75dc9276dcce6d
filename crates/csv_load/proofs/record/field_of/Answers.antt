use Rattle.std.proofs.Common.{◌≡◌, ◌∙◌, ℕ, zero, suc, List, [], ◌∷◌, refl}
use Rattle.std.specs.Prelude.{slice_get}
use Rattle.csv.specs.Records.{field_at}
use Rattle.csv_load.proofs.record.field_of.Goals as goal

at_place : (fields : List (List ℕ)) (i : ℕ) → field_at fields i ≡ slice_get fields i
unfolding field_at
at_place [] i = refl
at_place (f ∷ fs) zero = refl
at_place (f ∷ fs) (suc i) = at_place fs i

pub returns : goal.returns
returns c = c.get.ensures.value ∙ at_place _ c.args.place
