use Rattle.std.proofs.Common.{◌≡◌, ◌≤◌, ◌∙◌, ap, sym, inl, inr, arith, length, List, ℕ}
use Rattle.std.proofs.lemmas.Bool.{le-leb, leb-true, cases_lt}
use Rattle.outside_io.specs.Memory.{left_from}
use Rattle.outside_io.proofs.Places.{none_left, some_left}
use Rattle.outside_io.proofs.pieces.PiecesLeft.is_at_end.Goals as goal

pub returns-clause-end : goal.returns-clause-end
returns-clause-end c =
    let pieces = c.as_slice.result.now in
    let place = c.next_place-piece.result in
    let found = c.next_place-piece.ensures in
    let count : c.len.result ≡ length pieces = c.len.ensures ∙ ap (λ (l : List (List ℕ)). length l) (sym c.as_slice.ensures) in
    let same : left_from pieces place.0 place.1 ≡ c.args.self.now =
    found.same ∙ ap (λ (l : List (List ℕ)). left_from l c.self.inside.piece c.self.inside.at) c.as_slice.ensures ∙ c.self.view_is in (
      λ t.
          let past : length pieces ≤ place.0 = omega (arith, leb-true _ _ t, count) in
          sym same ∙ none_left pieces place.0 place.1 past (found.end past),
      λ none.
          elim (cases_lt place.0 (length pieces)) [
            | inl lt ↦ absurd (some_left pieces place.0 place.1 lt (found.some lt) (same ∙ none))
            | inr le ↦ le-leb _ _ (omega (arith, le, count))
          ],
    )
