-- What is left of pieces from a place on.
use Rattle.std.proofs.Common.{◌≡◌, ◌≤◌, ◌<◌, ◌+◌, ◌++◌, [], ℕ, List, length, drop, get_or, ap, ◌∙◌, length-append, arith}
use Rattle.std.proofs.lemmas.List.{drop_all, drop_more, length-drop}
use Rattle.outside_io.specs.Memory.{joined, left_from}

-- nothing past the last piece
pub none_left : (pieces : List (List ℕ)) (piece at : ℕ) → length pieces ≤ piece → at ≡ 0 → left_from pieces piece at ≡ []
none_left pieces piece at past start =
    ap (λ (k : ℕ). left_from pieces piece k) start ∙ ap joined (drop_all piece pieces past)

-- something where the piece has a byte at the place
pub some_left : (pieces : List (List ℕ)) (piece at : ℕ) → piece < length pieces → at < length (get_or pieces piece []) → left_from pieces piece at ≡ [] → ⊥
some_left pieces piece at inside more none =
    let all = joined (drop piece pieces) in
    let rest = joined (drop (piece + 1) pieces) in
    let here = get_or pieces piece [] in
    let is : length all ≡ length (here ++ rest) = ap (λ (l : List (List ℕ)). length (joined l)) (drop_more pieces piece [] inside) in
    let gone : length (drop at all) ≡ 0 = ap (λ (l : List ℕ). length l) none in
    absurd (omega (arith, length-drop at all, is, length-append here rest, gone, more))
