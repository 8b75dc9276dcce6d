use Rattle.std.proofs.Common.{◌≡◌, ◌≤◌, ◌++◌, List, ℕ, length, drop, take, ◌+◌, ◌∙◌, ap, sym, arith}
use Rattle.std.proofs.lemmas.List.{take-append-drop, drop-drop, take_at, length-take-le, length-drop, take_rest}
use Rattle.outside_io.proofs.pieces.copy_from.Goals as goal

moved : (at n : ℕ) (bytes copied tail : List ℕ) → n ≤ length (drop at bytes) → copied ≡ take n (drop at bytes) → drop at bytes ≡ take n (copied ++ tail) ++ drop (at + n) bytes
moved at n bytes copied tail le c =
    let rest = drop at bytes in
    sym (take-append-drop n rest)
    ∙ ap (λ (l : List ℕ). l ++ drop n rest) (sym (ap (λ (l : List ℕ). take n (l ++ tail)) c ∙ take_at (take n rest) tail n (length-take-le n rest le)))
    ∙ ap (λ (l : List ℕ). take n (copied ++ tail) ++ l) (drop-drop n at bytes)

pub returns-clause-moved : goal.returns-clause-moved
returns-clause-moved c =
    let at = c.args.at in
    let bytes = c.args.bytes.now in
    moved at c.min-count.result bytes c.copy_from_slice.new.self _ (omega (arith, length-drop at bytes, c.requires, c.min-count.ensures)) (c.copy_from_slice.ensures.after ∙ ap (λ (l : List ℕ). take c.min-count.result l) (take_rest bytes at))
