-- Slices of texts.
use Rattle.std.proofs.Common.{◌≡◌, ℕ, suc, ◌+◌, ◌-◌, ◌≤◌, List, [], ◌∷◌, ◌++◌, length, take, drop, get_or, sym, ap, ◌∙◌, arith}
use Rattle.std.specs.Prelude.{slice_range}
use Rattle.std.proofs.lemmas.List.{drop-take, drop-drop, take-take, length-append, get_or-append-add}
use Rattle.std.proofs.lemmas.List.Edits.{length-between, get_or-between}

slice_length : (text : List ℕ) (at end : ℕ) → at ≤ end → end ≤ length text → length (slice_range text at end) ≡ end - at
slice_length text at end h w = length-between text at end w

-- the inner text of a token is a slice of the whole one
pub inner : (text : List ℕ) (at end : ℕ) → at + 2 ≤ end → end ≤ length text
    → slice_range text (at + 1) (end - 1) ≡ slice_range (slice_range text at end) 1 (length (slice_range text at end) - 1)
inner text at end h w =
    let long : length (slice_range text at end) ≡ end - at = slice_length text at end (omega (arith, h)) w in
    let size : end - at ≡ 1 + (end - at - 1) = omega (arith, h) in
    let tail : drop 1 (slice_range text at end) ≡ take (end - at - 1) (drop (at + 1) text) =
    ap (λ n. drop 1 (take n (drop at text))) size ∙ drop-take 1 (end - at - 1) (drop at text) ∙ ap (λ x. take (end - at - 1) x) (drop-drop 1 at text) in
    let cut : length (slice_range text at end) - 1 - 1 ≡ end - 1 - (at + 1) = omega (arith, long, h) in
    let few : end - 1 - (at + 1) ≤ end - at - 1 = omega (arith, h) in
    sym (ap (λ n. take n (drop 1 (slice_range text at end))) cut ∙ ap (λ x. take (end - 1 - (at + 1)) x) tail ∙ take-take (end - 1 - (at + 1)) (end - at - 1) (drop (at + 1) text) few)

-- a slice that is a text in quotes has them at its ends
module _ (text : List ℕ) (at end : ℕ) (inside : List ℕ) (h : at ≤ end) (w : end ≤ length text) (e : slice_range text at end ≡ 39 ∷ (inside ++ 39 ∷ [])) where
  count : end - at ≡ length inside + 2
  count =
      let whole = slice_length text at end h w in
      let n : length (slice_range text at end) ≡ suc (length (inside ++ 39 ∷ [])) = ap length e in
      let m : length (inside ++ 39 ∷ []) ≡ length inside + 1 = length-append inside (39 ∷ []) in
      omega (arith, whole, n, m)

  pub long : at + 2 ≤ end
  long = let c = count in omega (arith, c)

  pub opened : get_or text at 0 ≡ 39
  opened =
      let l = long in
      let place : at ≡ at + 0 = omega arith in
      ap (λ n. get_or text n 0) place ∙ sym (get_or-between text at end 0 0 (omega (arith, l))) ∙ ap (λ s. get_or s 0 0) e

  pub closed : get_or text (end - 1) 0 ≡ 39
  closed =
      let c = count in
      let place : end - 1 ≡ at + suc (length inside + 0) = omega (arith, c) in
      ap (λ n. get_or text n 0) place ∙ sym (get_or-between text at end (suc (length inside + 0)) 0 (omega (arith, c))) ∙ ap (λ s. get_or s (suc (length inside + 0)) 0) e
      ∙ get_or-append-add inside (39 ∷ []) 0 0
