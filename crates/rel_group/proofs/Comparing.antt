-- The comparison of two keys where one of them is at its end.
use Rattle.std.proofs.Common.{◌≡◌, ℕ, ◌+◌, ◌<◌, ◌≤◌, length, drop, get_or, List, [], ◌∷◌, ap, ◌∙◌}
use Rattle.std.specs.declared.cmp.Ordering.TheVariants.{Less, Equal, Greater}
use Rattle.std.proofs.lemmas.List.{drop_more, drop_all}
use Rattle.value_types.specs.declared.value.Value.{Value}
use Rattle.value_types.specs.declared.value.Value.TheVariants.{Null}
use Rattle.rel_group.specs.Keys.{key_cmp}

-- the first goes on
pub longer : (a b : List Value) (i : ℕ) → i < length a → length b ≤ i → key_cmp (drop i a) (drop i b) ≡ Greater
longer a b i h k =
    ap (λ z. key_cmp z (drop i b)) (drop_more a i Null h) ∙ ap (λ z. key_cmp (get_or a i Null ∷ drop (i + 1) a) z) (drop_all i b k)

-- the second goes on
pub shorter : (a b : List Value) (i : ℕ) → length a ≤ i → i < length b → key_cmp (drop i a) (drop i b) ≡ Less
shorter a b i h k =
    ap (λ z. key_cmp z (drop i b)) (drop_all i a h) ∙ ap (λ z. key_cmp [] z) (drop_more b i Null k)

-- neither goes on
pub alike : (a b : List Value) (i : ℕ) → length a ≤ i → length b ≤ i → key_cmp (drop i a) (drop i b) ≡ Equal
alike a b i h k = ap (λ z. key_cmp z (drop i b)) (drop_all i a h) ∙ ap (λ z. key_cmp [] z) (drop_all i b k)
