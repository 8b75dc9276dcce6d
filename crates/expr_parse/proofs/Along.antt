-- The pieces along the steps of a derivation, for whoever builds by them.
use Rattle.std.proofs.Common.{◌≡◌, ℕ, suc, ◌+◌, ◌<◌, ◌≤◌, List, ◌∷◌, length, drop, get_or, Option, Some, None, refl, sym, ap, ◌∙◌, add-one}
use Rattle.std.proofs.Math.Seq.{drop-cons}
use Rattle.std.proofs.Math.ListN.{drop_of_length-le}
use Rattle.ll1_grammar.specs.declared.symbol.Step.{Step}
use Rattle.ll1_grammar.specs.declared.symbol.Step.TheVariants.{Took, Did}
use Rattle.ll1_grammar.specs.Pieces.{Builder, built, and_then}

module _ {T A P : Type 0} (b : Builder T A P) (steps : List (Step T A)) (end : Option (List P)) (i : ℕ) (st : List P) (along : built b (drop i steps) st ≡ end) where
  cut : (x s : Step T A) → i < length steps → get_or steps i x ≡ s → built b (s ∷ drop (i + 1) steps) st ≡ end
  cut x s below is =
      let front : drop i steps ≡ s ∷ drop (i + 1) steps = drop-cons steps i x below ∙ ap (λ z. z ∷ drop (suc i) steps) is ∙ ap (λ n. s ∷ drop n steps) (sym (add-one i)) in
      sym (ap (λ z. built b z st) front) ∙ along

  -- after a token
  pub after_took : (x : Step T A) (t : T) → i < length steps → get_or steps i x ≡ Took t → built b (drop (i + 1) steps) (b.took t st) ≡ end
  after_took x t below is = cut x (Took t) below is

  -- no action lacks a piece, where the end has pieces
  pub can_do : (x : Step T A) (a : A) (last : List P) → end ≡ Some last → i < length steps → get_or steps i x ≡ Did a → (after : List P) × (b.did a st ≡ Some after)
  can_do x a last has below is = go (b.did a st) refl (cut x (Did a) below is ∙ has)
    where
      go : (o : Option (List P)) → b.did a st ≡ o → and_then o (built b (drop (i + 1) steps)) ≡ Some last → (after : List P) × (b.did a st ≡ Some after)
      go None q h = cc
      go (Some after) q h = (after, q)

  -- after an action
  pub after_did : (x : Step T A) (a : A) (after : List P) → b.did a st ≡ Some after → i < length steps → get_or steps i x ≡ Did a → built b (drop (i + 1) steps) after ≡ end
  after_did x a after q below is = sym (ap (λ o. and_then o (built b (drop (i + 1) steps))) q) ∙ cut x (Did a) below is

  -- the last pieces
  pub at_end : length steps ≤ i → Some st ≡ end
  at_end past = sym (ap (λ z. built b z st) (drop_of_length-le steps past)) ∙ along
