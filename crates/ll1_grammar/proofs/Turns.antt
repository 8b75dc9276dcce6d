-- The turns of a reader, and that a text has one error place.
use Rattle.std.proofs.Common.{◌≡◌, ℕ, zero, suc, ◌+◌, ◌<◌, ◌≤◌, List, [], ◌∷◌, ◌++◌, length, take, Option, Some, None, refl, sym, ap, ◌∙◌, subst, arith, append_assoc, ⊎_elim}
use Rattle.std.specs.Prelude.{slice_get}
use Rattle.std.proofs.Math.Seq.{take-suc}
use Rattle.std.proofs.lemmas.Option.{slice_get_within, get_or_from_slice_get, slice_get_cases}
use Rattle.std.proofs.lemmas.List.{take_all}
use Rattle.ll1_grammar.specs.declared.symbol.Symbol.{Symbol}
use Rattle.ll1_grammar.specs.declared.symbol.Symbol.TheVariants.{Nonterminal, Action}
use Rattle.ll1_grammar.specs.declared.symbol.Step.{Step}
use Rattle.ll1_grammar.specs.declared.symbol.Step.TheVariants.{Took, Did}
use Rattle.ll1_grammar.specs.Grammar.{Grammar, Derives, ends, acts, takes, expands, taken}
use Rattle.ll1_grammar.specs.Places.{NoSentenceGoesOn, IsErrorPlace}
use Rattle.ll1_grammar.specs.Reader.{chosen, Stops, past, stuck, skips, reads, moves, IsAt}
use Rattle.ll1_grammar.specs.Laws.{OnePlace, ReadersAreRight}

append_nil : {B : Type 0} (l : List B) → l ++ [] ≡ l
append_nil [] = refl
append_nil (x ∷ l) = ap (λ y. x ∷ y) (append_nil l)

-- one token more is taken
one_more : {T : Type 0} (tokens : List T) (at : ℕ) (t : T) → slice_get tokens at ≡ Some t → take (at + 1) tokens ≡ take at tokens ++ t ∷ []
one_more tokens at t h =
    let below : at < length tokens = slice_get_within tokens at t h in
    let one : at + 1 ≡ suc at = omega arith in
    ap (λ n. take n tokens) one ∙ take-suc tokens at t below ∙ ap (λ x. take at tokens ++ x ∷ []) (get_or_from_slice_get tokens at t t h)

-- a step more
taken_did : {T A : Type 0} (steps : List (Step T A)) (a : A) → taken (steps ++ Did a ∷ []) ≡ taken steps
taken_did [] a = refl
taken_did (Took t ∷ steps) a = ap (λ l. t ∷ l) (taken_did steps a)
taken_did (Did b ∷ steps) a = taken_did steps a

taken_took : {T A : Type 0} (steps : List (Step T A)) (t : T) → taken (steps ++ Took t ∷ []) ≡ taken steps ++ t ∷ []
taken_took [] t = refl
taken_took (Took x ∷ steps) t = ap (λ l. x ∷ l) (taken_took steps t)
taken_took (Did b ∷ steps) t = taken_took steps t

module _ {N T A : Type 0} (g : Grammar N T A) (start : List (Symbol N A)) (tokens : List T) where
  pub begun : IsAt g start tokens 0 start []
  begun = record {
    within = omega arith;
    took = refl;
    derives = λ w m d. d;
    stops = λ v o l st. st;
  }

  pub did : (at : ℕ) (steps : List (Step T A)) (a : A) (s : List (Symbol N A)) → IsAt g start tokens at (Action a ∷ s) steps → IsAt g start tokens at s (steps ++ Did a ∷ [])
  did at steps a s i = record {
    within = i.within;
    took = taken_did steps a ∙ i.took;
    derives = λ w m d. subst (λ x. Derives g start (take at tokens ++ w) x) (sym (append_assoc steps (Did a ∷ []) m)) (i.derives w (Did a ∷ m) (acts d));
    stops = λ v o l st. i.stops v o l (skips st);
  }

  pub took : (at : ℕ) (steps : List (Step T A)) (n : N) (t : T) (r s : List (Symbol N A)) → slice_get tokens at ≡ Some t → g.after n t ≡ Some r
      → IsAt g start tokens at (Nonterminal n ∷ s) steps → IsAt g start tokens (at + 1) (r ++ s) (steps ++ Took t ∷ [])
  took at steps n t r s h c i =
      let below : at < length tokens = slice_get_within tokens at t h in
      let grown = one_more tokens at t h in
      record {
        within = omega arith;
        took = taken_took steps t ∙ ap (λ l. l ++ t ∷ []) i.took ∙ sym grown;
        derives = λ w m d.
            subst (λ x. Derives g start (x ++ w) ((steps ++ Took t ∷ []) ++ m)) (sym grown)
            (subst (λ x. Derives g start x ((steps ++ Took t ∷ []) ++ m)) (sym (append_assoc (take at tokens) (t ∷ []) w))
            (subst (λ x. Derives g start (take at tokens ++ t ∷ w) x) (sym (append_assoc steps (Took t ∷ []) m))
            (i.derives (t ∷ w) (Took t ∷ m) (takes c d))));
        stops = λ v o l st.
            subst (λ x. Stops g start (x ++ v) o) (sym grown)
            (subst (λ x. Stops g start x o) (sym (append_assoc (take at tokens) (t ∷ []) v)) (i.stops (t ∷ v) o (sym h) (reads c st)));
      }

  pub went : (at : ℕ) (steps : List (Step T A)) (n : N) (r s : List (Symbol N A)) → chosen g n (slice_get tokens at) ≡ None → g.otherwise n ≡ Some r
      → IsAt g start tokens at (Nonterminal n ∷ s) steps → IsAt g start tokens at (r ++ s) steps
  went at steps n r s c e i = record {
    within = i.within;
    took = i.took;
    derives = λ w m d. i.derives w m (expands e d);
    stops = λ v o l st. i.stops v o l (moves (ap (chosen g n) l ∙ c) e st);
  }

  pub complete : (at : ℕ) (steps : List (Step T A)) → length tokens ≤ at → IsAt g start tokens at [] steps → Derives g start tokens steps
  complete at steps all_taken i =
      let all : take at tokens ++ [] ≡ tokens = append_nil (take at tokens) ∙ take_all at tokens all_taken in
      subst (λ x. Derives g start tokens x) (append_nil steps) (subst (λ x. Derives g start x (steps ++ [])) all (i.derives [] [] ends))

  -- it stops at the next token
  stops_here : (at : ℕ) (s : List (Symbol N A)) (steps : List (Step T A)) → Stops g s [] (slice_get tokens at) → IsAt g start tokens at s steps → Stops g start (take at tokens) (slice_get tokens at)
  stops_here at s steps st i = subst (λ x. Stops g start x (slice_get tokens at)) (append_nil (take at tokens)) (i.stops [] (slice_get tokens at) refl st)

  pub sticks : (at : ℕ) (steps : List (Step T A)) (n : N) (s : List (Symbol N A)) → chosen g n (slice_get tokens at) ≡ None → g.otherwise n ≡ None
      → IsAt g start tokens at (Nonterminal n ∷ s) steps → Stops g start (take at tokens) (slice_get tokens at)
  sticks at steps n s c e i = stops_here at (Nonterminal n ∷ s) steps (stuck c e) i

  pub passes : (at : ℕ) (steps : List (Step T A)) → at < length tokens → IsAt g start tokens at [] steps → Stops g start (take at tokens) (slice_get tokens at)
  passes at steps below i = by_next (slice_get tokens at) refl
    where
      a_token_is_there : slice_get tokens at ≡ None → ⊥
      a_token_is_there q = let h = slice_get_cases tokens at in ⊎_elim (λ p. cc (p.2)) (λ p. omega (arith, p.0)) h.1

      by_next : (o : Option T) → slice_get tokens at ≡ o → Stops g start (take at tokens) (slice_get tokens at)
      by_next None q = absurd (a_token_is_there q)
      by_next (Some t) q = stops_here at [] steps (subst (λ x. Stops g [] [] x) (sym q) past) i

pub readers_are_right : {N T A : Type 0} → ReadersAreRight N T A
readers_are_right = record {
  starts = λ g start tokens. begun g start tokens;
  does = λ g start tokens at steps a s. did g start tokens at steps a s;
  takes = λ g start tokens at steps n t r s. took g start tokens at steps n t r s;
  expands = λ g start tokens at steps n r s. went g start tokens at steps n r s;
  ends = λ g start tokens at steps. complete g start tokens at steps;
  sticks = λ g start tokens at steps n s. sticks g start tokens at steps n s;
  passes = λ g start tokens at steps. passes g start tokens at steps;
}

-- ---- one error place

-- the text from a place within it on
pub front : {T : Type 0} (tokens : List T) (a b : ℕ) → a < b → b ≤ length tokens
    → (t : T) × (more : List T) × (slice_get tokens a ≡ Some t) × (take b tokens ≡ take a tokens ++ t ∷ more)
front [] a b h i = absurd (omega arith)
front (x ∷ xs) zero zero h i = absurd (omega arith)
front (x ∷ xs) (suc a) zero h i = absurd (omega arith)
front (x ∷ xs) zero (suc b) h i = (x, take b xs, refl, refl)
front (x ∷ xs) (suc a) (suc b) h i = let f = front xs a b (omega arith) (omega arith) in (f.0, f.1, f.2, ap (λ l. x ∷ l) f.3)

module _ {N T A : Type 0} (g : Grammar N T A) (s : List (Symbol N A)) (tokens : List T) where
  -- no sentence goes on from an error place
  ends_there : (a : ℕ) (t : T) (v : List T) (steps : List (Step T A)) → IsErrorPlace g s tokens a → slice_get tokens a ≡ Some t → Derives g s (take a tokens ++ t ∷ v) steps → ⊥
  ends_there a t v steps i e d = let none = subst (λ o. NoSentenceGoesOn g s (take a tokens) o) e i.here in none v steps d

  not_before : (a b : ℕ) → a < b → IsErrorPlace g s tokens a → IsErrorPlace g s tokens b → ⊥
  not_before a b h i j =
      let f = front tokens a b h j.within in
      let v = j.before.0 in
      let steps = j.before.1 in
      let whole : take b tokens ++ v ≡ take a tokens ++ f.0 ∷ (f.1 ++ v) = ap (λ l. l ++ v) f.3 ∙ append_assoc (take a tokens) (f.0 ∷ f.1) v in
      ends_there a f.0 (f.1 ++ v) steps i f.2 (subst (λ w. Derives g s w steps) whole j.before.2)

  by_order : (a b : ℕ) → (a < b → ⊥) → (b < a → ⊥) → a ≡ b
  by_order zero zero h i = refl
  by_order zero (suc b) h i = absurd (h (omega arith))
  by_order (suc a) zero h i = absurd (i (omega arith))
  by_order (suc a) (suc b) h i = ap suc (by_order a b (λ x. h (omega arith)) (λ x. i (omega arith)))

  same_place : (a b : ℕ) → IsErrorPlace g s tokens a → IsErrorPlace g s tokens b → a ≡ b
  same_place a b i j = by_order a b (λ h. not_before a b h i j) (λ h. not_before b a h j i)

  no_place : (steps : List (Step T A)) (a : ℕ) → Derives g s tokens steps → IsErrorPlace g s tokens a → ⊥
  no_place steps a d i = by_next (slice_get tokens a) refl
    where
      none_left : slice_get tokens a ≡ None → length tokens ≤ a
      none_left q = let h = slice_get_cases tokens a in ⊎_elim (λ p. absurd (cc (p.2))) (λ p. p.0) h.1

      by_next : (o : Option T) → slice_get tokens a ≡ o → ⊥
      by_next None q =
          let none = subst (λ o. NoSentenceGoesOn g s (take a tokens) o) q i.here in
          none steps (subst (λ w. Derives g s w steps) (sym (take_all a tokens (none_left q))) d)
      by_next (Some t) q =
          let below : a < length tokens = slice_get_within tokens a t q in
          let f = front tokens a (length tokens) below (omega arith) in
          let whole : tokens ≡ take a tokens ++ f.0 ∷ f.1 = sym (take_all (length tokens) tokens (omega arith)) ∙ f.3 in
          ends_there a f.0 f.1 steps i f.2 (subst (λ w. Derives g s w steps) whole d)

pub one_place : {N T A : Type 0} → OnePlace N T A
one_place = record {
  one = λ g s tokens a b. same_place g s tokens a b;
  none = λ g s tokens steps a. no_place g s tokens steps a;
}
