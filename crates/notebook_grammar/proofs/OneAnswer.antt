-- A text has one list of steps, or is wrong at one place.
use Rattle.std.proofs.Common.{◌≡◌, ℕ, zero, suc, ◌<◌, List, ◌∷◌, ◌++◌, length, take, refl, sym, ap, ◌∙◌, subst, arith, append_assoc, ⊎_elim}
use Rattle.std.proofs.lemmas.Option.{slice_get_within}
use Rattle.std.proofs.lemmas.List.{take_all}
use Rattle.ll1_grammar.specs.declared.symbol.Step.TheVariants.{Took}
use Rattle.ll1_grammar.specs.Grammar.{Derives}
use Rattle.ll1_grammar.specs.Places.{IsErrorPlace, NoSentenceGoesOn}
use Rattle.ll1_grammar.proofs.OneAhead.{is_unambiguous}
use Rattle.ll1_grammar.proofs.Turns.{front, one_place}
use Rattle.notebook_grammar.specs.declared.lexeme.Lexeme.{Lexeme}
use Rattle.notebook_grammar.specs.declared.start.Start.{Start}
use Rattle.notebook_grammar.specs.Language.{language, start_of, at_room, rule_of, Steps}
use Rattle.notebook_grammar.specs.Limits.{IsTooMany, IsWrongAt, IsSentence}
use Rattle.notebook_grammar.specs.Texts.{place_of}
use Rattle.notebook_grammar.specs.Laws.{OneDerivation, OneAnswer}
use Rattle.notebook_grammar.proofs.Exact.{ahead, ll1}
use Rattle.notebook_grammar.proofs.Going.{same_front, not_counted}
use Rattle.notebook_grammar.proofs.OneReading.{one_reading}

pub one_derivation : OneDerivation
one_derivation rule room = is_unambiguous language ahead ll1 (at_room rule room)

by_order : (a b : ℕ) → (a < b → ⊥) → (b < a → ⊥) → a ≡ b
by_order zero zero h i = refl
by_order zero (suc b) h i = absurd (h (omega arith))
by_order (suc a) zero h i = absurd (i (omega arith))
by_order (suc a) (suc b) h i = ap suc (by_order a b (λ x. h (omega arith)) (λ x. i (omega arith)))

module _ (start : Start) (lexemes : List Lexeme) where
  -- no sentence passes an error place
  no_further : (a b : ℕ) → a < b → IsErrorPlace language (start_of start) lexemes a → IsTooMany start lexemes b → ⊥
  no_further a b h e m =
      let below : b < length lexemes = slice_get_within lexemes b m.lexeme m.here in
      let f = front lexemes a b h (omega arith) in
      let whole : take b lexemes ++ m.lexeme ∷ m.later ≡ take a lexemes ++ f.0 ∷ (f.1 ++ m.lexeme ∷ m.later) = ap (λ l. l ++ m.lexeme ∷ m.later) f.3 ∙ append_assoc (take a lexemes) (f.0 ∷ f.1) (m.lexeme ∷ m.later) in
      let none = subst (λ o. NoSentenceGoesOn language (start_of start) (take a lexemes) o) f.2 e.here in
      none (f.1 ++ m.lexeme ∷ m.later) (m.front ++ Took m.lexeme ∷ m.rest) (subst (λ w. Derives language (start_of start) w (m.front ++ Took m.lexeme ∷ m.rest)) whole m.sentence)

  not_before : (a b : ℕ) → a < b → IsWrongAt start lexemes a → IsWrongAt start lexemes b → ⊥
  not_before a b h p q =
      ⊎_elim
      (λ e. ⊎_elim (λ f. let same = one_place.one language (start_of start) lexemes a b e f in omega (arith, h, same)) (λ m. no_further a b h e m) q.1)
      (λ m. q.0 a h m)
      p.1

  pub one_wrong : (a b : ℕ) → IsWrongAt start lexemes a → IsWrongAt start lexemes b → a ≡ b
  one_wrong a b p q = by_order a b (λ h. not_before a b h p q) (λ h. not_before b a h q p)

  -- a sentence within the limit is wrong nowhere
  pub none_wrong : (steps : Steps) (a : ℕ) → IsSentence start lexemes steps → IsWrongAt start lexemes a → ⊥
  none_wrong steps a s w = ⊎_elim (λ e. one_place.none language (start_of start) lexemes steps a s.0 e) too_many w.1
    where
      too_many : IsTooMany start lexemes a → ⊥
      too_many m =
          let below : a < length lexemes = slice_get_within lexemes a m.lexeme m.here in
          let f = front lexemes a (length lexemes) below (omega arith) in
          let here = m.here in
          let got = f.2 in
          let same : f.0 ≡ m.lexeme = cc in
          let whole : lexemes ≡ take a lexemes ++ m.lexeme ∷ f.1 = sym (take_all (length lexemes) lexemes (omega arith)) ∙ f.3 ∙ ap (λ x. take a lexemes ++ x ∷ f.1) same in
          let r = same_front start lexemes a m f.1 steps (subst (λ w. Derives language (start_of start) w steps) whole s.0) in
          not_counted m.front r.0 steps m.lexeme s.1.0 m.full r.1 s.1.1

pub one_answer : OneAnswer
one_answer = record {
  steps = λ start text a b p q.
      let same = one_reading text q.0 p.0 q.1 p.1 in
      one_derivation (rule_of start) 64 p.0 a b p.2.0 (subst (λ l. Derives language (start_of start) l b) same q.2.0);
  place = λ start text a b p q.
      let same = one_reading text q.0 p.0 q.2 p.2 in
      let i : p.1 ≡ q.1 = one_wrong start p.0 p.1 q.1 p.3 (subst (λ l. IsWrongAt start l q.1) same q.3) in
      p.4 ∙ ap (λ n. place_of p.0 n (length text)) i ∙ ap (λ l. place_of l q.1 (length text)) (sym same) ∙ sym q.4;
  apart = λ start text steps at p q.
      let same = one_reading text q.0 p.0 q.2 p.1 in
      none_wrong start p.0 steps q.1 p.2 (subst (λ l. IsWrongAt start l q.1) same q.3);
}
