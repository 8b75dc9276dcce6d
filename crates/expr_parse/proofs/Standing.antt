-- Each token of the steps of a text stands in it.
use Rattle.std.proofs.Common.{◌≡◌, ℕ, zero, suc, ◌-◌, ◌≤◌, true, List, [], ◌∷◌, ◌++◌, Some, length, take, drop, sym, ap, ◌∙◌, subst, arith}
use Rattle.std.specs.Prelude.{slice_get}
use Rattle.std.proofs.lemmas.List.{length-drop}
use Rattle.std.proofs.lemmas.Option.{slice_get_within}
use Rattle.value_types.specs.Names.{is_name}
use Rattle.ll1_grammar.specs.Grammar.{taken}
use Rattle.ll1_grammar.specs.declared.symbol.Step.TheVariants.{Took, Did}
use Rattle.ll1_grammar.proofs.Fronts.{steps_take_the_text}
use Rattle.notebook_grammar.specs.declared.kind.Kind.TheVariants as k
use Rattle.notebook_grammar.specs.declared.scan.Form.TheVariants as form
use Rattle.notebook_grammar.specs.declared.lexeme.Lexeme.{Lexeme}
use Rattle.notebook_grammar.specs.declared.start.Start.{Start}
use Rattle.notebook_grammar.specs.Language.{Steps, language}
use Rattle.notebook_grammar.specs.Lexemes.{Begins, LexemesFrom, ends, blank, token, stray}
use Rattle.notebook_grammar.specs.Texts.{AreSteps}
use Rattle.notebook_grammar.proofs.ValueTexts.{values_are_there}
use Rattle.expr_parse.specs.Values.{token_text, lowered}
use Rattle.expr_parse.specs.Tops.{StandsIn}
use Rattle.expr_parse.proofs.Plain.{form_is}
use Rattle.expr_parse.proofs.Quotes.{in_quotes}
use Rattle.expr_parse.proofs.Slices.{long, opened, closed}

-- the token ends within the text, and a text has its quotes
record IsPlaced (text : List ℕ) (l : Lexeme) : Type 0 where
  pub forward : l.at ≤ l.end
  pub within : l.end ≤ length text
  pub quotes : l.kind ≡ k.Quoted → (inside : List ℕ) × (token_text text l ≡ 39 ∷ (inside ++ 39 ∷ []))

token_placed : (text : List ℕ) (calls : ℕ) (l : Lexeme) → l.at ≤ length text → Begins text calls l → IsPlaced text l
token_placed text calls l h b =
    let long = b.longest.0 in
    let short = b.longest.1 in
    let rest = length-drop l.at text in
    let end = b.end in
    let size : l.end - l.at ≡ b.size = omega (arith, end) in
    let slice : token_text text l ≡ take b.size (drop l.at text) = ap (λ n. take n (drop l.at text)) size in
    record {
      forward = omega (arith, end);
      within = omega (arith, short, rest, end, h);
      quotes = λ q.
          let f : b.form ≡ form.Quoted = form_is (take b.size (drop l.at text)) b.form b.longest.2 (sym b.kind ∙ q) in
          let r = in_quotes (take b.size (drop l.at text)) (b.longest.2 ∙ ap Some f) in
          (r.0, slice ∙ r.1);
    }

placed : {text : List ℕ} {at calls : ℕ} {ls : List Lexeme} → LexemesFrom text at calls ls → at ≤ length text → (i : ℕ) (l : Lexeme) → slice_get ls i ≡ Some l → IsPlaced text l
placed (ends e) h zero l g = cc
placed (ends e) h (suc i) l g = cc
placed {text = text} {at = at} (blank {b = b} e is d) h i l g = let below = slice_get_within text at b e in placed d (omega (arith, below)) i l g
placed {text = text} (token {calls = calls} {l = m} b d) h zero l g = let same : m ≡ l = cc in subst (λ x. IsPlaced text x) same (token_placed text calls m h b)
placed {text = text} (token {calls = calls} {l = m} b d) h (suc i) l g = let p = token_placed text calls m h b in placed d p.within i l g
placed {text = text} (stray {at = at} {calls = calls} e is none) h zero l g =
    let same : record { at = at; end = at; kind = k.Stray; call = calls } ≡ l = cc in
    subst (λ x. IsPlaced text x) same (record { forward = omega arith; within = h; quotes = λ q. absurd (let two = q in cc) })
placed (stray e is none) h (suc zero) l g = cc
placed (stray e is none) h (suc (suc i)) l g = cc

stands : (text : List ℕ) (l : Lexeme) → IsPlaced text l → (l.kind ≡ k.Name → is_name (lowered (token_text text l)) ≡ true) → StandsIn text l
stands text l p name = record {
  forward = p.forward;
  within = p.within;
  name = name;
  long = λ q. let i = p.quotes q in long text l.at l.end i.0 p.forward p.within i.1;
  opened = λ q. let i = p.quotes q in opened text l.at l.end i.0 p.forward p.within i.1;
  closed = λ q. let i = p.quotes q in closed text l.at l.end i.0 p.forward p.within i.1;
}

-- ---- along the steps

taken_at : (steps : Steps) (i : ℕ) (l : Lexeme) → slice_get steps i ≡ Some (Took l) → (j : ℕ) × (slice_get (taken steps) j ≡ Some l)
taken_at [] zero l g = cc
taken_at [] (suc i) l g = cc
taken_at (Took m ∷ steps) zero l g = (0, cc)
taken_at (Took m ∷ steps) (suc i) l g = let r = taken_at steps i l g in (suc r.0, r.1)
taken_at (Did a ∷ steps) zero l g = cc
taken_at (Did a ∷ steps) (suc i) l g = taken_at steps i l g

pub each_stands : (start : Start) (text : List ℕ) (steps : Steps) → AreSteps start text steps → (i : ℕ) (l : Lexeme) → slice_get steps i ≡ Some (Took l) → StandsIn text l
each_stands start text steps are i l g =
    let r = taken_at steps i l g in
    let same : taken steps ≡ are.0 = steps_take_the_text language are.2.0 in
    let there : slice_get are.0 r.0 ≡ Some l = sym (ap (λ x. slice_get x r.0) same) ∙ r.1 in
    let value = values_are_there text are.0 are.1 r.0 l there in
    stands text l (placed are.1 (omega arith) r.0 l there) value.name
