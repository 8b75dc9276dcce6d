-- Each text has lexemes.
use Rattle.std.proofs.Common.{◌≡◌, ℕ, zero, suc, ◌+◌, ◌<◌, ◌≤◌, Bool, true, false, List, [], ◌∷◌, Option, Some, None, length, take, drop, refl, sym, ap, ◌∙◌, arith}
use Rattle.std.specs.Prelude.{slice_get}
use Rattle.std.proofs.lemmas.List.{length-drop}
use Rattle.std.proofs.lemmas.Option.{slice_get_within}
use Rattle.notebook_grammar.specs.declared.kind.Kind.TheVariants as k
use Rattle.notebook_grammar.specs.declared.scan.Found.{Found}
use Rattle.notebook_grammar.specs.declared.scan.State.TheVariants as state
use Rattle.notebook_grammar.specs.declared.lexeme.Lexeme.{Lexeme}
use Rattle.notebook_grammar.specs.Longest.{token_of, IsLongest}
use Rattle.notebook_grammar.specs.Lexemes.{is_blank, is_small, kind_of, calls_with, Begins, NoneBegins, LexemesFrom, ends, blank, token, stray}
use Rattle.notebook_grammar.proofs.Munching.{munch, longest_is}
use Rattle.text_steps.specs.Laws.{IsCut}

-- ---- what begins at a place

-- the longest token in front, if there is one
longest : List ℕ → Option Found
longest text = munch (Some state.Start) 0 None text

is_longest : (text : List ℕ) → IsLongest text (longest text)
unfolding longest
is_longest text = longest_is text

-- the lexeme of a token that is found at a place
lexeme : List ℕ → ℕ → ℕ → Found → Lexeme
lexeme text at calls f =
    let kind = kind_of f.form (take f.length (drop at text)) in
    record { at = at; end = at + f.length; kind = kind; call = calls_with kind calls }

begins : (text : List ℕ) (at calls : ℕ) (f : Found) → IsLongest (drop at text) (Some f) → is_small f.form (take f.length (drop at text)) ≡ true → Begins text calls (lexeme text at calls f)
unfolding lexeme
begins text at calls f long small = record { form = f.form; size = f.length; longest = long; small = small; end = refl; kind = refl; call = refl }

same_length : (text : List ℕ) (f g : Found) → IsLongest text (Some f) → IsLongest text (Some g) → f.length ≡ g.length
same_length text f g a b = equal f.length g.length (λ h. longer h) (λ h. shorter h)
  where
    longer : f.length < g.length → ⊥
    longer h = let none = sym (a.3 g.length h b.1) ∙ b.2 in cc

    shorter : g.length < f.length → ⊥
    shorter h = let none = sym (b.3 f.length h a.1) ∙ a.2 in cc

    equal : (m n : ℕ) → (m < n → ⊥) → (n < m → ⊥) → m ≡ n
    equal zero zero h i = refl
    equal zero (suc n) h i = absurd (h (omega arith))
    equal (suc m) zero h i = absurd (i (omega arith))
    equal (suc m) (suc n) h i = ap suc (equal m n (λ x. h (omega arith)) (λ x. i (omega arith)))

none_there : (text : List ℕ) (at : ℕ) → IsLongest (drop at text) None → NoneBegins text at
none_there text at none found long small = let wrong = sym (none found.length long.1) ∙ long.2 in cc

too_great : (text : List ℕ) (at : ℕ) (f : Found) → IsLongest (drop at text) (Some f) → is_small f.form (take f.length (drop at text)) ≡ false → NoneBegins text at
too_great text at f long great found other small =
    let same : f.length ≡ found.length = same_length (drop at text) f found long other in
    let forms : Some f.form ≡ Some found.form = sym long.2 ∙ ap (λ n. token_of (take n (drop at text))) same ∙ other.2 in
    let form : f.form ≡ found.form = cc in
    let wrong : false ≡ true = sym great ∙ ap (λ x. is_small x (take f.length (drop at text))) form ∙ ap (λ n. is_small found.form (take n (drop at text))) same ∙ small in
    cc

past_the_end : (text : List ℕ) (at : ℕ) → slice_get text at ≡ None → length text ≤ at
past_the_end [] at e = omega arith
past_the_end (x ∷ text) zero e = cc
past_the_end (x ∷ text) (suc at) e = let later = past_the_end text at e in omega (arith, later)

-- ---- the lexemes from a place on

abbrev From : List ℕ → ℕ → ℕ → Type 0
From text at calls = (ls : List Lexeme) × LexemesFrom text at calls ls

-- there are lexemes from each place of the last so many
abbrev Later : ℕ → List ℕ → Type 0
Later n text = (at calls : ℕ) → at ≤ length text → length text < at + n → From text at calls

module _ (n : ℕ) (text : List ℕ) (later : Later n text) (at calls : ℕ) (within : at ≤ length text) (turns : length text < at + suc n) where
  by_size : (b : ℕ) (f : Found) → slice_get text at ≡ Some b → is_blank b ≡ false → IsLongest (drop at text) (Some f) → (small : Bool) → is_small f.form (take f.length (drop at text)) ≡ small → From text at calls
  unfolding lexeme
  by_size b f here clear long true small =
      let some = long.0 in
      let short = long.1 in
      let rest = length-drop at text in
      let l : Lexeme = lexeme text at calls f in
      let more = later l.end l.call (omega (arith, short, rest, within)) (omega (arith, some, turns)) in
      (l ∷ more.0, token (begins text at calls f long small) more.1)
  by_size b f here clear long false great = (record { at = at; end = at; kind = k.Stray; call = calls } ∷ [], stray here clear (too_great text at f long great))

  by_find : (b : ℕ) → slice_get text at ≡ Some b → is_blank b ≡ false → (found : Option Found) → IsLongest (drop at text) found → From text at calls
  by_find b here clear None none = (record { at = at; end = at; kind = k.Stray; call = calls } ∷ [], stray here clear (none_there text at none))
  by_find b here clear (Some f) long = by_size b f here clear long (is_small f.form (take f.length (drop at text))) refl

  by_blank : (b : ℕ) → slice_get text at ≡ Some b → (is : Bool) → is_blank b ≡ is → From text at calls
  by_blank b here true is =
      let below = slice_get_within text at b here in
      let more = later (at + 1) calls (omega (arith, below)) (omega (arith, turns)) in
      (more.0, blank here is more.1)
  by_blank b here false is = by_find b here is (longest (drop at text)) (is_longest (drop at text))

  by_byte : (o : Option ℕ) → slice_get text at ≡ o → From text at calls
  by_byte None none = let past = past_the_end text at none in ([], ends (omega (arith, past, within)))
  by_byte (Some b) here = by_blank b here (is_blank b) refl

lexed_from : (n : ℕ) (text : List ℕ) → Later n text
lexed_from zero text at calls within turns = absurd (omega (arith, within, turns))
lexed_from (suc n) text at calls within turns = by_byte n text (lexed_from n text) at calls within turns (slice_get text at) refl

pub lexed : (text : List ℕ) → IsCut text
lexed text = lexed_from (length text + 1) text 0 0 (omega arith) (omega arith)
