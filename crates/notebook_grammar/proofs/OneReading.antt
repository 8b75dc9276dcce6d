-- A text has one list of lexemes.
use Rattle.std.proofs.Common.{◌≡◌, ℕ, zero, suc, ◌+◌, ◌<◌, Bool, true, false, List, [], ◌∷◌, Some, None, length, take, drop, refl, sym, ap, ◌∙◌, subst, arith}
use Rattle.std.specs.Prelude.{slice_get, ◌==◌, ◌||◌}
use Rattle.std.proofs.lemmas.Bool.Decides.{nat_tests}
use Rattle.std.proofs.lemmas.List.{length-drop}
use Rattle.std.proofs.lemmas.Option.{slice_get_within}
use Rattle.notebook_grammar.specs.declared.kind.Kind.TheVariants as k
use Rattle.notebook_grammar.specs.declared.scan.Class.TheVariants as class
use Rattle.notebook_grammar.specs.declared.scan.Found.{Found}
use Rattle.notebook_grammar.specs.declared.lexeme.Lexeme.{Lexeme}
use Rattle.notebook_grammar.specs.Forms.{class_of, begin}
use Rattle.notebook_grammar.specs.Longest.{ends_in, token_of, IsLongest}
use Rattle.notebook_grammar.specs.Lexemes.{is_blank, kind_of, calls_with, Begins, NoneBegins, LexemesFrom, ends, blank, token, stray}
use Rattle.notebook_grammar.specs.Laws.{OneReading}

-- ---- how a list of lexemes begins

stray_at : ℕ → ℕ → Lexeme
stray_at at calls = record { at = at; end = at; kind = k.Stray; call = calls }

data ByLexeme (text : List ℕ) (at calls : ℕ) (b : List Lexeme) : Type 0 where
  by_end : at ≡ length text → b ≡ [] → ByLexeme text at calls b
  by_blank : (x : ℕ) → slice_get text at ≡ Some x → is_blank x ≡ true → LexemesFrom text (at + 1) calls b → ByLexeme text at calls b
  by_token : (l : Lexeme) (ls : List Lexeme) → b ≡ l ∷ ls → l.at ≡ at → Begins text calls l → LexemesFrom text l.end l.call ls → ByLexeme text at calls b
  by_stray : (x : ℕ) → slice_get text at ≡ Some x → is_blank x ≡ false → NoneBegins text at → b ≡ record { at = at; end = at; kind = k.Stray; call = calls } ∷ [] → ByLexeme text at calls b

by_lexeme : {text : List ℕ} {at calls : ℕ} {b : List Lexeme} → LexemesFrom text at calls b → ByLexeme text at calls b
by_lexeme (ends e) = by_end e refl
by_lexeme (blank {b = x} e is d) = by_blank x e is d
by_lexeme (token {l = l} {ls = ls} b d) = by_token l ls refl refl b d
by_lexeme (stray {b = x} e is none) = by_stray x e is none refl

-- ---- what can't be at one place

past_the_end : (text : List ℕ) (at x : ℕ) → at ≡ length text → slice_get text at ≡ Some x → ⊥
past_the_end text at x e s = let below = slice_get_within text at x s in omega arith

no_token_at_the_end : (text : List ℕ) (calls : ℕ) (l : Lexeme) → Begins text calls l → l.at ≡ length text → ⊥
no_token_at_the_end text calls l b e =
    let long = b.longest.0 in
    let short = b.longest.1 in
    let rest = length-drop l.at text in
    omega (arith, long, short, rest, e)

got_rest : (text : List ℕ) (at x : ℕ) → slice_get text at ≡ Some x → (more : List ℕ) × (drop at text ≡ x ∷ more)
got_rest [] zero x e = cc
got_rest [] (suc at) x e = cc
got_rest (y ∷ text) zero x e = let same : y ≡ x = cc in (text, ap (λ z. z ∷ text) same)
got_rest (y ∷ text) (suc at) x e = got_rest text at x e

pub ends_nowhere : (bs : List ℕ) → ends_in None bs ≡ None
ends_nowhere [] = refl
ends_nowhere (b ∷ bs) = ends_nowhere bs

or_either : (a b : Bool) → a || b ≡ true → (a ≡ true → ⊥) → b ≡ true
or_either true b e f = absurd (f refl)
or_either false b e f = e

pub same_number : (a b : ℕ) → a == b ≡ true → a ≡ b
same_number a b e = grind (arith, nat_tests)

blank_class : (x : ℕ) → is_blank x ≡ true → class_of x ≡ class.Other
blank_class x e = by_first (x == 32) refl e
  where
    is_other : (n : ℕ) → class_of n ≡ class.Other → x == n ≡ true → class_of x ≡ class.Other
    is_other n c h = ap class_of (same_number x n h) ∙ c

    by_last : (d : Bool) → x == 10 ≡ d → d ≡ true → class_of x ≡ class.Other
    by_last true h i = is_other 10 refl h
    by_last false h i = cc

    by_third : (c : Bool) → x == 13 ≡ c → c || x == 10 ≡ true → class_of x ≡ class.Other
    by_third true h i = is_other 13 refl h
    by_third false h i = by_last (x == 10) refl i

    by_second : (b : Bool) → x == 9 ≡ b → b || x == 13 || x == 10 ≡ true → class_of x ≡ class.Other
    by_second true h i = is_other 9 refl h
    by_second false h i = by_third (x == 13) refl i

    by_first : (a : Bool) → x == 32 ≡ a → a || x == 9 || x == 13 || x == 10 ≡ true → class_of x ≡ class.Other
    by_first true h i = is_other 32 refl h
    by_first false h i = by_second (x == 9) refl i

no_token_at_a_blank : (text : List ℕ) (calls x : ℕ) (l : Lexeme) → Begins text calls l → slice_get text l.at ≡ Some x → is_blank x ≡ true → ⊥
no_token_at_a_blank text calls x l b s e =
    let r = got_rest text l.at x s in
    no_form b.size r.0 b.longest.0 (sym b.longest.2 ∙ ap (λ t. token_of (take b.size t)) r.1)
  where
    no_form : (n : ℕ) (more : List ℕ) → 0 < n → Some b.form ≡ token_of (take n (x ∷ more)) → ⊥
    no_form zero more h i = omega arith
    no_form (suc n) more h i = let none = ap (λ c. ends_in (begin c) (take n more)) (blank_class x e) ∙ ends_nowhere (take n more) in let all = i ∙ none in cc

not_both : (text : List ℕ) (at x y : ℕ) → slice_get text at ≡ Some x → slice_get text at ≡ Some y → is_blank x ≡ true → is_blank y ≡ false → ⊥
not_both text at x y e f h i = let same : x ≡ y = cc in let k = sym h ∙ ap is_blank same ∙ i in cc

-- ---- one token at a place

one_longest : (text : List ℕ) (f g : Found) → IsLongest text (Some f) → IsLongest text (Some g) → (f.form ≡ g.form) × (f.length ≡ g.length)
one_longest text f g a b = by_order f.length g.length refl refl
  where
    same_form : f.length ≡ g.length → f.form ≡ g.form
    same_form e = let h = sym a.2 ∙ ap (λ n. token_of (take n text)) e ∙ b.2 in cc

    longer : f.length < g.length → ⊥
    longer h = let none = sym (a.3 g.length h b.1) ∙ b.2 in cc

    shorter : g.length < f.length → ⊥
    shorter h = let none = sym (b.3 f.length h a.1) ∙ a.2 in cc

    by_order : (m n : ℕ) → f.length ≡ m → g.length ≡ n → (f.form ≡ g.form) × (f.length ≡ g.length)
    by_order m n e i = let same = equal m n (λ h. longer (omega arith)) (λ h. shorter (omega arith)) in let all : f.length ≡ g.length = e ∙ same ∙ sym i in (same_form all, all)
      where
        equal : (m n : ℕ) → (m < n → ⊥) → (n < m → ⊥) → m ≡ n
        equal zero zero h i = refl
        equal zero (suc n) h i = absurd (h (omega arith))
        equal (suc m) zero h i = absurd (i (omega arith))
        equal (suc m) (suc n) h i = ap suc (equal m n (λ x. h (omega arith)) (λ x. i (omega arith)))

same_lexeme : (a b : Lexeme) → a.at ≡ b.at → a.end ≡ b.end → a.kind ≡ b.kind → a.call ≡ b.call → a ≡ b
same_lexeme a b e f g h =
    let one : a ≡ record { at = b.at; end = a.end; kind = a.kind; call = a.call } = ap (λ x. record { at = x; end = a.end; kind = a.kind; call = a.call }) e in
    let two : record { at = b.at; end = a.end; kind = a.kind; call = a.call } ≡ record { at = b.at; end = b.end; kind = a.kind; call = a.call } = ap (λ x. record { at = b.at; end = x; kind = a.kind; call = a.call }) f in
    let three : record { at = b.at; end = b.end; kind = a.kind; call = a.call } ≡ record { at = b.at; end = b.end; kind = b.kind; call = a.call } = ap (λ x. record { at = b.at; end = b.end; kind = x; call = a.call }) g in
    let four : record { at = b.at; end = b.end; kind = b.kind; call = a.call } ≡ b = ap (λ x. record { at = b.at; end = b.end; kind = b.kind; call = x }) h in
    one ∙ two ∙ three ∙ four

same_token : (text : List ℕ) (calls : ℕ) (a b : Lexeme) → Begins text calls a → Begins text calls b → a.at ≡ b.at → a ≡ b
same_token text calls a b f g e =
    let other : IsLongest (drop a.at text) (Some (record { form = g.form; length = g.size })) = subst (λ n. IsLongest (drop n text) (Some (record { form = g.form; length = g.size }))) (sym e) g.longest in
    let found = one_longest (drop a.at text) (record { form = f.form; length = f.size }) (record { form = g.form; length = g.size }) f.longest other in
    let end : a.end ≡ b.end = f.end ∙ ap (λ n. n + f.size) e ∙ ap (λ n. b.at + n) found.1 ∙ sym g.end in
    let kind : a.kind ≡ b.kind = f.kind ∙ ap (λ x. kind_of x (take f.size (drop a.at text))) found.0 ∙ ap (λ n. kind_of g.form (take n (drop a.at text))) found.1 ∙ ap (λ n. kind_of g.form (take g.size (drop n text))) e ∙ sym g.kind in
    let call : a.call ≡ b.call = f.call ∙ ap (λ x. calls_with x calls) kind ∙ sym g.call in
    same_lexeme a b e end kind call

none_begins : (text : List ℕ) (calls at : ℕ) (l : Lexeme) → Begins text calls l → l.at ≡ at → NoneBegins text at → ⊥
none_begins text calls at l b e none = (subst (λ n. NoneBegins text n) (sym e) none) (record { form = b.form; length = b.size }) b.longest b.small

-- ---- the lists

one_list : {text : List ℕ} {at calls : ℕ} {a : List Lexeme} → LexemesFrom text at calls a → (b : List Lexeme) → LexemesFrom text at calls b → a ≡ b
one_list {text = text} {at = at} {calls = calls} (ends e) b d = elim (by_lexeme d) [
  | by_end f is ↦ sym is
  | by_blank x f is d' ↦ absurd (past_the_end text at x e f)
  | by_token l ls is f bg d' ↦ absurd (no_token_at_the_end text calls l bg (f ∙ e))
  | by_stray x f clear none is ↦ absurd (past_the_end text at x e f)
]
one_list {text = text} {at = at} {calls = calls} (blank {b = x} e is_x p) b d = elim (by_lexeme d) [
  | by_end f is ↦ absurd (past_the_end text at x f e)
  | by_blank y f is d' ↦ one_list p b d'
  | by_token l ls is f bg d' ↦ absurd (no_token_at_a_blank text calls x l bg (ap (slice_get text) f ∙ e) is_x)
  | by_stray y f clear none is ↦ absurd (not_both text at x y e f is_x clear)
]
one_list {text = text} {calls = calls} (token {l = m} {ls = ms} bm p) b d = elim (by_lexeme d) [
  | by_end f is ↦ absurd (no_token_at_the_end text calls m bm f)
  | by_blank y f is d' ↦ absurd (no_token_at_a_blank text calls y m bm f is)
  | by_token l ls is f bg d' ↦
      let same : l ≡ m = same_token text calls l m bg bm f in
      let rest = one_list p ls (subst (λ x. LexemesFrom text x.end x.call ls) same d') in
      cc
  | by_stray y f clear none is ↦ absurd (none_begins text calls m.at m bm refl none)
]
one_list {text = text} {at = at} {calls = calls} (stray {b = x} e no_x none_x) b d = elim (by_lexeme d) [
  | by_end f is ↦ absurd (past_the_end text at x f e)
  | by_blank y f is d' ↦ absurd (not_both text at y x f e is no_x)
  | by_token l ls is f bg d' ↦ absurd (none_begins text calls at l bg f none_x)
  | by_stray y f clear none is ↦ sym is
]

pub one_reading : OneReading
one_reading text a b p q = one_list p b q
