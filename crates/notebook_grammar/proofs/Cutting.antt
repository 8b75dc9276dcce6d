-- How the lexemes of a text go on.
use Rattle.std.proofs.Common.{◌≡◌, ℕ, zero, suc, ◌+◌, ◌-◌, ◌<◌, ◌≤◌, Bool, true, false, List, [], ◌∷◌, ◌++◌, Some, length, drop, get_or, refl, sym, ap, ◌∙◌, subst, arith, append_assoc}
use Rattle.std.specs.Prelude.{slice_get}
use Rattle.notebook_grammar.specs.declared.kind.Kind.{Kind}
use Rattle.notebook_grammar.specs.declared.kind.Kind.TheVariants as k
use Rattle.notebook_grammar.specs.declared.lexeme.Lexeme.{Lexeme}
use Rattle.notebook_grammar.specs.Lexemes.{Begins, LexemesFrom, blank, token, is_blank, calls_with}

pub append_none : {A : Type 0} (l : List A) → l ++ [] ≡ l
append_none [] = refl
append_none (x ∷ l) = ap (λ y. x ∷ y) (append_none l)

pub got : (text : List ℕ) (at : ℕ) → at < length text → slice_get text at ≡ Some (get_or text at 0)
got [] at h = absurd (omega arith)
got (x ∷ text) zero h = refl
got (x ∷ text) (suc at) h = got text at (omega arith)

module _ (text : List ℕ) (at : ℕ) (below : at < length text) (b : Bool) (is : b ≡ is_blank (get_or text at 0)) where
  pub skips : b ≡ true → (calls : ℕ) (ls : List Lexeme) → LexemesFrom text (at + 1) calls ls → LexemesFrom text at calls ls
  skips e calls ls d = blank (got text at below) (sym is ∙ e) d

  pub no_blank : b ≡ false → (c : ℕ) × (slice_get text at ≡ Some c) × (is_blank c ≡ false)
  no_blank e = (get_or text at 0, got text at below, sym is ∙ e)

pub at_token : (text : List ℕ) (at calls : ℕ) (l : Lexeme) → Begins text calls l → l.at ≡ at → (ls : List Lexeme) → LexemesFrom text l.end l.call ls → LexemesFrom text at calls (l ∷ ls)
at_token text at calls l b e ls d = subst (λ n. LexemesFrom text n calls (l ∷ ls)) e (token b d)

pub more_lexemes : (text : List ℕ) (made new : List Lexeme) (l : Lexeme) (ls : List Lexeme) → new ≡ made ++ l ∷ [] → LexemesFrom text 0 0 (made ++ l ∷ ls) → LexemesFrom text 0 0 (new ++ ls)
more_lexemes text made new l ls e d = subst (λ x. LexemesFrom text 0 0 x) (sym (ap (λ x. x ++ ls) e ∙ append_assoc made (l ∷ []) ls)) d

pub last_lexeme : (text : List ℕ) (made new : List Lexeme) (l : Lexeme) → new ≡ made ++ l ∷ [] → LexemesFrom text 0 0 (made ++ l ∷ []) → LexemesFrom text 0 0 new
last_lexeme text made new l e d = subst (λ x. LexemesFrom text 0 0 x) (sym e) d

length_drop : (text : List ℕ) (at : ℕ) → length (drop at text) ≡ length text - at
length_drop text zero = omega arith
length_drop [] (suc at) = omega arith
length_drop (x ∷ text) (suc at) = let ih = length_drop text at in omega arith

few_more : (kind : Kind) (calls : ℕ) → calls_with kind calls ≤ calls + 1
few_more kind calls = go kind
  where
    go : (kind : Kind) → calls_with kind calls ≤ calls + 1
    go k.Caveat = omega arith
    go kind = omega arith

-- a token ends within the text, and CAVEATs are no more than bytes
pub ends_within : (text : List ℕ) (calls at : ℕ) (l : Lexeme) → Begins text calls l → l.at ≡ at → at ≤ length text → calls ≤ at → (l.end ≤ length text) × (l.call ≤ l.end)
ends_within text calls at l b e within few =
    let long = b.longest.0 in
    let short = b.longest.1 in
    let rest = length_drop text l.at in
    let ends = b.end in
    let call = b.call in
    let more = few_more l.kind calls in
    let first : l.end ≤ length text = omega (arith, short, rest, ends, e, within) in
    let second : l.call ≤ l.end = omega (arith, long, ends, call, more, few, e) in
    (first, second)
