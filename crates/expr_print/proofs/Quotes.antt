-- A text in quotes is a token, and gives the text.
use Rattle.std.proofs.Common.{◌≡◌, ◌≢◌, ℕ, ◌+◌, ◌-◌, Bool, true, false, List, [], ◌∷◌, ◌++◌, Some, length, take, refl, sym, ap, ◌∙◌, subst, arith, length-append}
use Rattle.std.specs.Prelude.{◌==◌, if◌then◌else◌, slice_range}
use Rattle.std.specs.List.{flat_map}
use Rattle.std.proofs.Math.Seq.{take-append_seam}
use Rattle.std.proofs.lemmas.Bool.{ne_eqb}
use Rattle.notebook_grammar.specs.declared.kind.Kind.TheVariants as k
use Rattle.notebook_grammar.specs.declared.scan.Form.TheVariants as form
use Rattle.notebook_grammar.specs.declared.scan.Class.{Class}
use Rattle.notebook_grammar.specs.declared.scan.Class.TheVariants as class
use Rattle.notebook_grammar.specs.declared.scan.State.TheVariants as state
use Rattle.notebook_grammar.specs.Forms.{class_of, step}
use Rattle.notebook_grammar.specs.Longest.{ends_in}
use Rattle.notebook_grammar.proofs.OneReading.{same_number}
use Rattle.expr_parse.specs.Values.{undoubled, quoted_of}
use Rattle.expr_print.specs.Tokens.{twice, quoted}
use Rattle.expr_print.proofs.Reading.{kind_in, kind_by}
use Rattle.expr_print.proofs.Bytes.{is_quote, no_quote}

-- a byte is a quote or none
pub data Quote (b : ℕ) : Type 0 where
  quote : b ≡ 39 → Quote b
  other : b ≢ 39 → Quote b

pub quote_or : (b : ℕ) → Quote b
quote_or b = go (b == 39) refl
  where
    go : (t : Bool) → (b == 39) ≡ t → Quote b
    go true e = quote (same_number b 39 e)
    go false e = other (λ i. let t : (39 == 39) ≡ false = sym (ap (λ n. n == 39) i) ∙ e in cc)

stays : (c : Class) → is_quote c ≡ false → step state.Open c ≡ Some state.Open
stays class.Quote e = cc
stays class.Letter e = refl
stays class.Underscore e = refl
stays class.Digit e = refl
stays class.Point e = refl
stays class.Less e = refl
stays class.Greater e = refl
stays class.Bang e = refl
stays class.Bar e = refl
stays class.Equal e = refl
stays (class.Mark kind) e = refl
stays class.Other e = refl

pub twice_other : (b : ℕ) → b ≢ 39 → twice b ≡ b ∷ []
twice_other b ne = ap (λ t. if t then 39 ∷ 39 ∷ [] else b ∷ []) (ne_eqb b 39 ne)

-- ---- it is a token

open_on : (text : List ℕ) → ends_in (Some state.Open) (flat_map twice text ++ 39 ∷ []) ≡ Some form.Quoted
open_on [] = refl
open_on (b ∷ text) = go (open_on text) (quote_or b)
  where
    go : ends_in (Some state.Open) (flat_map twice text ++ 39 ∷ []) ≡ Some form.Quoted → Quote b → ends_in (Some state.Open) ((twice b ++ flat_map twice text) ++ 39 ∷ []) ≡ Some form.Quoted
    go ih (quote is) = subst (λ x. ends_in (Some state.Open) ((twice x ++ flat_map twice text) ++ 39 ∷ []) ≡ Some form.Quoted) (sym is) ih
    go ih (other ne) =
        ap (λ x. ends_in (Some state.Open) ((x ++ flat_map twice text) ++ 39 ∷ [])) (twice_other b ne)
        ∙ ap (λ o. ends_in o (flat_map twice text ++ 39 ∷ [])) (stays (class_of b) (no_quote b ne)) ∙ ih

pub quoted_kind : (text : List ℕ) → kind_in (quoted text) ≡ Some k.Quoted
quoted_kind text = ap (λ o. kind_by o (quoted text)) (open_on text)

-- ---- it gives the text

once : (text : List ℕ) → undoubled false (flat_map twice text) ≡ text
once [] = refl
once (b ∷ text) = go (once text) (quote_or b)
  where
    go : undoubled false (flat_map twice text) ≡ text → Quote b → undoubled false (twice b ++ flat_map twice text) ≡ b ∷ text
    go ih (quote is) = subst (λ x. undoubled false (twice x ++ flat_map twice text) ≡ x ∷ text) (sym is) (ap (λ x. 39 ∷ x) ih)
    go ih (other ne) =
        ap (λ x. undoubled false (x ++ flat_map twice text)) (twice_other b ne)
        ∙ rw (ne_eqb b 39 ne) (ap (λ x. b ∷ x) ih)

pub quoted_back : (text : List ℕ) → quoted_of (quoted text) ≡ text
quoted_back text =
    let inner = flat_map twice text in
    let n : length (quoted text) - 1 - 1 ≡ length inner = (let m : length (inner ++ 39 ∷ []) ≡ length inner + 1 = length-append inner (39 ∷ []) in omega (arith, m)) in
    let cut : slice_range (quoted text) 1 (length (quoted text) - 1) ≡ inner = ap (λ i. take i (inner ++ 39 ∷ [])) n ∙ take-append_seam inner (39 ∷ []) in
    ap (undoubled false) cut ∙ once text
