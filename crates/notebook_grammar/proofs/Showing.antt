-- Lexemes as tokens.
use Rattle.std.proofs.Common.{◌≡◌, ℕ, zero, suc, ◌+◌, ◌<◌, List, [], ◌∷◌, ◌++◌, Some, None, length, take, get_or, refl, sym, ap, ◌∙◌, subst, arith}
use Rattle.std.specs.Prelude.{slice_get}
use Rattle.std.proofs.Math.Seq.{take-suc}
use Rattle.notebook_grammar.specs.declared.kind.Kind.{Kind}
use Rattle.notebook_grammar.specs.declared.kind.Kind.TheVariants as k
use Rattle.notebook_grammar.specs.declared.lexeme.Lexeme.{Lexeme}
use Rattle.notebook_grammar.specs.declared.token.Token.{Token}
use Rattle.notebook_grammar.specs.Tokens.{token_kind, Shown, none, one}

pub none_is_stray : (kind : Kind) → token_kind kind ≡ None → kind ≡ k.Stray
none_is_stray k.Stray e = refl
none_is_stray kind e = cc

pub none_shown : (ls : List Lexeme) (ts : List Token) → ts ≡ [] → Shown (take 0 ls) ts
none_shown ls ts e = subst (λ x. Shown (take 0 ls) x) (sym e) none

one_more : {ls : List Lexeme} {ts : List Token} (l : Lexeme) (t : Token) → t.at ≡ l.at → t.end ≡ l.end → token_kind l.kind ≡ Some t.kind → Shown ls ts → Shown (ls ++ l ∷ []) (ts ++ t ∷ [])
one_more l t a e q none = one a e q none
one_more l t a e q (one b f r s) = one b f r (one_more l t a e q s)

pub shown_next : (ls : List Lexeme) (i : ℕ) (d : Lexeme) (made new : List Token) (t : Token) → i < length ls → t.at ≡ (get_or ls i d).at → t.end ≡ (get_or ls i d).end → token_kind (get_or ls i d).kind ≡ Some t.kind
    → new ≡ made ++ t ∷ [] → Shown (take i ls) made → Shown (take (i + 1) ls) new
shown_next ls i d made new t below a e q pushed s =
    let n : i + 1 ≡ suc i = omega arith in
    let grown : take (i + 1) ls ≡ take i ls ++ get_or ls i d ∷ [] = ap (λ m. take m ls) n ∙ take-suc ls i d below in
    subst (λ x. Shown x new) (sym grown) (subst (λ x. Shown (take i ls ++ get_or ls i d ∷ []) x) (sym pushed) (one_more (get_or ls i d) t a e q s))

pub got_lexeme : (ls : List Lexeme) (i : ℕ) (d : Lexeme) → i < length ls → slice_get ls i ≡ Some (get_or ls i d)
got_lexeme [] i d h = absurd (omega arith)
got_lexeme (x ∷ ls) zero d h = refl
got_lexeme (x ∷ ls) (suc i) d h = got_lexeme ls i d (omega arith)
