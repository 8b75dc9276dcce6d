-- The tokens of a text stand in order.
use Rattle.std.proofs.Common.{ℕ, ◌+◌, ◌<◌, ◌≤◌, List, [], ◌∷◌, length, sym, subst, arith}
use Rattle.std.proofs.lemmas.List.{length-drop}
use Rattle.std.proofs.lemmas.Option.{slice_get_within}
use Rattle.notebook_grammar.specs.declared.lexeme.Lexeme.{Lexeme}
use Rattle.notebook_grammar.specs.declared.token.Token.{Token}
use Rattle.notebook_grammar.specs.Lexemes.{Begins, LexemesFrom, ends, blank, token, stray}
use Rattle.notebook_grammar.specs.Tokens.{Shown, none, one}
use Rattle.notebook_grammar.specs.Laws.{StandInOrder, TokensInOrder}

-- from an earlier place on
earlier : (from before to : ℕ) (ts : List Token) → before ≤ from → StandInOrder from to ts → StandInOrder before to ts
earlier from before to [] h s = omega (arith, s)
earlier from before to (t ∷ ts) h s = (omega (arith, s.0), s.1, s.2)

-- a token isn't empty, and ends within the text
has_place : (text : List ℕ) (calls : ℕ) (l : Lexeme) → l.at ≤ length text → Begins text calls l → (l.at < l.end) × (l.end ≤ length text)
has_place text calls l h b =
    let long = b.longest.0 in
    let short = b.longest.1 in
    let rest = length-drop l.at text in
    let end = b.end in
    let first : l.at < l.end = omega (arith, long, end) in
    let second : l.end ≤ length text = omega (arith, short, rest, end, h) in
    (first, second)

in_order : {text : List ℕ} {at calls : ℕ} {ls : List Lexeme} {ts : List Token} → LexemesFrom text at calls ls → at ≤ length text → Shown ls ts → StandInOrder at (length text) ts
in_order (ends e) h none = h
in_order {text = text} {at = at} {ts = ts} (blank {b = b} e is d) h s =
    let below = slice_get_within text at b e in
    earlier (at + 1) at (length text) ts (omega arith) (in_order d (omega arith) s)
in_order {text = text} (token {calls = calls} {l = l} b d) h (one {t = t} {ts = ts} same_at same_end kind s) =
    let p = has_place text calls l h b in
    let rest = in_order d p.1 s in (
      omega (arith, same_at),
      omega (arith, same_at, same_end, p.0),
      subst (λ n. StandInOrder n (length text) ts) (sym same_end) rest,
    )
in_order (stray e is nothing) h (one same_at same_end kind s) = cc

pub tokens_in_order : TokensInOrder
tokens_in_order text ts a = in_order a.1 (omega arith) a.2
