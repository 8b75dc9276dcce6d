-- The parts of a form: what is known of each, and what is left of their bounds.
use Rattle.std.proofs.Common.{◌≡◌, ℕ, ◌+◌, ◌≤◌, Bool, true, List, [], ◌∷◌, ◌++◌, map, subst, arith, append_assoc}
use Rattle.std.specs.List.{flat_map, list_all}
use Rattle.std.proofs.Math.Nat.{le-max_left, le-max_right}
use Rattle.std.proofs.lemmas.Bool.{and_parts}
use Rattle.notebook_grammar.specs.declared.rule.ExprRule.TheVariants as e
use Rattle.notebook_grammar.specs.declared.lexeme.Lexeme.{Lexeme}
use Rattle.expr_lang.specs.declared.expr.Expr.{Expr}
use Rattle.expr_parse.specs.declared.piece.Piece.TheVariants as piece
use Rattle.expr_print.specs.Tokens.{Tokens, tokens}
use Rattle.expr_print.specs.Printable.{CountsFrom, most, calls, levels, is_written}
use Rattle.expr_print.proofs.Reading.{AreTokens, Reads}
use Rattle.expr_print.proofs.Giving.{Pieces, Gives, rule_at}

-- these tokens, with these CAVEATs and levels, are an atom that gives the expression; the CAVEATs go on after it
abbrev pub IsAtom : List ℕ → Expr → Tokens → List ℕ → ℕ → Type 0
IsAtom text x ts numbers deep =
    (room : ℕ) → deep ≤ room → (calls last : ℕ) (more : List ℕ) → CountsFrom (calls + 1) (numbers ++ more)
    → (ls : List Lexeme) → Reads text calls ts ls last → (st : Pieces)
    → Gives text (rule_at room e.Atom ∷ []) ls st (piece.Tree x ∷ st) × CountsFrom (last + 1) more

-- where it is written, these are tokens and such an atom
abbrev pub IsFine : List ℕ → Expr → Tokens → List ℕ → ℕ → Bool → Type 0
IsFine text x ts numbers deep written = written ≡ true → AreTokens ts × IsAtom text x ts numbers deep

-- the text of the expression is
abbrev pub Holds : List ℕ → Expr → Type 0
Holds text x = IsFine text x (tokens x) (calls x) (levels x) (is_written x)

-- an expression of which that is known
abbrev pub Part : List ℕ → Type 0
Part text = (x : Expr) × Holds text x

-- the expressions alone
abbrev pub bare : {text : List ℕ} → List (Part text) → List Expr
bare ps = map (λ p. p.0) ps

-- the bounds of some parts: room for their levels, and CAVEATs that go on from so many, with more to come
pub record Bounds (text : List ℕ) (room before : ℕ) (ps : List (Part text)) (more : List ℕ) : Type 0 where
  pub written : list_all (λ b. b) (map is_written (bare ps)) ≡ true
  pub fits : most (map levels (bare ps)) ≤ room
  pub counts : CountsFrom (before + 1) (flat_map (λ numbers. numbers) (map calls (bare ps)) ++ more)

module _ {text : List ℕ} {room before : ℕ} {p : Part text} {ps : List (Part text)} {more : List ℕ} (b : Bounds text room before (p ∷ ps) more) where
  pub first_written : is_written p.0 ≡ true
  first_written = (and_parts (is_written p.0) (list_all (λ b. b) (map is_written (bare ps))) b.written).0

  pub rest_written : list_all (λ b. b) (map is_written (bare ps)) ≡ true
  rest_written = (and_parts (is_written p.0) (list_all (λ b. b) (map is_written (bare ps))) b.written).1

  pub first_fits : levels p.0 ≤ room
  first_fits = let l = le-max_left (levels p.0) (most (map levels (bare ps))) in let h = b.fits in omega (arith, l, h)

  pub rest_fits : most (map levels (bare ps)) ≤ room
  rest_fits = let l = le-max_right (levels p.0) (most (map levels (bare ps))) in let h = b.fits in omega (arith, l, h)

  pub first_counts : CountsFrom (before + 1) (calls p.0 ++ (flat_map (λ numbers. numbers) (map calls (bare ps)) ++ more))
  first_counts = subst (CountsFrom (before + 1)) (append_assoc (calls p.0) (flat_map (λ numbers. numbers) (map calls (bare ps))) more) b.counts

  -- what is left after the first
  pub rest_of : (now : ℕ) → CountsFrom (now + 1) (flat_map (λ numbers. numbers) (map calls (bare ps)) ++ more) → Bounds text room now ps more
  rest_of now c = record { written = rest_written; fits = rest_fits; counts = c }
