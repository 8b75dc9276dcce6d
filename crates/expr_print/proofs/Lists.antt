-- Lists of expressions, the arms of a CASE, and the forms that have them.
use Rattle.std.proofs.Common.{◌≡◌, ℕ, suc, ◌≤◌, Bool, true, false, List, [], ◌∷◌, ◌++◌, map, refl, sym, subst, append_assoc}
use Rattle.std.specs.Prelude.{codes}
use Rattle.notebook_grammar.specs.declared.kind.Kind.TheVariants as k
use Rattle.notebook_grammar.specs.declared.rule.Rule.TheVariants as rule
use Rattle.notebook_grammar.specs.declared.rule.ExprRule.TheVariants as e
use Rattle.notebook_grammar.specs.declared.action.ExprAction.TheVariants as e_act
use Rattle.notebook_grammar.specs.declared.lexeme.Lexeme.{Lexeme}
use Rattle.notebook_grammar.specs.Rows.{token, expr, expr_in, expr_do}
use Rattle.notebook_grammar.specs.Language.{Symbols}
use Rattle.notebook_grammar.proofs.Cutting.{append_none}
use Rattle.expr_lang.specs.declared.expr.Expr.{Expr}
use Rattle.expr_lang.specs.declared.expr.Expr.TheVariants as made
use Rattle.expr_parse.specs.declared.piece.Piece.TheVariants as piece
use Rattle.expr_print.specs.Tokens.{Tokens, tokens, in_parens, call, negated_if, after_commas, with_commas}
use Rattle.expr_print.specs.Printable.{most, levels, is_some_list}
use Rattle.expr_print.proofs.Reading.{Reads}
use Rattle.expr_print.proofs.Giving.{Pieces, rule_at, token_at, flat}
use Rattle.expr_print.proofs.Parts.{Part, Bounds, bare}
use Rattle.expr_print.proofs.Following.{Aim, Both, Onward, regrouped, acting, othered, emptied, worded, met, first, as_or}
use Rattle.expr_print.proofs.Operators.{aim, finished, inside, closed, past_and}
use Rattle.expr_print.proofs.Enclosed.{behind}

-- ---- the entries of a list, in parentheses

-- the tokens of some parts
abbrev pub texts : {text : List ℕ} → List (Part text) → List Tokens
texts ps = map tokens (bare ps)

module _ (g : Aim) (r : ℕ) (more : List ℕ) (us : Tokens) (s : Symbols) where
  -- the further entries
  entries : (ps : List (Part g.text)) (had : List Expr) (st : Pieces) {before : ℕ} {ls : List Lexeme} → Bounds g.text r before ps more
      → Onward g r [] more (codes ")" ∷ us) (token_at (suc r) k.Close ∷ s) (piece.List (had ++ bare ps) ∷ st)
      → Reads g.text before (after_commas (texts ps) ++ codes ")" ∷ us) ls g.last → Both g (rule_at r e.ListTail ∷ token_at (suc r) k.Close ∷ s) ls (piece.List had ∷ st)
  entries [] had st {before = before} {ls = ls} b onward d =
      emptied g r e.ListTail refl (subst (λ x. Both g (token_at (suc r) k.Close ∷ s) ls (piece.List x ∷ st)) (append_none had) (onward before b ls d))
  entries (p ∷ ps) had st b onward d =
      worded g r (rule.Expr e.ListTail) k.Comma (expr e.Or ∷ expr_do e_act.Entry ∷ expr e.ListTail ∷ []) _ refl (flat r _ refl) (codes ",") refl refl refl
      (λ rest i. as_or g r p (after_commas (texts ps) ++ codes ")" ∷ us) _ b
      (λ m c rest i. acting g e_act.Entry _ (λ n. refl) refl
      (entries ps (had ++ p.0 ∷ []) st c
      (λ m c rest i. subst (λ x. Both g (token_at (suc r) k.Close ∷ s) rest (piece.List x ∷ st)) (sym (append_assoc had (p.0 ∷ []) (bare ps))) (onward m c rest i)) i))
      (regrouped (tokens p.0) (after_commas (texts ps)) (codes ")" ∷ us) i))
      d

  -- a list with an entry
  pub listed : (ps : List (Part g.text)) → is_some_list ps ≡ true → (st : Pieces) {before : ℕ} {ls : List Lexeme} → Bounds g.text r before ps more
      → Onward g r [] more (codes ")" ∷ us) (token_at (suc r) k.Close ∷ s) (piece.List (bare ps) ∷ st)
      → Reads g.text before (with_commas (texts ps) ++ codes ")" ∷ us) ls g.last → Both g (rule_at r e.List ∷ token_at (suc r) k.Close ∷ s) ls st
  listed [] some st b onward d = cc
  listed (p ∷ ps) some st b onward d =
      othered g r e.List (expr_do e_act.BeginList ∷ expr e.Or ∷ expr_do e_act.Entry ∷ expr e.ListTail ∷ []) refl refl
      (acting g e_act.BeginList _ (λ n. refl) refl
      (as_or g r p (after_commas (texts ps) ++ codes ")" ∷ us) _ b
      (λ m c rest i. acting g e_act.Entry _ (λ n. refl) refl (entries ps (p.0 ∷ []) st c onward i))
      (regrouped (tokens p.0) (after_commas (texts ps)) (codes ")" ∷ us) d)))

-- ---- the forms with a list

-- the bounds of a list, which has a level less than what stands in front of it
listed_bounds : {text : List ℕ} {r now : ℕ} {ps : List (Part text)} {more : List ℕ} → most (map levels (bare ps)) ≤ r → Bounds text (suc r) now ps more → Bounds text r now ps more
listed_bounds fit c = record { written = c.written; fits = fit; counts = c.counts }

module _ {text : List ℕ} (r : ℕ) {before last : ℕ} {st : Pieces} {ls : List Lexeme} (more : List ℕ) where
  pub one_of : (negated : Bool) (a : Part text) (ps : List (Part text)) → is_some_list ps ≡ true → most (map levels (bare ps)) ≤ r → Bounds text (suc r) before (a ∷ ps) more
      → Reads text before (in_parens (tokens a.0 ++ negated_if negated (call (codes "IN") (with_commas (texts ps))))) ls last
      → Both (aim text (made.OneOf a.0 (bare ps) negated) st last more) (rule_at (suc (suc r)) e.Atom ∷ []) ls st
  one_of true a ps some fit b d =
      let g = aim text (made.OneOf a.0 (bare ps) true) st last more in
      inside more (suc r) (tokens a.0 ++ codes "NOT" ∷ call (codes "IN") (with_commas (texts ps)))
      (λ rest i. first g (suc r) a (codes "NOT" ∷ codes "IN" ∷ codes "(" ∷ ((with_commas (texts ps) ++ codes ")" ∷ []) ++ codes ")" ∷ [])) (token_at (suc (suc r)) k.Close ∷ []) b
      (λ m c rest i. emptied g (suc r) e.ProductTail refl (emptied g (suc r) e.SumTail refl (emptied g (suc r) e.JoinedTail refl
      (worded g (suc r) (rule.Expr e.ComparisonTail) k.Not (expr e.NotTail ∷ []) (behind (suc r)) refl refl (codes "NOT") refl refl refl
      (λ rest i. worded g (suc r) (rule.Expr e.NotTail) k.In (token k.Open ∷ expr_in e.List ∷ token k.Close ∷ expr_do e_act.NotIn ∷ []) (behind (suc r)) refl refl (codes "IN") refl refl refl
      (λ rest i. met g (suc r) k.Open _ refl (codes "(") refl refl refl
      (λ rest i. listed g r more (codes ")" ∷ []) _ ps some (piece.Tree a.0 ∷ st) (listed_bounds fit c)
      (λ m c rest i. met g (suc r) k.Close _ refl (codes ")") refl refl refl
      (λ rest i. acting g e_act.NotIn _ (λ n. refl) refl (past_and g (suc r) (closed more (suc r) c.counts i))) i)
      (regrouped (with_commas (texts ps)) (codes ")" ∷ []) (codes ")" ∷ []) i)) i) i) i))))
      (regrouped (tokens a.0) (codes "NOT" ∷ call (codes "IN") (with_commas (texts ps))) (codes ")" ∷ []) i))
      d
  one_of false a ps some fit b d =
      let g = aim text (made.OneOf a.0 (bare ps) false) st last more in
      inside more (suc r) (tokens a.0 ++ call (codes "IN") (with_commas (texts ps)))
      (λ rest i. first g (suc r) a (codes "IN" ∷ codes "(" ∷ ((with_commas (texts ps) ++ codes ")" ∷ []) ++ codes ")" ∷ [])) (token_at (suc (suc r)) k.Close ∷ []) b
      (λ m c rest i. emptied g (suc r) e.ProductTail refl (emptied g (suc r) e.SumTail refl (emptied g (suc r) e.JoinedTail refl
      (worded g (suc r) (rule.Expr e.ComparisonTail) k.In (token k.Open ∷ expr_in e.List ∷ token k.Close ∷ expr_do e_act.In ∷ []) (behind (suc r)) refl refl (codes "IN") refl refl refl
      (λ rest i. met g (suc r) k.Open _ refl (codes "(") refl refl refl
      (λ rest i. listed g r more (codes ")" ∷ []) _ ps some (piece.Tree a.0 ∷ st) (listed_bounds fit c)
      (λ m c rest i. met g (suc r) k.Close _ refl (codes ")") refl refl refl
      (λ rest i. acting g e_act.In _ (λ n. refl) refl (past_and g (suc r) (closed more (suc r) c.counts i))) i)
      (regrouped (with_commas (texts ps)) (codes ")" ∷ []) (codes ")" ∷ []) i)) i) i))))
      (regrouped (tokens a.0) (call (codes "IN") (with_commas (texts ps))) (codes ")" ∷ []) i))
      d

  pub coalesce : (ps : List (Part text)) → is_some_list ps ≡ true → Bounds text r before ps more → Reads text before (call (codes "COALESCE") (with_commas (texts ps))) ls last
      → Both (aim text (made.Coalesce (bare ps)) st last more) (rule_at (suc r) e.Atom ∷ []) ls st
  coalesce ps some b d =
      let g = aim text (made.Coalesce (bare ps)) st last more in
      worded g (suc r) (rule.Expr e.Atom) k.Coalesce (token k.Open ∷ expr_in e.List ∷ token k.Close ∷ expr_do e_act.Coalesce ∷ []) [] refl refl (codes "COALESCE") refl refl refl
      (λ rest i. met g (suc r) k.Open _ refl (codes "(") refl refl refl
      (λ rest i. listed g r more [] _ ps some st b
      (λ m c rest i. met g (suc r) k.Close _ refl (codes ")") refl refl refl
      (λ rest i. acting g e_act.Coalesce _ (λ n. refl) refl (finished more c.counts i)) i) i) i)
      d
