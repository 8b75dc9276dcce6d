-- The forms that stand in parentheses.
use Rattle.std.proofs.Common.{ℕ, suc, Bool, true, false, List, [], ◌∷◌, ◌++◌, refl}
use Rattle.std.specs.Prelude.{codes}
use Rattle.notebook_grammar.specs.declared.kind.Kind.TheVariants as k
use Rattle.notebook_grammar.specs.declared.rule.Rule.TheVariants as rule
use Rattle.notebook_grammar.specs.declared.rule.ExprRule.TheVariants as e
use Rattle.notebook_grammar.specs.declared.action.ExprAction.TheVariants as e_act
use Rattle.notebook_grammar.specs.declared.lexeme.Lexeme.{Lexeme}
use Rattle.notebook_grammar.specs.Rows.{token, expr, expr_do}
use Rattle.notebook_grammar.specs.Language.{Symbols}
use Rattle.expr_lang.specs.declared.ops.UnaryOp.TheVariants as op
use Rattle.expr_lang.specs.declared.ops.BinaryOp.{BinaryOp}
use Rattle.expr_lang.specs.declared.expr.Expr.TheVariants as made
use Rattle.expr_print.specs.Tokens.{tokens, operator, in_parens, negated_if}
use Rattle.expr_print.proofs.Reading.{Reads}
use Rattle.expr_print.proofs.Giving.{Pieces, rule_at, token_at, action, flat}
use Rattle.expr_print.proofs.Parts.{Part, Bounds}
use Rattle.expr_print.proofs.Following.{Both, regrouped, acting, othered, emptied, worded, met, first, as_signed, as_joined, as_not}
use Rattle.expr_print.proofs.Operators.{aim, inside, closed, operated, past_and, past_sum}

-- what may follow a comparison in parentheses
abbrev pub behind : ℕ → Symbols
behind r = rule_at r e.AndTail ∷ rule_at r e.OrTail ∷ token_at (suc r) k.Close ∷ []

module _ {text : List ℕ} (r : ℕ) {before last : ℕ} {st : Pieces} {ls : List Lexeme} (more : List ℕ) where
  pub binary : (op : BinaryOp) (a b : Part text) → Bounds text r before (a ∷ b ∷ []) more → Reads text before (in_parens (tokens a.0 ++ operator op ∷ tokens b.0)) ls last
      → Both (aim text (made.Binary op a.0 b.0) st last more) (rule_at (suc r) e.Atom ∷ []) ls st
  binary op a b c d =
      let g = aim text (made.Binary op a.0 b.0) st last more in
      inside more r (tokens a.0 ++ operator op ∷ tokens b.0)
      (λ rest i. operated g r op a b (codes ")" ∷ []) (token_at (suc r) k.Close ∷ []) c
      (λ m c rest j. closed more r c.counts j)
      (regrouped (tokens a.0) (operator op ∷ tokens b.0) (codes ")" ∷ []) i))
      d

  pub is_null : (negated : Bool) (a : Part text) → Bounds text r before (a ∷ []) more → Reads text before (in_parens (tokens a.0 ++ codes "IS" ∷ negated_if negated (codes "NULL" ∷ []))) ls last
      → Both (aim text (made.IsNull a.0 negated) st last more) (rule_at (suc r) e.Atom ∷ []) ls st
  is_null true a c d =
      let g = aim text (made.IsNull a.0 true) st last more in
      inside more r (tokens a.0 ++ codes "IS" ∷ codes "NOT" ∷ codes "NULL" ∷ [])
      (λ rest i. first g r a (codes "IS" ∷ codes "NOT" ∷ codes "NULL" ∷ codes ")" ∷ []) (token_at (suc r) k.Close ∷ []) c
      (λ m c rest i. emptied g r e.ProductTail refl (emptied g r e.SumTail refl (emptied g r e.JoinedTail refl
      (worded g r (rule.Expr e.ComparisonTail) k.Is (expr e.IsTail ∷ []) (behind r) refl (flat r _ refl) (codes "IS") refl refl refl
      (λ rest i. worded g r (rule.Expr e.IsTail) k.Not (token k.Null ∷ expr_do e_act.IsNotNull ∷ []) (behind r) refl (flat r _ refl) (codes "NOT") refl refl refl
      (λ rest i. met g r k.Null (action e_act.IsNotNull ∷ behind r) refl (codes "NULL") refl refl refl
      (λ rest i. acting g e_act.IsNotNull _ (λ n. refl) refl (past_and g r (closed more r c.counts i))) i) i) i))))
      (regrouped (tokens a.0) (codes "IS" ∷ codes "NOT" ∷ codes "NULL" ∷ []) (codes ")" ∷ []) i))
      d
  is_null false a c d =
      let g = aim text (made.IsNull a.0 false) st last more in
      inside more r (tokens a.0 ++ codes "IS" ∷ codes "NULL" ∷ [])
      (λ rest i. first g r a (codes "IS" ∷ codes "NULL" ∷ codes ")" ∷ []) (token_at (suc r) k.Close ∷ []) c
      (λ m c rest i. emptied g r e.ProductTail refl (emptied g r e.SumTail refl (emptied g r e.JoinedTail refl
      (worded g r (rule.Expr e.ComparisonTail) k.Is (expr e.IsTail ∷ []) (behind r) refl (flat r _ refl) (codes "IS") refl refl refl
      (λ rest i. worded g r (rule.Expr e.IsTail) k.Null (expr_do e_act.IsNull ∷ []) (behind r) refl (flat r _ refl) (codes "NULL") refl refl refl
      (λ rest i. acting g e_act.IsNull _ (λ n. refl) refl (past_and g r (closed more r c.counts i))) i) i))))
      (regrouped (tokens a.0) (codes "IS" ∷ codes "NULL" ∷ []) (codes ")" ∷ []) i))
      d

  pub like : (negated : Bool) (a b : Part text) → Bounds text r before (a ∷ b ∷ []) more → Reads text before (in_parens (tokens a.0 ++ negated_if negated (codes "LIKE" ∷ tokens b.0))) ls last
      → Both (aim text (made.Like a.0 b.0 negated) st last more) (rule_at (suc r) e.Atom ∷ []) ls st
  like true a b c d =
      let g = aim text (made.Like a.0 b.0 true) st last more in
      inside more r (tokens a.0 ++ codes "NOT" ∷ codes "LIKE" ∷ tokens b.0)
      (λ rest i. first g r a (codes "NOT" ∷ codes "LIKE" ∷ (tokens b.0 ++ codes ")" ∷ [])) (token_at (suc r) k.Close ∷ []) c
      (λ m c rest i. emptied g r e.ProductTail refl (emptied g r e.SumTail refl (emptied g r e.JoinedTail refl
      (worded g r (rule.Expr e.ComparisonTail) k.Not (expr e.NotTail ∷ []) (behind r) refl (flat r _ refl) (codes "NOT") refl refl refl
      (λ rest i. worded g r (rule.Expr e.NotTail) k.Like (expr e.Joined ∷ expr_do e_act.NotLike ∷ []) (behind r) refl (flat r _ refl) (codes "LIKE") refl refl refl
      (λ rest i. as_joined g r b (codes ")" ∷ []) (action e_act.NotLike ∷ behind r) c
      (λ m c rest i. acting g e_act.NotLike _ (λ n. refl) refl (past_and g r (closed more r c.counts i))) i) i) i))))
      (regrouped (tokens a.0) (codes "NOT" ∷ codes "LIKE" ∷ tokens b.0) (codes ")" ∷ []) i))
      d
  like false a b c d =
      let g = aim text (made.Like a.0 b.0 false) st last more in
      inside more r (tokens a.0 ++ codes "LIKE" ∷ tokens b.0)
      (λ rest i. first g r a (codes "LIKE" ∷ (tokens b.0 ++ codes ")" ∷ [])) (token_at (suc r) k.Close ∷ []) c
      (λ m c rest i. emptied g r e.ProductTail refl (emptied g r e.SumTail refl (emptied g r e.JoinedTail refl
      (worded g r (rule.Expr e.ComparisonTail) k.Like (expr e.Joined ∷ expr_do e_act.Like ∷ []) (behind r) refl (flat r _ refl) (codes "LIKE") refl refl refl
      (λ rest i. as_joined g r b (codes ")" ∷ []) (action e_act.Like ∷ behind r) c
      (λ m c rest i. acting g e_act.Like _ (λ n. refl) refl (past_and g r (closed more r c.counts i))) i) i))))
      (regrouped (tokens a.0) (codes "LIKE" ∷ tokens b.0) (codes ")" ∷ []) i))
      d

-- ---- an operator in front, whose operand is a level further in

module _ {text : List ℕ} (r : ℕ) {before last : ℕ} {st : Pieces} {ls : List Lexeme} (more : List ℕ) where
  pub not : (a : Part text) → Bounds text r before (a ∷ []) more → Reads text before (in_parens (codes "NOT" ∷ tokens a.0)) ls last
      → Both (aim text (made.Unary op.Not a.0) st last more) (rule_at (suc (suc r)) e.Atom ∷ []) ls st
  not a c d =
      let g = aim text (made.Unary op.Not a.0) st last more in
      inside more (suc r) (codes "NOT" ∷ tokens a.0)
      (λ rest i. othered g (suc r) e.Or (expr e.And ∷ expr e.OrTail ∷ []) refl refl (othered g (suc r) e.And (expr e.Not ∷ expr e.AndTail ∷ []) refl refl
      (worded g (suc r) (rule.Expr e.Not) k.Not _ _ refl refl (codes "NOT") refl refl refl
      (λ rest i. as_not g r a (codes ")" ∷ []) _ c
      (λ m c rest i. acting g e_act.Not _ (λ n. refl) refl (past_and g (suc r) (closed more (suc r) c.counts i))) i) i)))
      d

  pub minus : (a : Part text) → Bounds text r before (a ∷ []) more → Reads text before (in_parens (codes "-" ∷ tokens a.0)) ls last
      → Both (aim text (made.Unary op.Minus a.0) st last more) (rule_at (suc (suc r)) e.Atom ∷ []) ls st
  minus a c d =
      let g = aim text (made.Unary op.Minus a.0) st last more in
      inside more (suc r) (codes "-" ∷ tokens a.0)
      (λ rest i. othered g (suc r) e.Or (expr e.And ∷ expr e.OrTail ∷ []) refl refl (othered g (suc r) e.And (expr e.Not ∷ expr e.AndTail ∷ []) refl refl
      (othered g (suc r) e.Not (expr e.Comparison ∷ []) refl refl (othered g (suc r) e.Comparison (expr e.Joined ∷ expr e.ComparisonTail ∷ []) refl refl
      (othered g (suc r) e.Joined (expr e.Sum ∷ expr e.JoinedTail ∷ []) refl refl (othered g (suc r) e.Sum (expr e.Product ∷ expr e.SumTail ∷ []) refl refl
      (othered g (suc r) e.Product (expr e.Signed ∷ expr e.ProductTail ∷ []) refl refl
      (worded g (suc r) (rule.Expr e.Signed) k.Minus _ _ refl refl (codes "-") refl refl refl
      (λ rest i. as_signed g r a (codes ")" ∷ []) _ c
      (λ m c rest i. acting g e_act.Minus _ (λ n. refl) refl (emptied g (suc r) e.ProductTail refl (past_sum g (suc r) (closed more (suc r) c.counts i)))) i) i))))))))
      d
