-- Operators between two operands, in their parentheses.
use Rattle.std.proofs.Common.{◌≡◌, ℕ, suc, ◌+◌, List, [], ◌∷◌, ◌++◌, Option, Some, None, refl}
use Rattle.std.specs.Prelude.{codes}
use Rattle.std.specs.declared.convert.Infallible.{Infallible}
use Rattle.ll1_grammar.specs.Table.{entry}
use Rattle.notebook_grammar.specs.declared.kind.Kind.{Kind}
use Rattle.notebook_grammar.specs.declared.kind.Kind.TheVariants as k
use Rattle.notebook_grammar.specs.declared.rule.Rule.TheVariants as rule
use Rattle.notebook_grammar.specs.declared.rule.ExprRule.{ExprRule}
use Rattle.notebook_grammar.specs.declared.rule.ExprRule.TheVariants as e
use Rattle.notebook_grammar.specs.declared.action.ExprAction.{ExprAction}
use Rattle.notebook_grammar.specs.declared.action.ExprAction.TheVariants as e_act
use Rattle.notebook_grammar.specs.declared.lexeme.Lexeme.{Lexeme}
use Rattle.notebook_grammar.specs.Kinds.{code_of}
use Rattle.notebook_grammar.specs.Rows.{Items, expr, expr_do}
use Rattle.notebook_grammar.specs.Expressions as expressions
use Rattle.notebook_grammar.specs.Lexemes.{calls_with}
use Rattle.notebook_grammar.specs.Language.{Symbols}
use Rattle.notebook_grammar.specs.Limits.{after_expr}
use Rattle.expr_lang.specs.declared.ops.BinaryOp.{BinaryOp}
use Rattle.expr_lang.specs.declared.ops.BinaryOp.TheVariants as two
use Rattle.expr_lang.specs.declared.expr.Expr.{Expr}
use Rattle.expr_lang.specs.declared.expr.Expr.TheVariants as made
use Rattle.expr_parse.specs.declared.piece.Piece.TheVariants as piece
use Rattle.expr_parse.specs.Values.{value_of}
use Rattle.expr_parse.specs.Pieces.{did}
use Rattle.expr_print.specs.Tokens.{Tokens, tokens, operator, in_parens}
use Rattle.expr_print.specs.Printable.{CountsFrom}
use Rattle.expr_print.proofs.Reading.{kind_in, Reads, none}
use Rattle.expr_print.proofs.Giving.{Pieces, done, rule_at, token_at, action, flat}
use Rattle.expr_print.proofs.Parts.{Part, Bounds}
use Rattle.expr_print.proofs.Following.{Aim, Both, After, Onward, acting, emptied, worded, met, first, as_signed, as_product, as_sum, as_joined, as_not, as_and}

-- the aim of an expression: one piece, its tree
abbrev pub aim : List ℕ → Expr → Pieces → ℕ → List ℕ → Aim
aim text x st last more = record { text = text; end = piece.Tree x ∷ st; last = last; besides = CountsFrom (last + 1) more }

-- nothing is left
pub finished : {text : List ℕ} {x : Expr} {st : Pieces} {before last : ℕ} {ls : List Lexeme} (more : List ℕ) → CountsFrom (before + 1) more → Reads text before [] ls last
    → Both (aim text x st last more) [] ls (piece.Tree x ∷ st)
finished more c none = (done, c)

module _ (g : Aim) (r : ℕ) {s : Symbols} {ls : List Lexeme} {st : Pieces} where
  -- ---- no operator of a rule, or of a looser one

  pub past_or : Both g s ls st → Both g (rule_at r e.OrTail ∷ s) ls st
  past_or p = emptied g r e.OrTail refl p

  pub past_and : Both g s ls st → Both g (rule_at r e.AndTail ∷ rule_at r e.OrTail ∷ s) ls st
  past_and p = emptied g r e.AndTail refl (past_or p)

  pub past_comparison : Both g s ls st → Both g (rule_at r e.ComparisonTail ∷ rule_at r e.AndTail ∷ rule_at r e.OrTail ∷ s) ls st
  past_comparison p = emptied g r e.ComparisonTail refl (past_and p)

  pub past_joined : Both g s ls st → Both g (rule_at r e.JoinedTail ∷ rule_at r e.ComparisonTail ∷ rule_at r e.AndTail ∷ rule_at r e.OrTail ∷ s) ls st
  past_joined p = emptied g r e.JoinedTail refl (past_comparison p)

  pub past_sum : Both g s ls st → Both g (rule_at r e.SumTail ∷ rule_at r e.JoinedTail ∷ rule_at r e.ComparisonTail ∷ rule_at r e.AndTail ∷ rule_at r e.OrTail ∷ s) ls st
  past_sum p = emptied g r e.SumTail refl (past_joined p)

-- ---- parentheses

module _ {text : List ℕ} {x : Expr} {st : Pieces} {last : ℕ} {before : ℕ} {ls : List Lexeme} (more : List ℕ) (r : ℕ) where
  -- what is in parentheses, at a level more
  pub inside : (inner : Tokens) → After (aim text x st last more) before (inner ++ codes ")" ∷ []) (rule_at r e.Or ∷ token_at (suc r) k.Close ∷ []) st
      → Reads text before (in_parens inner) ls last → Both (aim text x st last more) (rule_at (suc r) e.Atom ∷ []) ls st
  inside inner after d = worded (aim text x st last more) (suc r) (rule.Expr e.Atom) k.Open _ [] refl refl (codes "(") refl refl refl after d

  -- their end
  pub closed : CountsFrom (before + 1) more → Reads text before (codes ")" ∷ []) ls last → Both (aim text x st last more) (token_at (suc r) k.Close ∷ []) ls (piece.Tree x ∷ st)
  closed c d = met (aim text x st last more) (suc r) k.Close [] refl (codes ")") refl refl refl (λ rest i. finished more c i) d

-- ---- operators

-- what is asked of an operator's token and of its action
record IsOperator (r : ExprRule) (operand : ExprRule) (again : Items) (op : BinaryOp) : Type 0 where
  kind : Kind
  act : ExprAction
  row : entry (code_of kind) (expressions.alternatives r) ≡ Some (expr operand ∷ expr_do act ∷ again)
  its : kind_in (operator op) ≡ Some kind
  quiet : (n : ℕ) → calls_with kind n ≡ n
  silent : (n : ℕ) → value_of {M = Infallible} kind (operator op) n ≡ None
  keeps : (count : Option ℕ) → after_expr act count ≡ count
  does : (a b : Expr) (st : Pieces) → did act (piece.Tree b ∷ piece.Tree a ∷ st) ≡ Some (piece.Tree (made.Binary op a b) ∷ st)

module _ (g : Aim) (r : ℕ) (op : BinaryOp) {before : ℕ} (a b : Part g.text) {more : List ℕ} (us : Tokens) {ls : List Lexeme} {st : Pieces} (s : Symbols)
    (bounds : Bounds g.text r before (a ∷ b ∷ []) more) (onward : Onward g r [] more us s (piece.Tree (made.Binary op a.0 b.0) ∷ st))
    (d : Reads g.text before (tokens a.0 ++ (operator op ∷ (tokens b.0 ++ us))) ls g.last) where
  abbrev Result : Type 0
  Result = Both g (rule_at r e.Or ∷ s) ls st

  abbrev after_and : Symbols
  after_and = rule_at r e.OrTail ∷ s

  abbrev after_not : Symbols
  after_not = rule_at r e.AndTail ∷ after_and

  abbrev after_joined : Symbols
  after_joined = rule_at r e.ComparisonTail ∷ after_not

  abbrev after_sum : Symbols
  after_sum = rule_at r e.JoinedTail ∷ after_joined

  abbrev after_product : Symbols
  after_product = rule_at r e.SumTail ∷ after_sum

  by_or : IsOperator e.OrTail e.And (expr e.OrTail ∷ []) op → Result
  by_or is = first g r a (operator op ∷ (tokens b.0 ++ us)) s bounds
      (λ m c rest i.
      emptied g r e.ProductTail refl (emptied g r e.SumTail refl (emptied g r e.JoinedTail refl (emptied g r e.ComparisonTail refl (emptied g r e.AndTail refl
      (worded g r (rule.Expr e.OrTail) is.kind (expr e.And ∷ expr_do is.act ∷ expr e.OrTail ∷ []) s is.row (flat r _ refl) (operator op) is.its (is.quiet m) (is.silent m)
      (λ rest j. as_and g r b us (action is.act ∷ after_and) c
      (λ m c rest l. acting g is.act _ is.keeps (is.does a.0 b.0 st) (past_or g r (onward m c rest l))) j) i))))))
      d

  by_and : IsOperator e.AndTail e.Not (expr e.AndTail ∷ []) op → Result
  by_and is = first g r a (operator op ∷ (tokens b.0 ++ us)) s bounds
      (λ m c rest i.
      emptied g r e.ProductTail refl (emptied g r e.SumTail refl (emptied g r e.JoinedTail refl (emptied g r e.ComparisonTail refl
      (worded g r (rule.Expr e.AndTail) is.kind (expr e.Not ∷ expr_do is.act ∷ expr e.AndTail ∷ []) after_and is.row (flat r _ refl) (operator op) is.its (is.quiet m) (is.silent m)
      (λ rest j. as_not g r b us (action is.act ∷ after_not) c
      (λ m c rest l. acting g is.act _ is.keeps (is.does a.0 b.0 st) (past_and g r (onward m c rest l))) j) i)))))
      d

  by_comparison : IsOperator e.ComparisonTail e.Joined [] op → Result
  by_comparison is = first g r a (operator op ∷ (tokens b.0 ++ us)) s bounds
      (λ m c rest i.
      emptied g r e.ProductTail refl (emptied g r e.SumTail refl (emptied g r e.JoinedTail refl
      (worded g r (rule.Expr e.ComparisonTail) is.kind (expr e.Joined ∷ expr_do is.act ∷ []) after_not is.row (flat r _ refl) (operator op) is.its (is.quiet m) (is.silent m)
      (λ rest j. as_joined g r b us (action is.act ∷ after_not) c
      (λ m c rest l. acting g is.act _ is.keeps (is.does a.0 b.0 st) (past_and g r (onward m c rest l))) j) i))))
      d

  by_joined : IsOperator e.JoinedTail e.Sum (expr e.JoinedTail ∷ []) op → Result
  by_joined is = first g r a (operator op ∷ (tokens b.0 ++ us)) s bounds
      (λ m c rest i.
      emptied g r e.ProductTail refl (emptied g r e.SumTail refl
      (worded g r (rule.Expr e.JoinedTail) is.kind (expr e.Sum ∷ expr_do is.act ∷ expr e.JoinedTail ∷ []) after_joined is.row (flat r _ refl) (operator op) is.its (is.quiet m) (is.silent m)
      (λ rest j. as_sum g r b us (action is.act ∷ after_sum) c
      (λ m c rest l. acting g is.act _ is.keeps (is.does a.0 b.0 st) (past_joined g r (onward m c rest l))) j) i)))
      d

  by_sum : IsOperator e.SumTail e.Product (expr e.SumTail ∷ []) op → Result
  by_sum is = first g r a (operator op ∷ (tokens b.0 ++ us)) s bounds
      (λ m c rest i.
      emptied g r e.ProductTail refl
      (worded g r (rule.Expr e.SumTail) is.kind (expr e.Product ∷ expr_do is.act ∷ expr e.SumTail ∷ []) after_sum is.row (flat r _ refl) (operator op) is.its (is.quiet m) (is.silent m)
      (λ rest j. as_product g r b us (action is.act ∷ after_product) c
      (λ m c rest l. acting g is.act _ is.keeps (is.does a.0 b.0 st) (past_sum g r (onward m c rest l))) j) i))
      d

  by_product : IsOperator e.ProductTail e.Signed (expr e.ProductTail ∷ []) op → Result
  by_product is = first g r a (operator op ∷ (tokens b.0 ++ us)) s bounds
      (λ m c rest i.
      worded g r (rule.Expr e.ProductTail) is.kind (expr e.Signed ∷ expr_do is.act ∷ expr e.ProductTail ∷ []) after_product is.row (flat r _ refl) (operator op) is.its (is.quiet m) (is.silent m)
      (λ rest j. as_signed g r b us (action is.act ∷ rule_at r e.ProductTail ∷ after_product) c
      (λ m c rest l. acting g is.act _ is.keeps (is.does a.0 b.0 st) (emptied g r e.ProductTail refl (past_sum g r (onward m c rest l)))) j) i)
      d

-- each operator at its rule
pub operated : (g : Aim) (r : ℕ) (op : BinaryOp) {before : ℕ} (a b : Part g.text) {more : List ℕ} (us : Tokens) {ls : List Lexeme} {st : Pieces} (s : Symbols)
    → Bounds g.text r before (a ∷ b ∷ []) more → Onward g r [] more us s (piece.Tree (made.Binary op a.0 b.0) ∷ st)
    → Reads g.text before (tokens a.0 ++ (operator op ∷ (tokens b.0 ++ us))) ls g.last → Both g (rule_at r e.Or ∷ s) ls st
operated g r two.Or a b us s c onward d =
    by_or g r two.Or a b us s c onward d (record { kind = k.Or; act = e_act.Or; row = refl; its = refl; quiet = λ n. refl; silent = λ n. refl; keeps = λ n. refl; does = λ a b st. refl })
operated g r two.And a b us s c onward d =
    by_and g r two.And a b us s c onward d (record { kind = k.And; act = e_act.And; row = refl; its = refl; quiet = λ n. refl; silent = λ n. refl; keeps = λ n. refl; does = λ a b st. refl })
operated g r two.Equal a b us s c onward d =
    by_comparison g r two.Equal a b us s c onward d (record { kind = k.Equal; act = e_act.Equal; row = refl; its = refl; quiet = λ n. refl; silent = λ n. refl; keeps = λ n. refl; does = λ a b st. refl })
operated g r two.NotEqual a b us s c onward d =
    by_comparison g r two.NotEqual a b us s c onward d (record { kind = k.NotEqual; act = e_act.NotEqual; row = refl; its = refl; quiet = λ n. refl; silent = λ n. refl; keeps = λ n. refl; does = λ a b st. refl })
operated g r two.Less a b us s c onward d =
    by_comparison g r two.Less a b us s c onward d (record { kind = k.Less; act = e_act.Less; row = refl; its = refl; quiet = λ n. refl; silent = λ n. refl; keeps = λ n. refl; does = λ a b st. refl })
operated g r two.AtMost a b us s c onward d =
    by_comparison g r two.AtMost a b us s c onward d (record { kind = k.AtMost; act = e_act.AtMost; row = refl; its = refl; quiet = λ n. refl; silent = λ n. refl; keeps = λ n. refl; does = λ a b st. refl })
operated g r two.Greater a b us s c onward d =
    by_comparison g r two.Greater a b us s c onward d (record { kind = k.Greater; act = e_act.Greater; row = refl; its = refl; quiet = λ n. refl; silent = λ n. refl; keeps = λ n. refl; does = λ a b st. refl })
operated g r two.AtLeast a b us s c onward d =
    by_comparison g r two.AtLeast a b us s c onward d (record { kind = k.AtLeast; act = e_act.AtLeast; row = refl; its = refl; quiet = λ n. refl; silent = λ n. refl; keeps = λ n. refl; does = λ a b st. refl })
operated g r two.Concat a b us s c onward d =
    by_joined g r two.Concat a b us s c onward d (record { kind = k.Bars; act = e_act.Concat; row = refl; its = refl; quiet = λ n. refl; silent = λ n. refl; keeps = λ n. refl; does = λ a b st. refl })
operated g r two.Add a b us s c onward d =
    by_sum g r two.Add a b us s c onward d (record { kind = k.Plus; act = e_act.Add; row = refl; its = refl; quiet = λ n. refl; silent = λ n. refl; keeps = λ n. refl; does = λ a b st. refl })
operated g r two.Subtract a b us s c onward d =
    by_sum g r two.Subtract a b us s c onward d (record { kind = k.Minus; act = e_act.Subtract; row = refl; its = refl; quiet = λ n. refl; silent = λ n. refl; keeps = λ n. refl; does = λ a b st. refl })
operated g r two.Multiply a b us s c onward d =
    by_product g r two.Multiply a b us s c onward d (record { kind = k.Star; act = e_act.Multiply; row = refl; its = refl; quiet = λ n. refl; silent = λ n. refl; keeps = λ n. refl; does = λ a b st. refl })
operated g r two.Divide a b us s c onward d =
    by_product g r two.Divide a b us s c onward d (record { kind = k.Slash; act = e_act.Divide; row = refl; its = refl; quiet = λ n. refl; silent = λ n. refl; keeps = λ n. refl; does = λ a b st. refl })
operated g r two.Remainder a b us s c onward d =
    by_product g r two.Remainder a b us s c onward d (record { kind = k.Percent; act = e_act.Remainder; row = refl; its = refl; quiet = λ n. refl; silent = λ n. refl; keeps = λ n. refl; does = λ a b st. refl })
