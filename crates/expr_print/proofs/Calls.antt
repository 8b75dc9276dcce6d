-- The forms that are calls of one expression.
use Rattle.std.proofs.Common.{◌≡◌, ℕ, suc, ◌+◌, List, [], ◌∷◌, ◌++◌, Option, Some, None, refl, sym, subst}
use Rattle.std.specs.Prelude.{codes}
use Rattle.std.specs.declared.convert.Infallible.{Infallible}
use Rattle.value_types.specs.declared.value.ColumnType.{ColumnType}
use Rattle.value_types.specs.declared.value.ColumnType.TheVariants as type
use Rattle.ll1_grammar.specs.Table.{entry}
use Rattle.notebook_grammar.specs.declared.kind.Kind.{Kind}
use Rattle.notebook_grammar.specs.declared.kind.Kind.TheVariants as k
use Rattle.notebook_grammar.specs.declared.rule.Rule.TheVariants as rule
use Rattle.notebook_grammar.specs.declared.rule.ExprRule.TheVariants as e
use Rattle.notebook_grammar.specs.declared.action.ExprAction.{ExprAction}
use Rattle.notebook_grammar.specs.declared.action.ExprAction.TheVariants as e_act
use Rattle.notebook_grammar.specs.declared.lexeme.Lexeme.{Lexeme}
use Rattle.notebook_grammar.specs.Kinds.{code_of}
use Rattle.notebook_grammar.specs.Rows.{token, expr, expr_in, expr_do}
use Rattle.notebook_grammar.specs.Expressions as expressions
use Rattle.notebook_grammar.specs.Lexemes.{calls_with}
use Rattle.notebook_grammar.specs.Limits.{after_expr}
use Rattle.expr_lang.specs.declared.expr.Expr.{Expr}
use Rattle.expr_lang.specs.declared.expr.Expr.TheVariants as made
use Rattle.expr_lang.specs.declared.ops.UnaryOp.TheVariants as op
use Rattle.expr_parse.specs.declared.piece.Piece.TheVariants as piece
use Rattle.expr_parse.specs.Values.{value_of, type_of, type_name, quoted_of}
use Rattle.expr_parse.specs.Pieces.{did}
use Rattle.expr_print.specs.Tokens.{tokens, call, quoted}
use Rattle.expr_print.specs.Printable.{CountsFrom}
use Rattle.expr_print.proofs.Reading.{kind_in, Reads}
use Rattle.expr_print.proofs.Giving.{Pieces, rule_at, token_at, action, flat}
use Rattle.expr_print.proofs.Parts.{Part, Bounds}
use Rattle.expr_print.proofs.Following.{Both, regrouped, acting, othered, valued, worded, met, as_or}
use Rattle.expr_print.proofs.Operators.{aim, finished}

-- what is asked of a function's word and of its action, which makes this of its operand
pub record IsFunction (name : List ℕ) (make : Expr → Expr) : Type 0 where
  pub kind : Kind
  pub act : ExprAction
  pub row : entry (code_of kind) (expressions.alternatives e.Atom) ≡ Some (token k.Open ∷ expr_in e.Or ∷ token k.Close ∷ expr_do act ∷ [])
  pub its : kind_in name ≡ Some kind
  pub quiet : (n : ℕ) → calls_with kind n ≡ n
  pub silent : (n : ℕ) → value_of {M = Infallible} kind name n ≡ None
  pub keeps : (count : Option ℕ) → after_expr act count ≡ count
  pub does : (x : Expr) (st : Pieces) → did act (piece.Tree x ∷ st) ≡ Some (piece.Tree (make x) ∷ st)

pub length_is : IsFunction (codes "LENGTH") (made.Unary op.Length)
length_is = record { kind = k.Length; act = e_act.Length; row = refl; its = refl; quiet = λ n. refl; silent = λ n. refl; keeps = λ n. refl; does = λ x st. refl }

pub trim_is : IsFunction (codes "TRIM") (made.Unary op.Trim)
trim_is = record { kind = k.Trim; act = e_act.Trim; row = refl; its = refl; quiet = λ n. refl; silent = λ n. refl; keeps = λ n. refl; does = λ x st. refl }

pub abs_is : IsFunction (codes "ABS") (made.Unary op.Abs)
abs_is = record { kind = k.Abs; act = e_act.Abs; row = refl; its = refl; quiet = λ n. refl; silent = λ n. refl; keeps = λ n. refl; does = λ x st. refl }

pub sum_is : IsFunction (codes "SUM") made.Sum
sum_is = record { kind = k.Sum; act = e_act.Sum; row = refl; its = refl; quiet = λ n. refl; silent = λ n. refl; keeps = λ n. refl; does = λ x st. refl }

pub min_is : IsFunction (codes "MIN") made.Min
min_is = record { kind = k.Min; act = e_act.Min; row = refl; its = refl; quiet = λ n. refl; silent = λ n. refl; keeps = λ n. refl; does = λ x st. refl }

pub max_is : IsFunction (codes "MAX") made.Max
max_is = record { kind = k.Max; act = e_act.Max; row = refl; its = refl; quiet = λ n. refl; silent = λ n. refl; keeps = λ n. refl; does = λ x st. refl }

-- the word of a type is one
pub type_kind : (t : ColumnType) → kind_in (type_name t) ≡ Some k.TypeWord
type_kind type.Bool = refl
type_kind type.Int = refl
type_kind type.Fixed = refl
type_kind type.Text = refl

type_back : (t : ColumnType) → type_of (type_name t) ≡ t
type_back type.Bool = refl
type_back type.Int = refl
type_back type.Fixed = refl
type_back type.Text = refl

module _ {text : List ℕ} (r : ℕ) {before last : ℕ} {st : Pieces} {ls : List Lexeme} (more : List ℕ) where
  pub function : (name : List ℕ) (make : Expr → Expr) → IsFunction name make → (a : Part text) → Bounds text r before (a ∷ []) more → Reads text before (call name (tokens a.0)) ls last
      → Both (aim text (make a.0) st last more) (rule_at (suc r) e.Atom ∷ []) ls st
  function name make is a b d =
      let g = aim text (make a.0) st last more in
      worded g (suc r) (rule.Expr e.Atom) is.kind (token k.Open ∷ expr_in e.Or ∷ token k.Close ∷ expr_do is.act ∷ []) [] is.row refl name is.its (is.quiet before) (is.silent before)
      (λ rest i. met g (suc r) k.Open _ refl (codes "(") refl refl refl
      (λ rest i. as_or g r a (codes ")" ∷ []) _ b
      (λ m c rest i. met g (suc r) k.Close _ refl (codes ")") refl refl refl
      (λ rest i. acting g is.act _ is.keeps (is.does a.0 st) (finished more c.counts i)) i) i) i)
      d

  pub cast : (a : Part text) (t : ColumnType) → Bounds text r before (a ∷ []) more → Reads text before (call (codes "CAST") (tokens a.0 ++ codes "AS" ∷ type_name t ∷ [])) ls last
      → Both (aim text (made.Cast a.0 t) st last more) (rule_at (suc r) e.Atom ∷ []) ls st
  cast a t b d =
      let g = aim text (made.Cast a.0 t) st last more in
      worded g (suc r) (rule.Expr e.Atom) k.Cast (token k.Open ∷ expr_in e.Or ∷ token k.As ∷ token k.TypeWord ∷ token k.Close ∷ expr_do e_act.Cast ∷ []) [] refl refl (codes "CAST") refl refl refl
      (λ rest i. met g (suc r) k.Open _ refl (codes "(") refl refl refl
      (λ rest i. as_or g r a (codes "AS" ∷ type_name t ∷ codes ")" ∷ []) _ b
      (λ m c rest i. met g (suc r) k.As _ refl (codes "AS") refl refl refl
      (λ rest i. valued g (suc r) (rule.Expect k.TypeWord) k.TypeWord [] (token_at (suc r) k.Close ∷ action e_act.Cast ∷ []) refl refl (type_name t) (type_kind t) m refl
      (λ rest i. subst (λ x. Both g (token_at (suc r) k.Close ∷ action e_act.Cast ∷ []) rest (piece.TypeWord x ∷ piece.Tree a.0 ∷ st)) (sym (type_back t))
      (met g (suc r) k.Close _ refl (codes ")") refl refl refl
      (λ rest i. acting g e_act.Cast _ (λ n. refl) refl (finished more c.counts i)) i)) i) i)
      (regrouped (tokens a.0) (codes "AS" ∷ type_name t ∷ []) (codes ")" ∷ []) i)) i)
      d

  pub count_all : CountsFrom (before + 1) more → Reads text before (call (codes "COUNT") (codes "*" ∷ [])) ls last
      → Both (aim text made.CountAll st last more) (rule_at (suc r) e.Atom ∷ []) ls st
  count_all c d =
      let g = aim text made.CountAll st last more in
      worded g (suc r) (rule.Expr e.Atom) k.Count (token k.Open ∷ expr_in e.CountTail ∷ token k.Close ∷ []) [] refl refl (codes "COUNT") refl refl refl
      (λ rest i. met g (suc r) k.Open _ refl (codes "(") refl refl refl
      (λ rest i. worded g r (rule.Expr e.CountTail) k.Star (expr_do e_act.CountAll ∷ []) _ refl (flat r _ refl) (codes "*") refl refl refl
      (λ rest i. acting g e_act.CountAll _ (λ n. refl) refl
      (met g (suc r) k.Close _ refl (codes ")") refl refl refl (λ rest i. finished more c i) i)) i) i)
      d

  pub count : (a : Part text) → Bounds text r before (a ∷ []) more → Reads text before (call (codes "COUNT") (tokens a.0)) ls last
      → Both (aim text (made.Count a.0) st last more) (rule_at (suc r) e.Atom ∷ []) ls st
  count a b d =
      let g = aim text (made.Count a.0) st last more in
      worded g (suc r) (rule.Expr e.Atom) k.Count (token k.Open ∷ expr_in e.CountTail ∷ token k.Close ∷ []) [] refl refl (codes "COUNT") refl refl refl
      (λ rest i. met g (suc r) k.Open _ refl (codes "(") refl refl refl
      (λ rest i. othered g r e.CountTail (expr e.Or ∷ expr_do e_act.Count ∷ []) refl refl
      (as_or g r a (codes ")" ∷ []) _ b
      (λ m c rest i. acting g e_act.Count _ (λ n. refl) refl
      (met g (suc r) k.Close _ refl (codes ")") refl refl refl (λ rest i. finished more c.counts i) i)) i)) i)
      d

  -- its number stands before those in its operand
  pub caveat : (a : Part text) (message : List ℕ) (number : ℕ) → kind_in (quoted message) ≡ Some k.Quoted → quoted_of (quoted message) ≡ message → number ≡ before + 1
      → Bounds text r (before + 1) (a ∷ []) more → Reads text before (call (codes "CAVEAT") (tokens a.0 ++ codes "," ∷ quoted message ∷ [])) ls last
      → Both (aim text (made.Caveat a.0 message number) st last more) (rule_at (suc r) e.Atom ∷ []) ls st
  caveat a message number kind back is b d =
      let g = aim text (made.Caveat a.0 message number) st last more in
      valued g (suc r) (rule.Expr e.Atom) k.Caveat (token k.Open ∷ expr_in e.Or ∷ token k.Comma ∷ token k.Quoted ∷ token k.Close ∷ expr_do e_act.Caveat ∷ []) [] refl refl (codes "CAVEAT") refl (before + 1) refl
      (λ rest i. subst (λ x. Both g (token_at (suc r) k.Open ∷ rule_at r e.Or ∷ token_at (suc r) k.Comma ∷ token_at (suc r) k.Quoted ∷ token_at (suc r) k.Close ∷ action e_act.Caveat ∷ []) rest (piece.Call x ∷ st)) is
      (met g (suc r) k.Open _ refl (codes "(") refl refl refl
      (λ rest i. as_or g r a (codes "," ∷ quoted message ∷ codes ")" ∷ []) _ b
      (λ m c rest i. met g (suc r) k.Comma _ refl (codes ",") refl refl refl
      (λ rest i. valued g (suc r) (rule.Expect k.Quoted) k.Quoted [] (token_at (suc r) k.Close ∷ action e_act.Caveat ∷ []) refl refl (quoted message) kind m refl
      (λ rest i. subst (λ x. Both g (token_at (suc r) k.Close ∷ action e_act.Caveat ∷ []) rest (piece.Quoted x ∷ piece.Tree a.0 ∷ piece.Call number ∷ st)) (sym back)
      (met g (suc r) k.Close _ refl (codes ")") refl refl refl
      (λ rest i. acting g e_act.Caveat _ (λ n. refl) refl (finished more c.counts i)) i)) i) i)
      (regrouped (tokens a.0) (codes "," ∷ quoted message ∷ []) (codes ")" ∷ []) i)) i))
      d
