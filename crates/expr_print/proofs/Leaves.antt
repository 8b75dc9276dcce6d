-- The forms with no parts: values and columns.
use Rattle.std.proofs.Common.{◌≡◌, ℕ, ◌+◌, true, false, List, [], ◌∷◌, Some, None, refl, sym, ap, ◌∙◌, subst}
use Rattle.std.specs.Prelude.{codes, pos, negsuc, decimal}
use Rattle.std.proofs.lemmas.Bool.{and_parts}
use Rattle.value_types.specs.declared.value.Value.{Value}
use Rattle.value_types.specs.declared.value.Value.TheVariants as value
use Rattle.value_types.specs.Names.{is_name}
use Rattle.value_types.specs.Text.{magnitude_text}
use Rattle.notebook_grammar.specs.declared.kind.Kind.{Kind}
use Rattle.notebook_grammar.specs.declared.kind.Kind.TheVariants as k
use Rattle.notebook_grammar.specs.declared.rule.Rule.TheVariants as rule
use Rattle.notebook_grammar.specs.declared.rule.ExprRule.TheVariants as e
use Rattle.notebook_grammar.specs.declared.action.ExprAction.TheVariants as e_act
use Rattle.notebook_grammar.specs.declared.lexeme.Lexeme.{Lexeme}
use Rattle.notebook_grammar.specs.Words.{kind_of_word}
use Rattle.notebook_grammar.specs.Rows.{expr, expr_do}
use Rattle.notebook_grammar.specs.Language.{Symbols}
use Rattle.expr_lang.specs.declared.expr.Expr.TheVariants as made
use Rattle.expr_parse.specs.declared.piece.Piece.TheVariants as piece
use Rattle.expr_parse.specs.Values.{lowered, type_of, type_name}
use Rattle.expr_print.specs.Tokens.{Tokens, literal, quoted}
use Rattle.expr_print.specs.Printable.{CountsFrom, is_literal, is_free, may_name}
use Rattle.expr_print.proofs.Reading.{kind_in, Reads}
use Rattle.expr_print.proofs.Quotes.{quoted_kind, quoted_back}
use Rattle.expr_print.proofs.Numbers.{whole_kind, whole_back, decimal_kind, decimal_back}
use Rattle.expr_print.proofs.Names.{name_kind, name_back, type_word_back}
use Rattle.expr_print.proofs.Giving.{Pieces, rule_at, action, flat}
use Rattle.expr_print.proofs.Following.{Aim, Both, After, acting, othered, valued, worded}
use Rattle.expr_print.proofs.Operators.{aim, finished}

-- ---- what a name is

-- the word of no type, or of the type that has it
pub data Named (name : List ℕ) : Type 0 where
  plain : kind_in name ≡ Some k.Name → lowered name ≡ name → Named name
  typed : kind_in name ≡ Some k.TypeWord → type_name (type_of name) ≡ name → Named name

pub named : (name : List ℕ) → may_name name ≡ true → Named name
named name e = go (kind_of_word name) refl free
  where
    is : is_name name ≡ true
    is = (and_parts (is_name name) (is_free (kind_of_word name)) e).0

    free : is_free (kind_of_word name) ≡ true
    free = (and_parts (is_name name) (is_free (kind_of_word name)) e).1

    go : (kind : Kind) → kind_of_word name ≡ kind → is_free kind ≡ true → Named name
    go k.Name q f = plain (name_kind name is ∙ ap (λ x. Some x) q) (name_back name is)
    go k.TypeWord q f = typed (name_kind name is ∙ ap (λ x. Some x) q) (type_word_back name is q)
    go kind q f = cc

pub name_tokens : (name : List ℕ) → Named name → (kind : Kind) × (kind_in name ≡ Some kind)
name_tokens name (plain h i) = (k.Name, h)
name_tokens name (typed h i) = (k.TypeWord, h)

module _ (g : Aim) (r : ℕ) {before : ℕ} {us : Tokens} {ls : List Lexeme} {st : Pieces} (s : Symbols) (name : List ℕ) where
  -- a name with which an atom begins
  first_name : Named name → After g before us (rule_at r e.NameTail ∷ s) (piece.Name name ∷ st) → Reads g.text before (name ∷ us) ls g.last → Both g (rule_at r e.Atom ∷ s) ls st
  first_name (plain h i) after d =
      valued g r (rule.Expr e.Atom) k.Name (expr e.NameTail ∷ []) s refl (flat r _ refl) name h before refl
      (λ rest j. subst (λ x. Both g (rule_at r e.NameTail ∷ s) rest (piece.Name x ∷ st)) (sym i) (after rest j)) d
  first_name (typed h i) after d =
      valued g r (rule.Expr e.Atom) k.TypeWord (expr_do e_act.TypeAsName ∷ expr e.NameTail ∷ []) s refl (flat r _ refl) name h before refl
      (λ rest j. acting g e_act.TypeAsName _ (λ n. refl) refl (subst (λ x. Both g (rule_at r e.NameTail ∷ s) rest (piece.Name x ∷ st)) (sym i) (after rest j))) d

  -- a name after a point
  second_name : Named name → After g before us s (piece.Name name ∷ st) → Reads g.text before (name ∷ us) ls g.last → Both g (rule_at r e.Name ∷ s) ls st
  second_name (plain h i) after d =
      valued g r (rule.Expr e.Name) k.Name [] s refl (flat r _ refl) name h before refl
      (λ rest j. subst (λ x. Both g s rest (piece.Name x ∷ st)) (sym i) (after rest j)) d
  second_name (typed h i) after d =
      valued g r (rule.Expr e.Name) k.TypeWord (expr_do e_act.TypeAsName ∷ []) s refl (flat r _ refl) name h before refl
      (λ rest j. acting g e_act.TypeAsName _ (λ n. refl) refl (subst (λ x. Both g s rest (piece.Name x ∷ st)) (sym i) (after rest j))) d

module _ {text : List ℕ} (r : ℕ) {before last : ℕ} {st : Pieces} {ls : List Lexeme} (more : List ℕ) (c : CountsFrom (before + 1) more) where
  pub bare_column : (name : List ℕ) → Named name → Reads text before (name ∷ []) ls last → Both (aim text (made.Column None name) st last more) (rule_at r e.Atom ∷ []) ls st
  bare_column name is d =
      let g = aim text (made.Column None name) st last more in
      first_name g r [] name is
      (λ rest i. othered g r e.NameTail (expr_do e_act.Bare ∷ []) refl refl (acting g e_act.Bare _ (λ n. refl) refl (finished more c i)))
      d

  pub qualified_column : (table name : List ℕ) → Named table → Named name → Reads text before (table ∷ codes "." ∷ name ∷ []) ls last
      → Both (aim text (made.Column (Some table) name) st last more) (rule_at r e.Atom ∷ []) ls st
  qualified_column table name of is d =
      let g = aim text (made.Column (Some table) name) st last more in
      first_name g r [] table of
      (λ rest i. worded g r (rule.Expr e.NameTail) k.Point (expr e.Name ∷ expr_do e_act.Qualified ∷ []) [] refl (flat r _ refl) (codes ".") refl refl refl
      (λ rest i. second_name g r (action e_act.Qualified ∷ []) name is
      (λ rest i. acting g e_act.Qualified _ (λ n. refl) refl (finished more c i)) i) i)
      d

  pub literal_value : (v : Value) → is_literal v ≡ true → Reads text before (literal v ∷ []) ls last → Both (aim text (made.Literal v) st last more) (rule_at r e.Atom ∷ []) ls st
  literal_value value.Null h d =
      let g = aim text (made.Literal value.Null) st last more in
      worded g r (rule.Expr e.Atom) k.Null (expr_do e_act.Null ∷ []) [] refl (flat r _ refl) (codes "NULL") refl refl refl
      (λ rest i. acting g e_act.Null _ (λ n. refl) refl (finished more c i)) d
  literal_value (value.Bool true) h d =
      let g = aim text (made.Literal (value.Bool true)) st last more in
      worded g r (rule.Expr e.Atom) k.True (expr_do e_act.True ∷ []) [] refl (flat r _ refl) (codes "TRUE") refl refl refl
      (λ rest i. acting g e_act.True _ (λ n. refl) refl (finished more c i)) d
  literal_value (value.Bool false) h d =
      let g = aim text (made.Literal (value.Bool false)) st last more in
      worded g r (rule.Expr e.Atom) k.False (expr_do e_act.False ∷ []) [] refl (flat r _ refl) (codes "FALSE") refl refl refl
      (λ rest i. acting g e_act.False _ (λ n. refl) refl (finished more c i)) d
  literal_value (value.Int (pos n)) h d =
      let g = aim text (made.Literal (value.Int (pos n))) st last more in
      valued g r (rule.Expr e.Atom) k.Whole (expr_do e_act.Whole ∷ []) [] refl (flat r _ refl) (decimal n) (whole_kind n h) before refl
      (λ rest i. subst (λ x. Both g (action e_act.Whole ∷ []) rest (piece.Whole x ∷ st)) (sym (whole_back n h)) (acting g e_act.Whole _ (λ n. refl) refl (finished more c i))) d
  literal_value (value.Int (negsuc n)) h d = cc
  literal_value (value.Fixed (pos n)) h d =
      let g = aim text (made.Literal (value.Fixed (pos n))) st last more in
      valued g r (rule.Expr e.Atom) k.Decimal (expr_do e_act.Decimal ∷ []) [] refl (flat r _ refl) (magnitude_text n) (decimal_kind n h) before refl
      (λ rest i. subst (λ x. Both g (action e_act.Decimal ∷ []) rest (piece.Decimal x ∷ st)) (sym (decimal_back n h)) (acting g e_act.Decimal _ (λ n. refl) refl (finished more c i))) d
  literal_value (value.Fixed (negsuc n)) h d = cc
  literal_value (value.Text t) h d =
      let g = aim text (made.Literal (value.Text t)) st last more in
      valued g r (rule.Expr e.Atom) k.Quoted (expr_do e_act.Quoted ∷ []) [] refl (flat r _ refl) (quoted t) (quoted_kind t) before refl
      (λ rest i. subst (λ x. Both g (action e_act.Quoted ∷ []) rest (piece.Quoted x ∷ st)) (sym (quoted_back t)) (acting g e_act.Quoted _ (λ n. refl) refl (finished more c i))) d

pub literal_token : (v : Value) → is_literal v ≡ true → (kind : Kind) × (kind_in (literal v) ≡ Some kind)
literal_token value.Null h = (k.Null, refl)
literal_token (value.Bool true) h = (k.True, refl)
literal_token (value.Bool false) h = (k.False, refl)
literal_token (value.Int (pos n)) h = (k.Whole, whole_kind n h)
literal_token (value.Int (negsuc n)) h = cc
literal_token (value.Fixed (pos n)) h = (k.Decimal, decimal_kind n h)
literal_token (value.Fixed (negsuc n)) h = cc
literal_token (value.Text t) h = (k.Quoted, quoted_kind t)
