-- Each form is fine where its parts are.
use Rattle.std.proofs.Common.{◌≡◌, ℕ, zero, suc, ◌+◌, ◌≤◌, Bool, true, false, List, [], ◌∷◌, ◌++◌, Option, Some, None, map, refl, arith}
use Rattle.std.specs.Prelude.{codes, ◌&&◌, max}
use Rattle.std.specs.List.{flat_map, list_all}
use Rattle.std.specs.Option.{option_to_list}
use Rattle.std.proofs.Math.Nat.{le-max_left, le-max_right, max-le}
use Rattle.std.proofs.lemmas.Bool.{and_parts}
use Rattle.value_types.specs.declared.value.Value.{Value}
use Rattle.value_types.specs.declared.value.ColumnType.{ColumnType}
use Rattle.notebook_grammar.specs.declared.kind.Kind.{Kind}
use Rattle.notebook_grammar.specs.declared.kind.Kind.TheVariants as k
use Rattle.notebook_grammar.specs.declared.rule.ExprRule.TheVariants as e
use Rattle.notebook_grammar.specs.declared.lexeme.Lexeme.{Lexeme}
use Rattle.expr_lang.specs.declared.ops.UnaryOp.TheVariants as one
use Rattle.expr_lang.specs.declared.ops.BinaryOp.{BinaryOp}
use Rattle.expr_lang.specs.declared.ops.BinaryOp.TheVariants as two
use Rattle.expr_lang.specs.declared.expr.Expr.{Expr}
use Rattle.expr_lang.specs.declared.expr.Expr.TheOpen.{Expr-F}
use Rattle.expr_lang.specs.declared.expr.Expr.TheVariants as made
use Rattle.expr_parse.specs.Values.{type_name}
use Rattle.expr_print.specs.Tokens.{Tokens, form, tokens, literal, quoted, operator, in_parens, call, negated_if, after_commas, with_commas}
use Rattle.expr_print.specs.Printable.{CountsFrom, most, calls, levels, is_written, is_literal, may_name, is_some_list}
use Rattle.expr_print.proofs.Reading.{kind_in, AreTokens, Reads}
use Rattle.expr_print.proofs.Quotes.{quoted_kind, quoted_back}
use Rattle.expr_print.proofs.Giving.{Pieces, rule_at}
use Rattle.expr_print.proofs.Parts.{Part, IsFine, Bounds, bare}
use Rattle.expr_print.proofs.Following.{Both}
use Rattle.expr_print.proofs.Operators.{aim}
use Rattle.expr_print.proofs.Enclosed.{binary, is_null, like, not, minus}
use Rattle.expr_print.proofs.Lists.{texts, one_of, coalesce}
use Rattle.expr_print.proofs.Calls.{IsFunction, function, cast, count_all, count, caveat, type_kind}
use Rattle.expr_print.proofs.Leaves.{named, name_tokens, bare_column, qualified_column, literal_value, literal_token}

-- ---- all are tokens

pub all_joined : (a b : Tokens) → AreTokens a → AreTokens b → AreTokens (a ++ b)
all_joined [] b p q = q
all_joined (t ∷ a) b p q = (p.0, all_joined a b p.1 q)

-- the kind of a fixed token
abbrev pub is : (t : List ℕ) (kind : Kind) → kind_in t ≡ Some kind → (kind : Kind) × (kind_in t ≡ Some kind)
is t kind e = (kind, e)

pub parens_tokens : (inner : Tokens) → AreTokens inner → AreTokens (in_parens inner)
parens_tokens inner p = (is (codes "(") k.Open refl, all_joined inner (codes ")" ∷ []) p (is (codes ")") k.Close refl, tt))

negated_tokens : (negated : Bool) (after : Tokens) → AreTokens after → AreTokens (negated_if negated after)
negated_tokens true after p = (is (codes "NOT") k.Not refl, p)
negated_tokens false after p = p

operator_token : (op : BinaryOp) → (kind : Kind) × (kind_in (operator op) ≡ Some kind)
operator_token two.Or = (k.Or, refl)
operator_token two.And = (k.And, refl)
operator_token two.Equal = (k.Equal, refl)
operator_token two.NotEqual = (k.NotEqual, refl)
operator_token two.Less = (k.Less, refl)
operator_token two.AtMost = (k.AtMost, refl)
operator_token two.Greater = (k.Greater, refl)
operator_token two.AtLeast = (k.AtLeast, refl)
operator_token two.Concat = (k.Bars, refl)
operator_token two.Add = (k.Plus, refl)
operator_token two.Subtract = (k.Minus, refl)
operator_token two.Multiply = (k.Star, refl)
operator_token two.Divide = (k.Slash, refl)
operator_token two.Remainder = (k.Percent, refl)

-- ---- what the parts have together

abbrev pub numbers : {text : List ℕ} → List (Part text) → List ℕ
numbers ps = flat_map (λ ns. ns) (map calls (bare ps))

abbrev pub deep : {text : List ℕ} → List (Part text) → ℕ
deep ps = most (map levels (bare ps))

abbrev pub written : {text : List ℕ} → List (Part text) → Bool
written ps = list_all (λ b. b) (map is_written (bare ps))

-- the tokens of a part, and of parts with commas
part_tokens : {text : List ℕ} (p : Part text) (ps : List (Part text)) → written (p ∷ ps) ≡ true → AreTokens (tokens p.0)
part_tokens p ps w = (p.1 (and_parts (is_written p.0) (written ps) w).0).0

rest_written : {text : List ℕ} (p : Part text) (ps : List (Part text)) → written (p ∷ ps) ≡ true → written ps ≡ true
rest_written p ps w = (and_parts (is_written p.0) (written ps) w).1

commas_tokens : {text : List ℕ} (ps : List (Part text)) → written ps ≡ true → AreTokens (after_commas (texts ps))
commas_tokens [] w = tt
commas_tokens (p ∷ ps) w = (is (codes ",") k.Comma refl, all_joined (tokens p.0) (after_commas (texts ps)) (part_tokens p ps w) (commas_tokens ps (rest_written p ps w)))

list_tokens : {text : List ℕ} (ps : List (Part text)) → written ps ≡ true → AreTokens (with_commas (texts ps))
list_tokens [] w = tt
list_tokens (p ∷ ps) w = all_joined (tokens p.0) (after_commas (texts ps)) (part_tokens p ps w) (commas_tokens ps (rest_written p ps w))

module _ {text : List ℕ} (x : Expr) (ts : Tokens) (ps : List (Part text)) where
  -- a form that opens one level, and one that opens two
  pub one_level : (written ps ≡ true → AreTokens ts) → ((r before last : ℕ) (more : List ℕ) (ls : List Lexeme) (st : Pieces) → Bounds text r before ps more → Reads text before ts ls last
      → Both (aim text x st last more) (rule_at (suc r) e.Atom ∷ []) ls st) → IsFine text x ts (numbers ps) (1 + deep ps) (written ps)
  one_level are given w = (are w, go)
    where
      go : (room : ℕ) → 1 + deep ps ≤ room → (before last : ℕ) (more : List ℕ) → CountsFrom (before + 1) (numbers ps ++ more) → (ls : List Lexeme) → Reads text before ts ls last → (st : Pieces)
          → Both (aim text x st last more) (rule_at room e.Atom ∷ []) ls st
      go zero fit before last more c ls d st = absurd (omega (arith, fit))
      go (suc r) fit before last more c ls d st = given r before last more ls st (record { written = w; fits = omega (arith, fit); counts = c }) d

  pub two_levels : (written ps ≡ true → AreTokens ts) → ((r before last : ℕ) (more : List ℕ) (ls : List Lexeme) (st : Pieces) → Bounds text r before ps more → Reads text before ts ls last
      → Both (aim text x st last more) (rule_at (suc (suc r)) e.Atom ∷ []) ls st) → IsFine text x ts (numbers ps) (2 + deep ps) (written ps)
  two_levels are given w = (are w, go)
    where
      go : (room : ℕ) → 2 + deep ps ≤ room → (before last : ℕ) (more : List ℕ) → CountsFrom (before + 1) (numbers ps ++ more) → (ls : List Lexeme) → Reads text before ts ls last → (st : Pieces)
          → Both (aim text x st last more) (rule_at room e.Atom ∷ []) ls st
      go zero fit before last more c ls d st = absurd (omega (arith, fit))
      go (suc zero) fit before last more c ls d st = absurd (omega (arith, fit))
      go (suc (suc r)) fit before last more c ls d st = given r before last more ls st (record { written = w; fits = omega (arith, fit); counts = c }) d

-- whether there is one, before and after a map
some_mapped : {A B : Type 0} (f : A → B) (l : List A) → is_some_list (map f l) ≡ true → is_some_list l ≡ true
some_mapped f [] e = cc
some_mapped f (x ∷ l) e = refl

module _ {text : List ℕ} where
  -- ---- operators

  pub binary_fine : (op : BinaryOp) (a b : Part text) → IsFine text (made.Binary op a.0 b.0) (in_parens (tokens a.0 ++ operator op ∷ tokens b.0)) (numbers (a ∷ b ∷ [])) (1 + deep (a ∷ b ∷ [])) (written (a ∷ b ∷ []))
  binary_fine op a b =
      one_level (made.Binary op a.0 b.0) (in_parens (tokens a.0 ++ operator op ∷ tokens b.0)) (a ∷ b ∷ [])
      (λ w. parens_tokens (tokens a.0 ++ operator op ∷ tokens b.0) (all_joined (tokens a.0) (operator op ∷ tokens b.0) (part_tokens a (b ∷ []) w) (operator_token op, part_tokens b [] (rest_written a (b ∷ []) w))))
      (λ r before last more ls st b' d. binary r more op a b b' d)

  pub is_null_fine : (negated : Bool) (a : Part text) → IsFine text (made.IsNull a.0 negated) (in_parens (tokens a.0 ++ codes "IS" ∷ negated_if negated (codes "NULL" ∷ []))) (numbers (a ∷ [])) (1 + deep (a ∷ [])) (written (a ∷ []))
  is_null_fine negated a =
      one_level (made.IsNull a.0 negated) (in_parens (tokens a.0 ++ codes "IS" ∷ negated_if negated (codes "NULL" ∷ []))) (a ∷ [])
      (λ w. parens_tokens (tokens a.0 ++ codes "IS" ∷ negated_if negated (codes "NULL" ∷ []))
      (all_joined (tokens a.0) (codes "IS" ∷ negated_if negated (codes "NULL" ∷ [])) (part_tokens a [] w) (is (codes "IS") k.Is refl, negated_tokens negated (codes "NULL" ∷ []) (is (codes "NULL") k.Null refl, tt))))
      (λ r before last more ls st b d. is_null r more negated a b d)

  pub like_fine : (negated : Bool) (a b : Part text) → IsFine text (made.Like a.0 b.0 negated) (in_parens (tokens a.0 ++ negated_if negated (codes "LIKE" ∷ tokens b.0))) (numbers (a ∷ b ∷ [])) (1 + deep (a ∷ b ∷ [])) (written (a ∷ b ∷ []))
  like_fine negated a b =
      one_level (made.Like a.0 b.0 negated) (in_parens (tokens a.0 ++ negated_if negated (codes "LIKE" ∷ tokens b.0))) (a ∷ b ∷ [])
      (λ w. parens_tokens (tokens a.0 ++ negated_if negated (codes "LIKE" ∷ tokens b.0))
      (all_joined (tokens a.0) (negated_if negated (codes "LIKE" ∷ tokens b.0)) (part_tokens a (b ∷ []) w)
      (negated_tokens negated (codes "LIKE" ∷ tokens b.0) (is (codes "LIKE") k.Like refl, part_tokens b [] (rest_written a (b ∷ []) w)))))
      (λ r before last more ls st b' d. like r more negated a b b' d)

  pub not_fine : (a : Part text) → IsFine text (made.Unary one.Not a.0) (in_parens (codes "NOT" ∷ tokens a.0)) (numbers (a ∷ [])) (2 + deep (a ∷ [])) (written (a ∷ []))
  not_fine a =
      two_levels (made.Unary one.Not a.0) (in_parens (codes "NOT" ∷ tokens a.0)) (a ∷ [])
      (λ w. parens_tokens (codes "NOT" ∷ tokens a.0) (is (codes "NOT") k.Not refl, part_tokens a [] w))
      (λ r before last more ls st b d. not r more a b d)

  pub minus_fine : (a : Part text) → IsFine text (made.Unary one.Minus a.0) (in_parens (codes "-" ∷ tokens a.0)) (numbers (a ∷ [])) (2 + deep (a ∷ [])) (written (a ∷ []))
  minus_fine a =
      two_levels (made.Unary one.Minus a.0) (in_parens (codes "-" ∷ tokens a.0)) (a ∷ [])
      (λ w. parens_tokens (codes "-" ∷ tokens a.0) (is (codes "-") k.Minus refl, part_tokens a [] w))
      (λ r before last more ls st b d. minus r more a b d)

  -- ---- lists

  pub one_of_fine : (negated : Bool) (a : Part text) (ps : List (Part text))
      → IsFine text (made.OneOf a.0 (bare ps) negated) (in_parens (tokens a.0 ++ negated_if negated (call (codes "IN") (with_commas (texts ps))))) (numbers (a ∷ ps)) (max (1 + levels a.0) (2 + deep ps))
      (is_some_list (map is_written (bare ps)) && written (a ∷ ps))
  one_of_fine negated a ps w = (
    parens_tokens (tokens a.0 ++ negated_if negated (call (codes "IN") (with_commas (texts ps))))
        (all_joined (tokens a.0) (negated_if negated (call (codes "IN") (with_commas (texts ps)))) (part_tokens a ps both.1)
        (negated_tokens negated (call (codes "IN") (with_commas (texts ps))) (is (codes "IN") k.In refl, parens_tokens (with_commas (texts ps)) (list_tokens ps (rest_written a ps both.1))))),
    go,
  )
    where
      both : (is_some_list (map is_written (bare ps)) ≡ true) × (written (a ∷ ps) ≡ true)
      both = and_parts (is_some_list (map is_written (bare ps))) (written (a ∷ ps)) w

      some : is_some_list ps ≡ true
      some = some_mapped (λ (p : Part text). p.0) ps (some_mapped is_written (bare ps) both.0)

      first_fits : (room : ℕ) → max (1 + levels a.0) (2 + deep ps) ≤ room → 1 + levels a.0 ≤ room
      first_fits room fit = let l = le-max_left (1 + levels a.0) (2 + deep ps) in omega (arith, l, fit)

      list_fits : (room : ℕ) → max (1 + levels a.0) (2 + deep ps) ≤ room → 2 + deep ps ≤ room
      list_fits room fit = let l = le-max_right (1 + levels a.0) (2 + deep ps) in omega (arith, l, fit)

      all_fit : (r : ℕ) → 1 + levels a.0 ≤ suc (suc r) → 2 + deep ps ≤ suc (suc r) → deep (a ∷ ps) ≤ suc r
      all_fit r f g = max-le {a = levels a.0} {b = deep ps} {k = suc r} (omega (arith, f)) (omega (arith, g))

      go : (room : ℕ) → max (1 + levels a.0) (2 + deep ps) ≤ room → (before last : ℕ) (more : List ℕ) → CountsFrom (before + 1) (numbers (a ∷ ps) ++ more) → (ls : List Lexeme)
          → Reads text before (in_parens (tokens a.0 ++ negated_if negated (call (codes "IN") (with_commas (texts ps))))) ls last → (st : Pieces)
          → Both (aim text (made.OneOf a.0 (bare ps) negated) st last more) (rule_at room e.Atom ∷ []) ls st
      go zero fit before last more c ls d st = let g = list_fits zero fit in absurd (omega (arith, g))
      go (suc zero) fit before last more c ls d st = let g = list_fits (suc zero) fit in absurd (omega (arith, g))
      go (suc (suc r)) fit before last more c ls d st =
          let f = first_fits (suc (suc r)) fit in
          let g = list_fits (suc (suc r)) fit in
          one_of r more negated a ps some (omega (arith, g)) (record { written = both.1; fits = all_fit r f g; counts = c }) d

  pub coalesce_fine : (ps : List (Part text))
      → IsFine text (made.Coalesce (bare ps)) (call (codes "COALESCE") (with_commas (texts ps))) (numbers ps) (1 + deep ps) (is_some_list (map is_written (bare ps)) && written ps)
  coalesce_fine ps w =
      let both = and_parts (is_some_list (map is_written (bare ps))) (written ps) w in
      let some = some_mapped (λ (p : Part text). p.0) ps (some_mapped is_written (bare ps) both.0) in
      one_level (made.Coalesce (bare ps)) (call (codes "COALESCE") (with_commas (texts ps))) ps
      (λ w. (is (codes "COALESCE") k.Coalesce refl, parens_tokens (with_commas (texts ps)) (list_tokens ps w)))
      (λ r before last more ls st b d. coalesce r more ps some b d)
      both.1

  -- ---- calls

  pub function_fine : (name : List ℕ) (make : Expr → Expr) → IsFunction name make → (a : Part text) → IsFine text (make a.0) (call name (tokens a.0)) (numbers (a ∷ [])) (1 + deep (a ∷ [])) (written (a ∷ []))
  function_fine name make f a =
      one_level (make a.0) (call name (tokens a.0)) (a ∷ []) (λ w. ((f.kind, f.its), parens_tokens (tokens a.0) (part_tokens a [] w))) (λ r before last more ls st b d. function r more name make f a b d)

  pub count_fine : (a : Part text) → IsFine text (made.Count a.0) (call (codes "COUNT") (tokens a.0)) (numbers (a ∷ [])) (1 + deep (a ∷ [])) (written (a ∷ []))
  count_fine a =
      one_level (made.Count a.0) (call (codes "COUNT") (tokens a.0)) (a ∷ []) (λ w. (is (codes "COUNT") k.Count refl, parens_tokens (tokens a.0) (part_tokens a [] w))) (λ r before last more ls st b d. count r more a b d)

  pub count_all_fine : IsFine text made.CountAll (call (codes "COUNT") (codes "*" ∷ [])) [] 1 true
  count_all_fine =
      one_level made.CountAll (call (codes "COUNT") (codes "*" ∷ [])) [] (λ w. (is (codes "COUNT") k.Count refl, parens_tokens (codes "*" ∷ []) (is (codes "*") k.Star refl, tt)))
      (λ r before last more ls st b d. count_all r more b.counts d)

  pub cast_fine : (a : Part text) (t : ColumnType) → IsFine text (made.Cast a.0 t) (call (codes "CAST") (tokens a.0 ++ codes "AS" ∷ type_name t ∷ [])) (numbers (a ∷ [])) (1 + deep (a ∷ [])) (written (a ∷ []))
  cast_fine a t =
      one_level (made.Cast a.0 t) (call (codes "CAST") (tokens a.0 ++ codes "AS" ∷ type_name t ∷ [])) (a ∷ [])
      (λ w. (
        is (codes "CAST") k.Cast refl,
        parens_tokens (tokens a.0 ++ codes "AS" ∷ type_name t ∷ [])
            (all_joined (tokens a.0) (codes "AS" ∷ type_name t ∷ []) (part_tokens a [] w) (is (codes "AS") k.As refl, ((k.TypeWord, type_kind t), tt))),
      ))
      (λ r before last more ls st b d. cast r more a t b d)

  pub caveat_fine : (a : Part text) (message : List ℕ) (number : ℕ)
      → IsFine text (made.Caveat a.0 message number) (call (codes "CAVEAT") (tokens a.0 ++ codes "," ∷ quoted message ∷ [])) (number ∷ numbers (a ∷ [])) (1 + deep (a ∷ [])) (written (a ∷ []))
  caveat_fine a message number w = (
    (
      is (codes "CAVEAT") k.Caveat refl,
      parens_tokens (tokens a.0 ++ codes "," ∷ quoted message ∷ [])
          (all_joined (tokens a.0) (codes "," ∷ quoted message ∷ []) (part_tokens a [] w) (is (codes ",") k.Comma refl, ((k.Quoted, quoted_kind message), tt))),
    ),
    go,
  )
    where
      go : (room : ℕ) → 1 + deep (a ∷ []) ≤ room → (before last : ℕ) (more : List ℕ) → CountsFrom (before + 1) ((number ∷ numbers (a ∷ [])) ++ more)
          → (ls : List Lexeme) → Reads text before (call (codes "CAVEAT") (tokens a.0 ++ codes "," ∷ quoted message ∷ [])) ls last → (st : Pieces)
          → Both (aim text (made.Caveat a.0 message number) st last more) (rule_at room e.Atom ∷ []) ls st
      go zero fit before last more c ls d st = absurd (omega (arith, fit))
      go (suc r) fit before last more c ls d st =
          caveat r more a message number (quoted_kind message) (quoted_back message) c.0 (record { written = w; fits = omega (arith, fit); counts = c.1 }) d

  -- ---- leaves

  pub literal_fine : (v : Value) → IsFine text (made.Literal v) (literal v ∷ []) [] 0 (is_literal v && true)
  literal_fine v w =
      let h = (and_parts (is_literal v) true w).0 in
      ((literal_token v h, tt), λ room fit before last more c ls d st. literal_value room more c v h d)

  pub column_fine : (qualifier : Option (List ℕ)) (name : List ℕ)
      → IsFine text (made.Column qualifier name) (form (Expr-F.Column qualifier name)) [] 0 ((list_all may_name (option_to_list qualifier) && may_name name) && true)
  column_fine None name w =
      let n = named name (and_parts (may_name name) true w).0 in
      ((name_tokens name n, tt), λ room fit before last more c ls d st. bare_column room more c name n d)
  column_fine (Some table) name w =
      let both = and_parts (may_name table && true) (may_name name) (and_parts ((may_name table && true) && may_name name) true w).0 in
      let t = named table (and_parts (may_name table) true both.0).0 in
      let n = named name both.1 in
      ((name_tokens table t, (is (codes ".") k.Point refl, (name_tokens name n, tt))), λ room fit before last more c ls d st. qualified_column room more c table name t n d)
