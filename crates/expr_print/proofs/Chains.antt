-- An operand that is an atom, at each rule of expressions.
use Rattle.std.proofs.Common.{ℕ, List, [], ◌∷◌, ◌++◌, refl}
use Rattle.notebook_grammar.specs.declared.lexeme.Lexeme.{Lexeme}
use Rattle.notebook_grammar.specs.declared.rule.ExprRule.TheVariants as e
use Rattle.notebook_grammar.specs.Language.{Symbols}
use Rattle.expr_print.proofs.Giving.{Pieces, Gives, joined, rule_at, other, skip}

-- what may follow an operand at each rule
abbrev pub product_rest : ℕ → Symbols → Symbols
product_rest r s = rule_at r e.ProductTail ∷ s

abbrev pub sum_rest : ℕ → Symbols → Symbols
sum_rest r s = product_rest r (rule_at r e.SumTail ∷ s)

abbrev pub joined_rest : ℕ → Symbols → Symbols
joined_rest r s = sum_rest r (rule_at r e.JoinedTail ∷ s)

abbrev pub comparison_rest : ℕ → Symbols → Symbols
comparison_rest r s = joined_rest r (rule_at r e.ComparisonTail ∷ s)

abbrev pub and_rest : ℕ → Symbols → Symbols
and_rest r s = comparison_rest r (rule_at r e.AndTail ∷ s)

abbrev pub or_rest : ℕ → Symbols → Symbols
or_rest r s = and_rest r (rule_at r e.OrTail ∷ s)

module _ {text : List ℕ} {st end : Pieces} (r : ℕ) where
  -- ---- from a rule down to the atom

  pub from_signed : (s : Symbols) (ls : List Lexeme) → Gives text (rule_at r e.Atom ∷ s) ls st end → Gives text (rule_at r e.Signed ∷ s) ls st end
  from_signed s ls d = other e.Signed r _ refl refl d

  pub from_product : (s : Symbols) (ls : List Lexeme) → Gives text (rule_at r e.Atom ∷ product_rest r s) ls st end → Gives text (rule_at r e.Product ∷ s) ls st end
  from_product s ls d = other e.Product r _ refl refl (from_signed (product_rest r s) ls d)

  pub from_sum : (s : Symbols) (ls : List Lexeme) → Gives text (rule_at r e.Atom ∷ sum_rest r s) ls st end → Gives text (rule_at r e.Sum ∷ s) ls st end
  from_sum s ls d = other e.Sum r _ refl refl (from_product (rule_at r e.SumTail ∷ s) ls d)

  pub from_joined : (s : Symbols) (ls : List Lexeme) → Gives text (rule_at r e.Atom ∷ joined_rest r s) ls st end → Gives text (rule_at r e.Joined ∷ s) ls st end
  from_joined s ls d = other e.Joined r _ refl refl (from_sum (rule_at r e.JoinedTail ∷ s) ls d)

  pub from_not : (s : Symbols) (ls : List Lexeme) → Gives text (rule_at r e.Atom ∷ comparison_rest r s) ls st end → Gives text (rule_at r e.Not ∷ s) ls st end
  from_not s ls d = other e.Not r _ refl refl (other e.Comparison r _ refl refl (from_joined (rule_at r e.ComparisonTail ∷ s) ls d))

  pub from_and : (s : Symbols) (ls : List Lexeme) → Gives text (rule_at r e.Atom ∷ and_rest r s) ls st end → Gives text (rule_at r e.And ∷ s) ls st end
  from_and s ls d = other e.And r _ refl refl (from_not (rule_at r e.AndTail ∷ s) ls d)

  pub from_or : (s : Symbols) (ls : List Lexeme) → Gives text (rule_at r e.Atom ∷ or_rest r s) ls st end → Gives text (rule_at r e.Or ∷ s) ls st end
  from_or s ls d = other e.Or r _ refl refl (from_and (rule_at r e.OrTail ∷ s) ls d)

  -- ---- with no operator after it

  pub skip_product : (s : Symbols) (ls : List Lexeme) → Gives text s ls st end → Gives text (product_rest r s) ls st end
  skip_product s ls d = skip e.ProductTail r refl d

  pub skip_sum : (s : Symbols) (ls : List Lexeme) → Gives text s ls st end → Gives text (sum_rest r s) ls st end
  skip_sum s ls d = skip_product (rule_at r e.SumTail ∷ s) ls (skip e.SumTail r refl d)

  pub skip_joined : (s : Symbols) (ls : List Lexeme) → Gives text s ls st end → Gives text (joined_rest r s) ls st end
  skip_joined s ls d = skip_sum (rule_at r e.JoinedTail ∷ s) ls (skip e.JoinedTail r refl d)

  pub skip_comparison : (s : Symbols) (ls : List Lexeme) → Gives text s ls st end → Gives text (comparison_rest r s) ls st end
  skip_comparison s ls d = skip_joined (rule_at r e.ComparisonTail ∷ s) ls (skip e.ComparisonTail r refl d)

  pub skip_and : (s : Symbols) (ls : List Lexeme) → Gives text s ls st end → Gives text (and_rest r s) ls st end
  skip_and s ls d = skip_comparison (rule_at r e.AndTail ∷ s) ls (skip e.AndTail r refl d)

  pub skip_or : (s : Symbols) (ls : List Lexeme) → Gives text s ls st end → Gives text (or_rest r s) ls st end
  skip_or s ls d = skip_and (rule_at r e.OrTail ∷ s) ls (skip e.OrTail r refl d)

-- an atom, as the text of an expression is one
abbrev pub IsAtom : List ℕ → ℕ → List Lexeme → Pieces → Pieces → Type 0
IsAtom text r ls st mid = Gives text (rule_at r e.Atom ∷ []) ls st mid

module _ {text : List ℕ} {st mid end : Pieces} (r : ℕ) (u : List Lexeme) (atom : IsAtom text r u st mid) (s : Symbols) (v : List Lexeme) where
  -- the atom, and then the rest
  pub atom_then : Gives text s v mid end → Gives text (rule_at r e.Atom ∷ s) (u ++ v) st end
  atom_then d = joined atom s v end d

  -- ---- the atom alone, at a rule

  pub at_signed : Gives text s v mid end → Gives text (rule_at r e.Signed ∷ s) (u ++ v) st end
  at_signed d = from_signed r s (u ++ v) (joined atom s v end d)

  pub at_product : Gives text s v mid end → Gives text (rule_at r e.Product ∷ s) (u ++ v) st end
  at_product d = from_product r s (u ++ v) (joined atom (product_rest r s) v end (skip_product r s v d))

  pub at_sum : Gives text s v mid end → Gives text (rule_at r e.Sum ∷ s) (u ++ v) st end
  at_sum d = from_sum r s (u ++ v) (joined atom (sum_rest r s) v end (skip_sum r s v d))

  pub at_joined : Gives text s v mid end → Gives text (rule_at r e.Joined ∷ s) (u ++ v) st end
  at_joined d = from_joined r s (u ++ v) (joined atom (joined_rest r s) v end (skip_joined r s v d))

  pub at_not : Gives text s v mid end → Gives text (rule_at r e.Not ∷ s) (u ++ v) st end
  at_not d = from_not r s (u ++ v) (joined atom (comparison_rest r s) v end (skip_comparison r s v d))

  pub at_and : Gives text s v mid end → Gives text (rule_at r e.And ∷ s) (u ++ v) st end
  at_and d = from_and r s (u ++ v) (joined atom (and_rest r s) v end (skip_and r s v d))

  pub at_or : Gives text s v mid end → Gives text (rule_at r e.Or ∷ s) (u ++ v) st end
  at_or d = from_or r s (u ++ v) (joined atom (or_rest r s) v end (skip_or r s v d))
