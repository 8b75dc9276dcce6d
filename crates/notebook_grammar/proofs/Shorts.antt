-- A short sentence of each rule.
use Rattle.std.proofs.Common.{◌≡◌, Bool, true, false, List, [], ◌∷◌, ◌++◌, Option, Some, None, refl}
use Rattle.std.specs.Prelude.{◌==◌, if◌then◌else◌}
use Rattle.ll1_grammar.specs.declared.item.Item.TheVariants.{Here}
use Rattle.ll1_grammar.specs.Short.{reads, if_flat_or, AreShort}
use Rattle.notebook_grammar.specs.declared.kind.Kind.{Kind}
use Rattle.notebook_grammar.specs.declared.kind.Kind.TheVariants as k
use Rattle.notebook_grammar.specs.declared.rule.Rule.{Rule}
use Rattle.notebook_grammar.specs.declared.rule.Rule.TheVariants as rule
use Rattle.notebook_grammar.specs.declared.rule.ExprRule.{ExprRule}
use Rattle.notebook_grammar.specs.declared.rule.ExprRule.TheVariants as e
use Rattle.notebook_grammar.specs.declared.rule.SelectRule.{SelectRule}
use Rattle.notebook_grammar.specs.declared.rule.SelectRule.TheVariants as s
use Rattle.notebook_grammar.specs.declared.rule.ScriptRule.{ScriptRule}
use Rattle.notebook_grammar.specs.declared.rule.ScriptRule.TheVariants as c
use Rattle.notebook_grammar.specs.declared.lexeme.Lexeme.{Lexeme}
use Rattle.notebook_grammar.specs.Kinds.{code_of}
use Rattle.notebook_grammar.specs.Rows.{Items}
use Rattle.notebook_grammar.specs.Language.{table, kind_code}
use Rattle.notebook_grammar.proofs.Fine.{same_as_itself}

-- a lexeme of a kind
abbrev lexeme : Kind → Lexeme
lexeme kind = record { at = 0; end = 0; kind = kind; call = 0 }

abbrev expr_short : ExprRule → List Kind
expr_short e.Outermost = k.Whole ∷ []
expr_short e.Or = k.Whole ∷ []
expr_short e.And = k.Whole ∷ []
expr_short e.Not = k.Whole ∷ []
expr_short e.Comparison = k.Whole ∷ []
expr_short e.IsTail = k.Null ∷ []
expr_short e.NotTail = k.Like ∷ k.Whole ∷ []
expr_short e.Joined = k.Whole ∷ []
expr_short e.Sum = k.Whole ∷ []
expr_short e.Product = k.Whole ∷ []
expr_short e.Signed = k.Whole ∷ []
expr_short e.Atom = k.Whole ∷ []
expr_short e.Name = k.Name ∷ []
expr_short e.List = k.Whole ∷ []
expr_short e.Arm = k.When ∷ k.Whole ∷ k.Then ∷ k.Whole ∷ []
expr_short e.CaseTail = k.End ∷ []
expr_short e.CountTail = k.Star ∷ []
expr_short r = []

abbrev select_short : SelectRule → List Kind
select_short s.Select = k.Select ∷ k.Star ∷ k.From ∷ k.Name ∷ []
select_short s.Core = k.Select ∷ k.Star ∷ k.From ∷ k.Name ∷ []
select_short s.Items = k.Star ∷ []
select_short s.Item = k.Whole ∷ []
select_short s.Table = k.Name ∷ []
select_short s.LeftTail = k.Join ∷ []
select_short s.Join = k.Name ∷ k.On ∷ k.Whole ∷ []
select_short s.Column = k.Name ∷ []
select_short s.Key = k.Name ∷ []
select_short r = []

abbrev script_short : ScriptRule → List Kind
script_short c.Column = k.Name ∷ k.TypeWord ∷ []
script_short c.Assigned = k.Equal ∷ k.Whole ∷ k.Semicolon ∷ []
script_short c.Source = k.Whole ∷ []
script_short c.Block = k.OpenBrace ∷ k.CloseBrace ∷ []
script_short c.Loop = k.In ∷ k.Name ∷ []
script_short c.Target = k.Name ∷ []
script_short c.Values = k.Whole ∷ []
script_short r = []

abbrev short_kinds : Rule → List Kind
short_kinds (rule.Expect kind) = kind ∷ []
short_kinds (rule.Expr r) = expr_short r
short_kinds (rule.Select r) = select_short r
short_kinds (rule.Script r) = script_short r

abbrev lexemes : List Kind → List Lexeme
lexemes [] = []
lexemes (kind ∷ kinds) = lexeme kind ∷ lexemes kinds

abbrev pub short : Rule → List Lexeme
short r = lexemes (short_kinds r)

-- an expected token is one
expected : (b : Bool) (go : Items → Bool) (other : Bool) → b ≡ true → go [] ≡ true → if_flat_or (let o : Option Items = if b then Some [] else None in o) go other ≡ true
expected true go other e h = h
expected false go other e h = cc

expr_found : (r : ExprRule) → reads table kind_code 60 (Here (rule.Expr r) ∷ []) (short (rule.Expr r)) ≡ true
expr_found e.Outermost = refl
expr_found e.Or = refl
expr_found e.OrTail = refl
expr_found e.And = refl
expr_found e.AndTail = refl
expr_found e.Not = refl
expr_found e.Comparison = refl
expr_found e.ComparisonTail = refl
expr_found e.IsTail = refl
expr_found e.NotTail = refl
expr_found e.Joined = refl
expr_found e.JoinedTail = refl
expr_found e.Sum = refl
expr_found e.SumTail = refl
expr_found e.Product = refl
expr_found e.ProductTail = refl
expr_found e.Signed = refl
expr_found e.Atom = refl
expr_found e.NameTail = refl
expr_found e.Name = refl
expr_found e.List = refl
expr_found e.ListTail = refl
expr_found e.Arm = refl
expr_found e.ArmsTail = refl
expr_found e.CaseTail = refl
expr_found e.CountTail = refl

select_found : (r : SelectRule) → reads table kind_code 60 (Here (rule.Select r) ∷ []) (short (rule.Select r)) ≡ true
select_found s.Select = refl
select_found s.Core = refl
select_found s.ThreeUnions = refl
select_found s.TwoUnions = refl
select_found s.OneUnion = refl
select_found s.Distinct = refl
select_found s.Items = refl
select_found s.Item = refl
select_found s.ItemName = refl
select_found s.ItemsTail = refl
select_found s.Table = refl
select_found s.TableName = refl
select_found s.ThreeJoins = refl
select_found s.TwoJoins = refl
select_found s.OneJoin = refl
select_found s.LeftTail = refl
select_found s.Join = refl
select_found s.Where = refl
select_found s.GroupBy = refl
select_found s.Column = refl
select_found s.ColumnTail = refl
select_found s.ColumnsTail = refl
select_found s.Having = refl
select_found s.OrderBy = refl
select_found s.Key = refl
select_found s.Direction = refl
select_found s.KeysTail = refl
select_found s.Limit = refl
select_found s.End = refl

script_found : (r : ScriptRule) → reads table kind_code 60 (Here (rule.Script r) ∷ []) (short (rule.Script r)) ≡ true
script_found c.Script = refl
script_found c.Builders = refl
script_found c.Column = refl
script_found c.ColumnsTail = refl
script_found c.Statements = refl
script_found c.Assigned = refl
script_found c.Source = refl
script_found c.Block = refl
script_found c.Else = refl
script_found c.Loop = refl
script_found c.Target = refl
script_found c.Values = refl
script_found c.ValuesTail = refl

pub found : AreShort table kind_code 60 short
found (rule.Expect kind) = expected (code_of kind == code_of kind) (λ a. reads table kind_code 59 (a ++ []) []) false (same_as_itself (code_of kind)) refl
found (rule.Expr r) = expr_found r
found (rule.Select r) = select_found r
found (rule.Script r) = script_found r
