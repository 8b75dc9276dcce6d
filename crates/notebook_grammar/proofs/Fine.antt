-- The table passes the test.
use Rattle.std.proofs.Common.{◌≡◌, ℕ, true, false, refl, ap, arith}
use Rattle.std.specs.Prelude.{◌==◌, ◌&&◌, ◌||◌}
use Rattle.std.proofs.lemmas.Bool.Decides.{nat_tests}
use Rattle.ll1_grammar.specs.Test.{rule_fine, IsFine}
use Rattle.notebook_grammar.specs.declared.rule.Rule.TheVariants as rule
use Rattle.notebook_grammar.specs.declared.rule.ExprRule.{ExprRule}
use Rattle.notebook_grammar.specs.declared.rule.ExprRule.TheVariants as e
use Rattle.notebook_grammar.specs.declared.rule.SelectRule.{SelectRule}
use Rattle.notebook_grammar.specs.declared.rule.SelectRule.TheVariants as s
use Rattle.notebook_grammar.specs.declared.rule.ScriptRule.{ScriptRule}
use Rattle.notebook_grammar.specs.declared.rule.ScriptRule.TheVariants as c
use Rattle.notebook_grammar.specs.Kinds.{code_of}
use Rattle.notebook_grammar.specs.Language.{table}
use Rattle.notebook_grammar.proofs.Hints.{hints}

pub same_as_itself : (n : ℕ) → n == n ≡ true
same_as_itself n = grind (arith, nat_tests)

expr_fine : (r : ExprRule) → rule_fine table hints (rule.Expr r) ≡ true
expr_fine e.Outermost = refl
expr_fine e.Or = refl
expr_fine e.OrTail = refl
expr_fine e.And = refl
expr_fine e.AndTail = refl
expr_fine e.Not = refl
expr_fine e.Comparison = refl
expr_fine e.ComparisonTail = refl
expr_fine e.IsTail = refl
expr_fine e.NotTail = refl
expr_fine e.Joined = refl
expr_fine e.JoinedTail = refl
expr_fine e.Sum = refl
expr_fine e.SumTail = refl
expr_fine e.Product = refl
expr_fine e.ProductTail = refl
expr_fine e.Signed = refl
expr_fine e.Atom = refl
expr_fine e.NameTail = refl
expr_fine e.Name = refl
expr_fine e.List = refl
expr_fine e.ListTail = refl
expr_fine e.Arm = refl
expr_fine e.ArmsTail = refl
expr_fine e.CaseTail = refl
expr_fine e.CountTail = refl

select_fine : (r : SelectRule) → rule_fine table hints (rule.Select r) ≡ true
select_fine s.Select = refl
select_fine s.Core = refl
select_fine s.ThreeUnions = refl
select_fine s.TwoUnions = refl
select_fine s.OneUnion = refl
select_fine s.Distinct = refl
select_fine s.Items = refl
select_fine s.Item = refl
select_fine s.ItemName = refl
select_fine s.ItemsTail = refl
select_fine s.Table = refl
select_fine s.TableName = refl
select_fine s.ThreeJoins = refl
select_fine s.TwoJoins = refl
select_fine s.OneJoin = refl
select_fine s.LeftTail = refl
select_fine s.Join = refl
select_fine s.Where = refl
select_fine s.GroupBy = refl
select_fine s.Column = refl
select_fine s.ColumnTail = refl
select_fine s.ColumnsTail = refl
select_fine s.Having = refl
select_fine s.OrderBy = refl
select_fine s.Key = refl
select_fine s.Direction = refl
select_fine s.KeysTail = refl
select_fine s.Limit = refl
select_fine s.End = refl

script_fine : (r : ScriptRule) → rule_fine table hints (rule.Script r) ≡ true
script_fine c.Script = refl
script_fine c.Builders = refl
script_fine c.Column = refl
script_fine c.ColumnsTail = refl
script_fine c.Statements = refl
script_fine c.Assigned = refl
script_fine c.Source = refl
script_fine c.Block = refl
script_fine c.Else = refl
script_fine c.Loop = refl
script_fine c.Target = refl
script_fine c.Values = refl
script_fine c.ValuesTail = refl

pub fine : IsFine table hints
fine (rule.Expect kind) = ap (λ b. (((b || false) && true) && true) && true) (same_as_itself (code_of kind))
fine (rule.Expr r) = expr_fine r
fine (rule.Select r) = select_fine r
fine (rule.Script r) = script_fine r
