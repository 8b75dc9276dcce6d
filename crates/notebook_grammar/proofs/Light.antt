-- Each right-hand side is light enough that the machine ends.
use Rattle.std.proofs.Common.{◌≡◌, ℕ, ◌+◌, ◌<◌, Bool, true, false, List, [], ◌∷◌, Option, Some, None, refl, subst, arith}
use Rattle.std.specs.Prelude.{◌==◌, ◌&&◌, nat_lt, if◌then◌else◌}
use Rattle.std.proofs.lemmas.Bool.Decides.{nat_tests}
use Rattle.ll1_grammar.specs.Table.{entry}
use Rattle.ll1_grammar.proofs.Booleans.{and_left, and_right}
use Rattle.notebook_grammar.specs.declared.rule.Rule.{Rule}
use Rattle.notebook_grammar.specs.declared.rule.Rule.TheVariants as rule
use Rattle.notebook_grammar.specs.declared.rule.ExprRule.{ExprRule}
use Rattle.notebook_grammar.specs.declared.rule.ExprRule.TheVariants as e
use Rattle.notebook_grammar.specs.declared.rule.SelectRule.{SelectRule}
use Rattle.notebook_grammar.specs.declared.rule.SelectRule.TheVariants as s
use Rattle.notebook_grammar.specs.declared.rule.ScriptRule.{ScriptRule}
use Rattle.notebook_grammar.specs.declared.rule.ScriptRule.TheVariants as c
use Rattle.notebook_grammar.specs.Rows.{Items}
use Rattle.notebook_grammar.specs.Language.{alternatives, otherwise}
use Rattle.notebook_grammar.specs.Weights.{weight, mass}

-- whether each alternative is light
abbrev are_light : List (ℕ × Items) → Bool
are_light [] = true
are_light (p ∷ ps) = nat_lt (mass p.1) 70 && are_light ps

-- whether the other side is lighter than the rule
abbrev is_lighter : ℕ → Option Items → Bool
is_lighter n None = true
is_lighter n (Some s) = nat_lt (mass s + 1) n

abbrev rule_light : Rule → Bool
rule_light r = are_light (alternatives r) && is_lighter (weight r) (otherwise r)

expr_light : (r : ExprRule) → rule_light (rule.Expr r) ≡ true
expr_light e.Outermost = refl
expr_light e.Or = refl
expr_light e.OrTail = refl
expr_light e.And = refl
expr_light e.AndTail = refl
expr_light e.Not = refl
expr_light e.Comparison = refl
expr_light e.ComparisonTail = refl
expr_light e.IsTail = refl
expr_light e.NotTail = refl
expr_light e.Joined = refl
expr_light e.JoinedTail = refl
expr_light e.Sum = refl
expr_light e.SumTail = refl
expr_light e.Product = refl
expr_light e.ProductTail = refl
expr_light e.Signed = refl
expr_light e.Atom = refl
expr_light e.NameTail = refl
expr_light e.Name = refl
expr_light e.List = refl
expr_light e.ListTail = refl
expr_light e.Arm = refl
expr_light e.ArmsTail = refl
expr_light e.CaseTail = refl
expr_light e.CountTail = refl

select_light : (r : SelectRule) → rule_light (rule.Select r) ≡ true
select_light s.Select = refl
select_light s.Core = refl
select_light s.ThreeUnions = refl
select_light s.TwoUnions = refl
select_light s.OneUnion = refl
select_light s.Distinct = refl
select_light s.Items = refl
select_light s.Item = refl
select_light s.ItemName = refl
select_light s.ItemsTail = refl
select_light s.Table = refl
select_light s.TableName = refl
select_light s.ThreeJoins = refl
select_light s.TwoJoins = refl
select_light s.OneJoin = refl
select_light s.LeftTail = refl
select_light s.Join = refl
select_light s.Where = refl
select_light s.GroupBy = refl
select_light s.Column = refl
select_light s.ColumnTail = refl
select_light s.ColumnsTail = refl
select_light s.Having = refl
select_light s.OrderBy = refl
select_light s.Key = refl
select_light s.Direction = refl
select_light s.KeysTail = refl
select_light s.Limit = refl
select_light s.End = refl

script_light : (r : ScriptRule) → rule_light (rule.Script r) ≡ true
script_light c.Script = refl
script_light c.Builders = refl
script_light c.Column = refl
script_light c.ColumnsTail = refl
script_light c.Statements = refl
script_light c.Assigned = refl
script_light c.Source = refl
script_light c.Block = refl
script_light c.Else = refl
script_light c.Loop = refl
script_light c.Target = refl
script_light c.Values = refl
script_light c.ValuesTail = refl

light : (r : Rule) → rule_light r ≡ true
light (rule.Expect kind) = refl
light (rule.Expr r) = expr_light r
light (rule.Select r) = select_light r
light (rule.Script r) = script_light r

less : (a b : ℕ) → nat_lt a b ≡ true → a < b
less a b e = grind (arith, nat_tests)

entry_light : (k : ℕ) (ps : List (ℕ × Items)) (s : Items) → are_light ps ≡ true → entry k ps ≡ Some s → mass s < 70
entry_light k [] s l e = cc
entry_light k (p ∷ ps) s l e = go (entry_light k ps s) (k == p.0) e
  where
    go : (are_light ps ≡ true → entry k ps ≡ Some s → mass s < 70) → (t : Bool) → (if t then Some p.1 else entry k ps) ≡ Some s → mass s < 70
    go ih true e = let same : p.1 ≡ s = cc in subst (λ x. mass x < 70) same (less (mass p.1) 70 (and_left (nat_lt (mass p.1) 70) _ l))
    go ih false e = ih (and_right (nat_lt (mass p.1) 70) _ l) e

pub light_alternative : (r : Rule) (k : ℕ) (s : Items) → entry k (alternatives r) ≡ Some s → mass s < 70
light_alternative r k s e = entry_light k (alternatives r) s (and_left (are_light (alternatives r)) _ (light r)) e

pub lighter_otherwise : (r : Rule) (s : Items) → otherwise r ≡ Some s → mass s + 1 < weight r
lighter_otherwise r s e = less (mass s + 1) (weight r) (subst (λ o. is_lighter (weight r) o ≡ true) e (and_right (are_light (alternatives r)) _ (light r)))
