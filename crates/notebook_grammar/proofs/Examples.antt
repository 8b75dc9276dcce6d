-- Worked examples of tokens, levels and a derivation.
use Rattle.std.proofs.Common.{◌≡◌, ℕ, ◌+◌, true, false, [], ◌∷◌, Option, Some, None, refl}
use Rattle.std.specs.Prelude.{codes}
use Rattle.value_types.specs.Numbers.{int_of, fixed_of}
use Rattle.ll1_grammar.specs.declared.symbol.Step.TheVariants.{Took, Did}
use Rattle.ll1_grammar.specs.Grammar.{Derives, taken, ends, acts, takes, expands}
use Rattle.ll1_grammar.specs.Table.{entry, where_it_fits, laid_out}
use Rattle.notebook_grammar.specs.declared.kind.Kind.{Kind}
use Rattle.notebook_grammar.specs.declared.kind.Kind.TheVariants as k
use Rattle.notebook_grammar.specs.declared.rule.Rule.TheVariants as rule
use Rattle.notebook_grammar.specs.declared.rule.ExprRule.TheVariants as e
use Rattle.notebook_grammar.specs.declared.action.Action.TheVariants as act
use Rattle.notebook_grammar.specs.declared.action.ExprAction.TheVariants as e_act
use Rattle.notebook_grammar.specs.declared.scan.Form.TheVariants as form
use Rattle.notebook_grammar.specs.declared.start.Start.TheVariants as start
use Rattle.notebook_grammar.specs.declared.lexeme.Lexeme.{Lexeme}
use Rattle.notebook_grammar.specs.Kinds.{code_of}
use Rattle.notebook_grammar.specs.Words.{kind_of_word}
use Rattle.notebook_grammar.specs.Longest.{token_of}
use Rattle.notebook_grammar.specs.Lexemes.{is_small}
use Rattle.notebook_grammar.specs.Rows.{expr, expr_do}
use Rattle.notebook_grammar.specs.Language.{alternatives, language, start_of, Symbols, Steps}
use Rattle.notebook_grammar.specs.Limits.{counted}

-- ---- tokens

a_text : token_of (codes "'it''s'") ≡ Some form.Quoted
a_text = refl

-- its front `'it'` is a token, but this isn't
an_open_text : token_of (codes "'it''s") ≡ None
an_open_text = refl

four_places : token_of (codes "1.2345") ≡ Some form.Decimal
four_places = refl

five_places : token_of (codes "1.23456") ≡ None
five_places = refl

no_places : token_of (codes "1.") ≡ None
no_places = refl

a_word : token_of (codes "a_1") ≡ Some form.Word
a_word = refl

-- a word begins with a letter
no_word : token_of (codes "_a") ≡ None
no_word = refl

not_equal : token_of (codes "!=") ≡ Some (form.Mark k.NotEqual)
not_equal = refl

half_a_mark : token_of (codes "!") ≡ None
half_a_mark = refl

the_last_int : is_small form.Whole (codes "9223372036854775807") ≡ true
unfolding int_of
the_last_int = refl

too_great : is_small form.Whole (codes "9223372036854775808") ≡ false
unfolding int_of
too_great = refl

too_great_a_fixed : is_small form.Decimal (codes "922337203685477.5808") ≡ false
unfolding fixed_of
too_great_a_fixed = refl

thirty_two : is_small form.Word (codes "abcdefghijklmnopqrstuvwxyz012345") ≡ true
thirty_two = refl

thirty_three : is_small form.Word (codes "abcdefghijklmnopqrstuvwxyz0123456") ≡ false
thirty_three = refl

-- ---- words

reserved : kind_of_word (codes "SeLeCt") ≡ k.Select
reserved = refl

a_type : kind_of_word (codes "INT") ≡ k.TypeWord
a_type = refl

a_name : kind_of_word (codes "total") ≡ k.Name
a_name = refl

-- ---- levels

-- where no level is left, an atom has no parentheses
no_level : where_it_fits 0 (entry (code_of k.Open) (alternatives (rule.Expr e.Atom))) ≡ (let none : Option Symbols = None in none)
no_level = refl

-- and after NOT only LIKE goes on
not_in : where_it_fits 0 (entry (code_of k.In) (alternatives (rule.Expr e.NotTail))) ≡ (let none : Option Symbols = None in none)
not_in = refl

not_like : where_it_fits 0 (entry (code_of k.Like) (alternatives (rule.Expr e.NotTail))) ≡ Some (laid_out 0 (expr e.Joined ∷ expr_do e_act.NotLike ∷ []))
not_like = refl

-- ---- a derivation: a + 1

a : Lexeme
a = record { at = 0; end = 1; kind = k.Name; call = 0 }

plus : Lexeme
plus = record { at = 2; end = 3; kind = k.Plus; call = 0 }

one : Lexeme
one = record { at = 4; end = 5; kind = k.Whole; call = 0 }

steps : Steps
steps =
    Did (act.Expr e_act.Begin) ∷ Took a ∷ Did (act.Expr e_act.Bare) ∷ Took plus ∷ Took one ∷ Did (act.Expr e_act.Whole)
    ∷ Did (act.Expr e_act.Add) ∷ Did (act.Expr e_act.End) ∷ []

a_sum : Derives language (start_of start.Expression) (a ∷ plus ∷ one ∷ []) steps
unfolding language a plus one steps
a_sum =
    expands refl (acts (expands refl (expands refl (expands refl (expands refl (expands refl (expands refl (expands refl (expands refl
    (takes refl (expands refl (acts (expands refl
    (takes refl (expands refl (expands refl
    (takes refl (acts (expands refl (acts (expands refl (expands refl (expands refl (expands refl (expands refl (acts ends))))))))))))))))))))))))))

-- its three tokens count
counts : counted None steps ≡ Some None
unfolding a plus one steps
counts = refl

-- ---- how operators bind: a + b * c and a - b - c

abbrev name_at : ℕ → Lexeme
name_at at = record { at = at; end = at + 1; kind = k.Name; call = 0 }

abbrev mark_at : ℕ → Kind → Lexeme
mark_at at kind = record { at = at; end = at + 1; kind = kind; call = 0 }

-- b and c are multiplied before anything is added
pub product_first : Steps
product_first =
    Did (act.Expr e_act.Begin) ∷ Took (name_at 0) ∷ Did (act.Expr e_act.Bare)
    ∷ Took (mark_at 2 k.Plus) ∷ Took (name_at 4) ∷ Did (act.Expr e_act.Bare)
    ∷ Took (mark_at 6 k.Star) ∷ Took (name_at 8) ∷ Did (act.Expr e_act.Bare)
    ∷ Did (act.Expr e_act.Multiply) ∷ Did (act.Expr e_act.Add) ∷ Did (act.Expr e_act.End) ∷ []

a_product_in_a_sum : Derives language (start_of start.Expression) (taken product_first) product_first
unfolding language product_first
a_product_in_a_sum =
    expands refl (acts (expands refl (expands refl (expands refl (expands refl (expands refl (expands refl (expands refl (expands refl
    (takes refl (expands refl (acts (expands refl
    (takes refl (expands refl (expands refl (takes refl (expands refl (acts
    (takes refl (expands refl (takes refl (expands refl (acts
    (acts (expands refl (acts (expands refl (expands refl (expands refl (expands refl (expands refl (acts ends)))))))))))))))))))))))))))))))))

-- a - b is there before c comes
pub from_the_left : Steps
from_the_left =
    Did (act.Expr e_act.Begin) ∷ Took (name_at 0) ∷ Did (act.Expr e_act.Bare)
    ∷ Took (mark_at 2 k.Minus) ∷ Took (name_at 4) ∷ Did (act.Expr e_act.Bare) ∷ Did (act.Expr e_act.Subtract)
    ∷ Took (mark_at 6 k.Minus) ∷ Took (name_at 8) ∷ Did (act.Expr e_act.Bare) ∷ Did (act.Expr e_act.Subtract)
    ∷ Did (act.Expr e_act.End) ∷ []

two_differences : Derives language (start_of start.Expression) (taken from_the_left) from_the_left
unfolding language from_the_left
two_differences =
    expands refl (acts (expands refl (expands refl (expands refl (expands refl (expands refl (expands refl (expands refl (expands refl
    (takes refl (expands refl (acts (expands refl
    (takes refl (expands refl (expands refl (takes refl (expands refl (acts (expands refl (acts
    (takes refl (expands refl (expands refl (takes refl (expands refl (acts (expands refl (acts
    (expands refl (expands refl (expands refl (expands refl (expands refl (acts ends)))))))))))))))))))))))))))))))))))
