-- Worked examples: a text that is an expression, and one that errs.
use Rattle.std.proofs.Common.{◌≡◌, ℕ, ◌<◌, ◌≤◌, [], ◌∷◌, length, take, None, Ok, Err, true, refl, inl, arith}
use Rattle.std.specs.Prelude.{codes}
use Rattle.value_types.specs.declared.value.Value.TheVariants as value
use Rattle.ll1_grammar.specs.declared.symbol.Step.TheVariants.{Took, Did}
use Rattle.ll1_grammar.specs.Grammar.{Derives, ends, acts, takes, expands}
use Rattle.ll1_grammar.specs.Reader.{Stops, stuck, skips, moves}
use Rattle.ll1_grammar.proofs.OneAhead.{place_is_exact}
use Rattle.notebook_grammar.specs.declared.kind.Kind.TheVariants as k
use Rattle.notebook_grammar.specs.declared.action.Action.TheVariants as act
use Rattle.notebook_grammar.specs.declared.action.ExprAction.TheVariants as e_act
use Rattle.notebook_grammar.specs.declared.scan.Form.TheVariants as form
use Rattle.notebook_grammar.specs.declared.start.Start.TheVariants as start
use Rattle.notebook_grammar.specs.declared.lexeme.Lexeme.{Lexeme}
use Rattle.notebook_grammar.specs.Longest.{token_of}
use Rattle.notebook_grammar.specs.Lexemes as lexemes
use Rattle.notebook_grammar.specs.Language.{language, start_of, at_room, rule_of, Steps}
use Rattle.notebook_grammar.proofs.Exact.{ahead, ll1, productive}
use Rattle.cell_errors.specs.declared.fault.CellError.TheVariants as error
use Rattle.expr_lang.specs.declared.expr.Expr.TheVariants as expr
use Rattle.text_answers.specs.Answers.{expr_of}
use Rattle.text_answers.proofs.TheAnswer.{expr_is}

-- ---- the text `true`

word : Lexeme
word = record { at = 0; end = 4; kind = k.True; call = 0 }

steps : Steps
steps = Did (act.Expr e_act.Begin) ∷ Took word ∷ Did (act.Expr e_act.True) ∷ Did (act.Expr e_act.End) ∷ []

-- no more bytes are a token
no_longer : (n : ℕ) → 4 < n → n ≤ length (codes "true") → token_of (take n (codes "true")) ≡ None
no_longer n h i = absurd (omega (arith, h, i))

its_word : lexemes.LexemesOf (codes "true") (word ∷ [])
unfolding word
its_word = lexemes.token (record { form = form.Word; size = 4; longest = (omega arith, omega arith, refl, no_longer); small = refl; end = refl; kind = refl; call = refl }) (lexemes.ends refl)

derived : Derives language (start_of start.Expression) (word ∷ []) steps
unfolding language word steps
derived =
    expands refl (acts (expands refl (expands refl (expands refl (expands refl (expands refl (expands refl (expands refl (expands refl
    (takes refl (acts (expands refl (expands refl (expands refl (expands refl (expands refl (expands refl (acts ends))))))))))))))))))

a_literal : expr_of (codes "true") ≡ Ok (expr.Literal (value.Bool true))
unfolding word steps
a_literal = expr_is (codes "true") (Ok (expr.Literal (value.Bool true))) (steps, (word ∷ [], its_word, (derived, (None, refl))), refl)

-- ---- the empty text

stops : Stops language (start_of start.Expression) [] None
unfolding language
stops = moves refl refl (skips (moves refl refl (moves refl refl (moves refl refl (moves refl refl (moves refl refl (moves refl refl (moves refl refl (moves refl refl (stuck refl refl))))))))))

no_text : expr_of [] ≡ Err (error.Syntax 0)
no_text =
    let exact = place_is_exact language ahead ll1 productive (at_room (rule_of start.Expression) 64) [] None stops in
    expr_is [] (Err (error.Syntax 0))
    ([], 0, lexemes.ends refl, (λ j below m. absurd (omega (arith, below)), inl (record { within = omega arith; before = exact.0; here = exact.1 })), refl)
