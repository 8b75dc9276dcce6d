use Rattle.std.proofs.Common.{◌≡◌, [], Result, Ok, refl, sym, ◌∙◌, subst, get_or}
use Rattle.notebook_grammar.specs.Lexemes.{LexemesOf}
use Rattle.notebook_grammar.proofs.Showing.{none_is_stray, none_shown, shown_next, got_lexeme}
use Rattle.notebook_grammar.proofs.token.tokens.Goals as goal

-- what two answers hold is the same where they are
same_held : {T E : Type 0} (x y : T) → (let r : Result T E = Ok x in r) ≡ Ok y → x ≡ y
same_held x y e = cc

pub loop-lexeme-init : goal.loop-lexeme-init
loop-lexeme-init c = none_shown c.deref-lexeme-items.result.now c.in_ok-made.made (same_held c.in_ok-made.made [] c.in_ok-made.ensures)

pub returns-in-None : goal.returns-in-None
returns-in-None c =
    let ls = c.deref-lexeme-items.result.now in let i = c.loop-lexeme.lexeme-index in (
      ls,
      i,
      get_or ls i _,
      subst (λ x. LexemesOf c.args.text.now x) (sym c.deref-lexeme-items.ensures.value) (subst (λ t. LexemesOf t c.in_ok-lexemes.field-0.items) c.as_bytes.ensures.value c.in_ok-lexemes.ensures),
      got_lexeme ls i _ c.loop-lexeme-test.true,
      none_is_stray _ (sym c.token_kind.ensures ∙ c.in-None.is),
      refl,
    )

pub loop-lexeme-preserved : goal.loop-lexeme-preserved
loop-lexeme-preserved c =
    shown_next c.deref-lexeme-items.result.now c.loop-lexeme.lexeme-index _ c.loop-lexeme.made c.push.new.self _ c.loop-lexeme-test.true refl refl (sym c.token_kind.ensures ∙ c.in-Some.is) c.in_ok-push-in-Some.ensures.ok c.loop-lexeme.invariant
