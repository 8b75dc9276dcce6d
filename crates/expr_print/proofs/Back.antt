-- The text of an expression gives it back.
use Rattle.std.proofs.Common.{◌≡◌, ℕ, ◌+◌, ◌≤◌, ◌⊎◌, inl, inr, Bool, true, false, List, [], ◌∷◌, ◌++◌, Option, Some, None, Ok, Err, Result, length, refl, sym, ap, ◌∙◌, subst, arith, append_assoc}
use Rattle.std.specs.Prelude.{if◌then◌else◌}
use Rattle.std.specs.declared.convert.Infallible.{Infallible}
use Rattle.std.proofs.lemmas.List.{append-nil}
use Rattle.ll1_grammar.specs.declared.symbol.Symbol.{Symbol}
use Rattle.ll1_grammar.specs.declared.symbol.Step.{Step}
use Rattle.ll1_grammar.specs.declared.symbol.Step.TheVariants.{Took, Did}
use Rattle.ll1_grammar.specs.Grammar.{Grammar, Derives, ends, acts, takes, expands}
use Rattle.ll1_grammar.specs.Pieces.{Builder, built, and_then}
use Rattle.notebook_grammar.specs.declared.rule.Rule.TheVariants as rule
use Rattle.notebook_grammar.specs.declared.rule.ExprRule.TheVariants as e
use Rattle.notebook_grammar.specs.declared.action.Action.TheVariants as act
use Rattle.notebook_grammar.specs.declared.action.ExprAction.TheVariants as e_act
use Rattle.notebook_grammar.specs.declared.fault.ParseFault.{ParseFault}
use Rattle.notebook_grammar.specs.declared.fault.ParseFault.TheVariants as fault
use Rattle.notebook_grammar.specs.declared.lexeme.Lexeme.{Lexeme}
use Rattle.notebook_grammar.specs.declared.start.Start.TheVariants as start
use Rattle.notebook_grammar.specs.Language.{language, at_room, start_of, Steps}
use Rattle.notebook_grammar.specs.Limits.{counted, after, is_full, more, IsCounted}
use Rattle.notebook_grammar.proofs.OneAnswer.{one_answer}
use Rattle.expr_lang.specs.declared.expr.Expr.{Expr}
use Rattle.expr_parse.specs.declared.piece.Piece.{Piece}
use Rattle.expr_parse.specs.declared.piece.Piece.TheVariants as piece
use Rattle.expr_parse.specs.Trees.{builder, IsTreeOf}
use Rattle.expr_print.specs.Tokens.{Tokens, tokens, printed}
use Rattle.expr_print.specs.Printable.{CountsFrom, calls, IsPrintable}
use Rattle.expr_print.specs.Laws.{IsAnswer, PrintsAndParses}
use Rattle.expr_print.proofs.Reading.{Reads, none, one, lexed}
use Rattle.expr_print.proofs.Giving.{Gives, done, Stepped, stepped, rule_at, action}
use Rattle.expr_print.proofs.Chains.{at_or}
use Rattle.expr_print.proofs.Whole.{whole}

-- ---- steps that are joined

derived : {N T A : Type 0} {g : Grammar N T A} {s : List (Symbol N A)} {u : List T} {x : List (Step T A)} → Derives g s u x
    → (t : List (Symbol N A)) (v : List T) (y : List (Step T A)) → Derives g t v y → Derives g (s ++ t) (u ++ v) (x ++ y)
derived ends t v y d = d
derived (acts c) t v y d = acts (derived c t v y d)
derived {g = g} (takes {r = r} {s = s} {w = w} {steps = x} h c) t v y d = takes h (subst (λ z. Derives g z (w ++ v) (x ++ y)) (append_assoc r s t) (derived c t v y d))
derived {g = g} (expands {r = r} {s = s} {w = w} {steps = x} h c) t v y d = expands h (subst (λ z. Derives g z (w ++ v) (x ++ y)) (append_assoc r s t) (derived c t v y d))

module _ {T A P : Type 0} (b : Builder T A P) where
  built_on : (x y : List (Step T A)) (st mid : List P) → built b x st ≡ Some mid → built b (x ++ y) st ≡ built b y mid
  built_on [] y st mid e = let same : st ≡ mid = cc in ap (built b y) same
  built_on (Took t ∷ x) y st mid e = built_on x y (b.took t st) mid e
  built_on (Did a ∷ x) y st mid e = go (λ s h. built_on x y s mid h) (b.did a st) e
    where
      go : ((s : List P) → built b x s ≡ Some mid → built b (x ++ y) s ≡ built b y mid) → (o : Option (List P)) → and_then o (built b x) ≡ Some mid → and_then o (built b (x ++ y)) ≡ built b y mid
      go ih None h = cc
      go ih (Some s) h = ih s h

counted_on : (x y : Steps) (c d : Option ℕ) → counted c x ≡ Some d → counted c (x ++ y) ≡ counted d y
counted_on [] y c d e = let same : c ≡ d = cc in ap (λ z. counted z y) same
counted_on (Did a ∷ x) y c d e = counted_on x y (after a c) d e
counted_on (Took t ∷ x) y c d e = go (λ h. counted_on x y (more c) d h) (is_full c) e
  where
    go : (counted (more c) x ≡ Some d → counted (more c) (x ++ y) ≡ counted d y) → (t : Bool) → (if t then None else counted (more c) x) ≡ Some d → (if t then None else counted (more c) (x ++ y)) ≡ counted d y
    go ih true h = cc
    go ih false h = ih h

-- ---- the whole text

same_length : {text : List ℕ} {before last : ℕ} {ts : Tokens} {ls : List Lexeme} → Reads text before ts ls last → length ls ≡ length ts
same_length none = refl
same_length (one h d) = let n = same_length d in omega (arith, n)

outermost : language.otherwise (at_room (rule.Expr e.Outermost) 64) ≡ Some (action e_act.Begin ∷ rule_at 64 e.Or ∷ action e_act.End ∷ [])
unfolding language
outermost = refl

module _ (text : List ℕ) (x : Expr) (ls : List Lexeme) (few : length ls ≤ 1000) (atom : Gives text (rule_at 64 e.Atom ∷ []) ls [] (piece.Tree x ∷ [])) where
  inner : Stepped text (rule_at 64 e.Or ∷ []) ls [] (piece.Tree x ∷ [])
  inner = stepped (subst (λ l. Gives text (rule_at 64 e.Or ∷ []) l [] (piece.Tree x ∷ [])) (append-nil ls) (at_or 64 ls atom [] [] done))

  the_steps : Steps
  the_steps = Did (act.Expr e_act.Begin) ∷ (inner.steps ++ Did (act.Expr e_act.End) ∷ [])

  sentence : Derives language (start_of start.Expression) ls the_steps
  unfolding the_steps
  sentence =
      expands outermost (acts
      (subst (λ l. Derives language (rule_at 64 e.Or ∷ action e_act.End ∷ []) l (inner.steps ++ Did (act.Expr e_act.End) ∷ [])) (append-nil ls)
      (derived inner.derives (action e_act.End ∷ []) [] (Did (act.Expr e_act.End) ∷ []) (acts ends))))

  counts : IsCounted the_steps
  unfolding the_steps
  counts = (None, counted_on inner.steps (Did (act.Expr e_act.End) ∷ []) (Some 0) (Some (0 + length ls)) (inner.counts 0 (let n : 0 + length ls ≤ 1000 = omega (arith, few) in n)))

  tree : built (builder text) the_steps [] ≡ Some (piece.Tree x ∷ [])
  unfolding the_steps
  tree = built_on (builder text) inner.steps (Did (act.Expr e_act.End) ∷ []) [] (piece.Tree x ∷ []) inner.builds

pub gives_back : (x : Expr) → IsPrintable x → IsTreeOf (printed x) x
gives_back x p =
    let text = printed x in
    let fine = whole text x p.written in
    let lex = lexed text (tokens x) fine.0 [] refl 0 in
    let n : length lex.lexemes ≡ length (tokens x) = same_length lex.reads in
    let t = p.tokens in
    let few : length lex.lexemes ≤ 1000 = omega (arith, n, t) in
    let numbered : CountsFrom 1 (calls x ++ []) = subst (CountsFrom 1) (sym (append-nil (calls x))) p.calls in
    let atom = (fine.1 64 p.levels 0 lex.last [] numbered lex.lexemes lex.reads []).0 in
    (the_steps text x lex.lexemes few atom, (lex.lexemes, lex.from, (sentence text x lex.lexemes few atom, counts text x lex.lexemes few atom)), tree text x lex.lexemes few atom)

-- ---- and nothing else

same_tree : (x y : Expr) → ◌≡◌ {A = Option (List (Piece Infallible))} (Some (piece.Tree x ∷ [])) (Some (piece.Tree y ∷ [])) → x ≡ y
same_tree x y e = cc

alone : (text : List ℕ) (x y : Expr) → IsTreeOf text x → IsTreeOf text y → y ≡ x
alone text x y a b =
    let same : b.0 ≡ a.0 = one_answer.steps start.Expression text b.0 a.0 b.1 a.1 in
    same_tree y x (sym b.2 ∙ ap (λ steps. built (builder text) steps []) same ∙ a.2)

pub prints_and_parses : PrintsAndParses
prints_and_parses x p = (gives_back x p, go (gives_back x p))
  where
    go : IsTreeOf (printed x) x → (answer : Result Expr ParseFault) → IsAnswer x answer → (answer ≡ Ok x) ⊎ (answer ≡ Err fault.NoMemory)
    go is (Ok y) h = inl (ap (λ z. Ok z) (alone (printed x) x y is h))
    go is (Err (fault.Syntax at)) h = absurd (one_answer.apart start.Expression (printed x) is.0 at is.1 h)
    go is (Err fault.NoMemory) h = inr refl
