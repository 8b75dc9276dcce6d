-- Derivations with the pieces that they build.
use Rattle.std.proofs.Common.{◌≡◌, ℕ, zero, suc, ◌+◌, ◌≤◌, true, false, List, [], ◌∷◌, ◌++◌, Option, Some, None, length, refl, sym, ap, ◌∙◌, subst, arith, append_assoc}
use Rattle.std.specs.Prelude.{◌==◌, not, if◌then◌else◌}
use Rattle.std.specs.declared.convert.Infallible.{Infallible}
use Rattle.std.proofs.lemmas.Bool.{ne_eqb}
use Rattle.ll1_grammar.specs.declared.symbol.Symbol.{Symbol}
use Rattle.ll1_grammar.specs.declared.symbol.Symbol.TheVariants.{Nonterminal, Action as Act}
use Rattle.ll1_grammar.specs.declared.symbol.Step.TheVariants.{Took, Did}
use Rattle.ll1_grammar.specs.declared.item.Bounded.{Bounded}
use Rattle.ll1_grammar.specs.Grammar.{Derives}
use Rattle.ll1_grammar.specs.Grammar as grammar
use Rattle.ll1_grammar.specs.Table.{entry, nests, laid_out, fits, where_it_fits}
use Rattle.ll1_grammar.specs.Pieces.{built, and_then}
use Rattle.notebook_grammar.specs.declared.kind.Kind.{Kind}
use Rattle.notebook_grammar.specs.declared.rule.Rule.{Rule}
use Rattle.notebook_grammar.specs.declared.rule.Rule.TheVariants as rule
use Rattle.notebook_grammar.specs.declared.rule.ExprRule.{ExprRule}
use Rattle.notebook_grammar.specs.declared.action.Action.{Action}
use Rattle.notebook_grammar.specs.declared.action.Action.TheVariants as act
use Rattle.notebook_grammar.specs.declared.action.ExprAction.{ExprAction}
use Rattle.notebook_grammar.specs.declared.lexeme.Lexeme.{Lexeme}
use Rattle.notebook_grammar.specs.Kinds.{code_of}
use Rattle.notebook_grammar.specs.Rows.{Items}
use Rattle.notebook_grammar.specs.Expressions as expressions
use Rattle.notebook_grammar.specs.Language.{language, alternatives, at_room, Symbols, Steps}
use Rattle.notebook_grammar.specs.Limits.{after_expr, counted}
use Rattle.expr_parse.specs.Values.{token_text, value_of}
use Rattle.expr_parse.specs.Pieces.{Stack, did, took, put}
use Rattle.expr_parse.specs.Trees.{builder}
use Rattle.expr_print.proofs.Reading.{kind_in, Shows}

-- the pieces of an expression that stands alone
abbrev pub Pieces : Type 0
Pieces = Stack Infallible

-- the lexemes are a sentence of the symbols, which begins and ends no expression and makes the second pieces of the first
pub data Gives (text : List ℕ) : Symbols → List Lexeme → Pieces → Pieces → Type 0 where
  done : {st : Pieces} → Gives text [] [] st st
  acts : {a : ExprAction} {s : Symbols} {ls : List Lexeme} {st mid end : Pieces} → ((count : Option ℕ) → after_expr a count ≡ count) → did a st ≡ Some mid
      → Gives text s ls mid end → Gives text (Act (act.Expr a) ∷ s) ls st end
  takes : {n : Bounded Rule} {l : Lexeme} {r s : Symbols} {ls : List Lexeme} {st end : Pieces} → language.after n l ≡ Some r
      → Gives text (r ++ s) ls (took text l st) end → Gives text (Nonterminal n ∷ s) (l ∷ ls) st end
  expands : {n : Bounded Rule} {r s : Symbols} {ls : List Lexeme} {st end : Pieces} → language.otherwise n ≡ Some r
      → Gives text (r ++ s) ls st end → Gives text (Nonterminal n ∷ s) ls st end

-- one after another
pub joined : {text : List ℕ} {s : Symbols} {u : List Lexeme} {a b : Pieces} → Gives text s u a b
    → (t : Symbols) (v : List Lexeme) (c : Pieces) → Gives text t v b c → Gives text (s ++ t) (u ++ v) a c
joined done t v c e = e
joined (acts k h d) t v c e = acts k h (joined d t v c e)
joined {text = text} (takes {l = l} {r = r} {s = s} {ls = ls} {st = st} h d) t v c e =
    takes h (subst (λ x. Gives text x (ls ++ v) (took text l st) c) (append_assoc r s t) (joined d t v c e))
joined {text = text} (expands {r = r} {s = s} {ls = ls} {st = st} h d) t v c e =
    expands h (subst (λ x. Gives text x (ls ++ v) st c) (append_assoc r s t) (joined d t v c e))

-- ---- the steps

-- the steps, which count each token
pub record Stepped (text : List ℕ) (s : Symbols) (ls : List Lexeme) (st end : Pieces) : Type 0 where
  pub steps : Steps
  pub derives : Derives language s ls steps
  pub builds : built (builder text) steps st ≡ Some end
  pub counts : (c : ℕ) → c + length ls ≤ 1000 → counted (Some c) steps ≡ Some (Some (c + length ls))

pub stepped : {text : List ℕ} {s : Symbols} {ls : List Lexeme} {st end : Pieces} → Gives text s ls st end → Stepped text s ls st end
stepped done = record { steps = []; derives = grammar.ends; builds = refl; counts = λ c h. ap (λ n. Some (Some n)) (omega arith) }
stepped {text = text} (acts {a = a} k h d) =
    let r = stepped d in
    record {
      steps = Did (act.Expr a) ∷ r.steps;
      derives = grammar.acts r.derives;
      builds = ap (λ o. and_then o (built (builder text) r.steps)) h ∙ r.builds;
      counts = λ c i. ap (λ x. counted x r.steps) (k (Some c)) ∙ r.counts c i;
    }
stepped (takes {l = l} {ls = ls} h d) =
    let r = stepped d in
    record {
      steps = Took l ∷ r.steps;
      derives = grammar.takes h r.derives;
      builds = r.builds;
      counts = λ c i.
          let more : c + 1 + length ls ≤ 1000 = omega (arith, i) in
          let same : c + 1 + length ls ≡ c + length (l ∷ ls) = omega arith in
          let room : (c == 1000) ≡ false = ne_eqb c 1000 (λ e. omega (arith, i, e)) in
          ap (λ b. if b then None else counted (Some (c + 1)) r.steps) room ∙ r.counts (c + 1) more ∙ ap (λ n. Some (Some n)) same;
    }
stepped (expands h d) =
    let r = stepped d in
    record { steps = r.steps; derives = grammar.expands h r.derives; builds = r.builds; counts = r.counts }

-- ---- a rule of the table

-- a rule of expressions with its room, an expected token, an action
abbrev pub rule_at : ℕ → ExprRule → Symbol (Bounded Rule) Action
rule_at room r = Nonterminal (at_room (rule.Expr r) room)

abbrev pub token_at : ℕ → Kind → Symbol (Bounded Rule) Action
token_at room kind = Nonterminal (at_room (rule.Expect kind) room)

abbrev pub action : ExprAction → Symbol (Bounded Rule) Action
action a = Act (act.Expr a)

-- what doesn't nest fits everywhere
pub flat : (room : ℕ) (items : Items) → nests items ≡ false → fits room items ≡ true
flat zero items e = ap not e
flat (suc room) items e = refl

laid : (room : ℕ) (items : Items) → fits room items ≡ true → where_it_fits room (Some items) ≡ Some (laid_out room items)
laid room items e = ap (λ b. if b then Some (laid_out room items) else None) e

after_token : (r : Rule) (room : ℕ) (l : Lexeme) (kind : Kind) (items : Items) → l.kind ≡ kind → entry (code_of kind) (alternatives r) ≡ Some items → fits room items ≡ true
    → language.after (at_room r room) l ≡ Some (laid_out room items)
unfolding language
after_token r room l kind items k e f = ap (λ x. where_it_fits room (entry (code_of x) (alternatives r))) k ∙ ap (where_it_fits room) e ∙ laid room items f

no_token : (r : ExprRule) (room : ℕ) (items : Items) → expressions.otherwise r ≡ Some items → fits room items ≡ true → language.otherwise (at_room (rule.Expr r) room) ≡ Some (laid_out room items)
unfolding language
no_token r room items e f = ap (where_it_fits room) e ∙ laid room items f

pub same_kind : (o : Option Kind) (a b : Kind) → o ≡ Some a → o ≡ Some b → a ≡ b
same_kind o a b e f = cc

module _ {text : List ℕ} {s : Symbols} {ls : List Lexeme} {st end : Pieces} where
  -- the side that begins with no token
  pub other : (r : ExprRule) (room : ℕ) (items : Items) → expressions.otherwise r ≡ Some items → nests items ≡ false
      → Gives text (laid_out room items ++ s) ls st end → Gives text (rule_at room r ∷ s) ls st end
  other r room items e f d = expands (no_token r room items e (flat room items f)) d

  -- nothing, where a rule may be empty
  pub skip : (r : ExprRule) (room : ℕ) → expressions.otherwise r ≡ Some [] → Gives text s ls st end → Gives text (rule_at room r ∷ s) ls st end
  skip r room e d = other r room [] e refl d

  -- a token that puts down a value or none
  pub value : (r : Rule) (room : ℕ) (kind : Kind) (items : Items) → entry (code_of kind) (alternatives r) ≡ Some items → fits room items ≡ true
      → (calls : ℕ) (t : List ℕ) (l : Lexeme) → Shows text calls t l → kind_in t ≡ Some kind
      → Gives text (laid_out room items ++ s) ls (put (value_of kind t l.call) st) end → Gives text (Nonterminal (at_room r room) ∷ s) (l ∷ ls) st end
  value r room kind items e f calls t l h k d =
      let same : kind ≡ l.kind = same_kind (kind_in t) kind l.kind k h.kind in
      takes (after_token r room l kind items (sym same) e f)
      (subst (λ x. Gives text (laid_out room items ++ s) ls (put (value_of x (token_text text l) l.call) st) end) same
      (subst (λ b. Gives text (laid_out room items ++ s) ls (put (value_of kind b l.call) st) end) (sym h.bytes) d))

  -- a token that is no value
  pub word : (r : Rule) (room : ℕ) (kind : Kind) (items : Items) → entry (code_of kind) (alternatives r) ≡ Some items → fits room items ≡ true
      → (calls : ℕ) (t : List ℕ) (l : Lexeme) → Shows text calls t l → kind_in t ≡ Some kind → ((call : ℕ) → value_of {M = Infallible} kind t call ≡ None)
      → Gives text (laid_out room items ++ s) ls st end → Gives text (Nonterminal (at_room r room) ∷ s) (l ∷ ls) st end
  word r room kind items e f calls t l h k none d =
      value r room kind items e f calls t l h k (subst (λ o. Gives text (laid_out room items ++ s) ls (put o st) end) (sym (none l.call)) d)

  -- an expected token, as `word`
  pub expected : (room : ℕ) (kind : Kind) → entry (code_of kind) (alternatives (rule.Expect kind)) ≡ Some []
      → (calls : ℕ) (t : List ℕ) (l : Lexeme) → Shows text calls t l → kind_in t ≡ Some kind → ((call : ℕ) → value_of {M = Infallible} kind t call ≡ None)
      → Gives text s ls st end → Gives text (token_at room kind ∷ s) (l ∷ ls) st end
  expected room kind e calls t l h k none d = word (rule.Expect kind) room kind [] e (flat room [] refl) calls t l h k none d
