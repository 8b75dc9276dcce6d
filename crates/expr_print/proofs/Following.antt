-- Derivations along the tokens: each combinator takes what it needs in front, and goes on with the rest.
use Rattle.std.proofs.Common.{◌≡◌, ℕ, true, false, List, [], ◌∷◌, ◌++◌, Option, Some, None, refl, sym, ap, ◌∙◌, subst, append_assoc}
use Rattle.std.specs.declared.convert.Infallible.{Infallible}
use Rattle.ll1_grammar.specs.declared.symbol.Symbol.TheVariants.{Nonterminal}
use Rattle.ll1_grammar.specs.Table.{entry, nests, laid_out, fits}
use Rattle.notebook_grammar.specs.declared.kind.Kind.{Kind}
use Rattle.notebook_grammar.specs.declared.rule.Rule.{Rule}
use Rattle.notebook_grammar.specs.declared.rule.Rule.TheVariants as rule
use Rattle.notebook_grammar.specs.declared.rule.ExprRule.{ExprRule}
use Rattle.notebook_grammar.specs.declared.rule.ExprRule.TheVariants as e
use Rattle.notebook_grammar.specs.declared.action.ExprAction.{ExprAction}
use Rattle.notebook_grammar.specs.declared.lexeme.Lexeme.{Lexeme}
use Rattle.notebook_grammar.specs.Kinds.{code_of}
use Rattle.notebook_grammar.specs.Rows.{Items}
use Rattle.notebook_grammar.specs.Expressions as expressions
use Rattle.notebook_grammar.specs.Lexemes.{calls_with}
use Rattle.notebook_grammar.specs.Language.{alternatives, at_room, Symbols}
use Rattle.notebook_grammar.specs.Limits.{after_expr}
use Rattle.expr_parse.specs.declared.piece.Piece.TheVariants as piece
use Rattle.expr_parse.specs.Values.{value_of}
use Rattle.expr_parse.specs.Pieces.{did, put}
use Rattle.expr_print.specs.Tokens.{Tokens, tokens}
use Rattle.expr_print.proofs.Reading.{kind_in, Reads, none, one}
use Rattle.expr_print.proofs.Giving.{Pieces, Gives, acts, joined, rule_at, token_at, action, flat, same_kind, other, value}
use Rattle.expr_print.proofs.Chains.{from_or, or_rest, at_signed, at_product, at_sum, at_joined, at_not, at_and, at_or}
use Rattle.expr_print.proofs.Parts.{Part, Bounds, first_written, first_fits, first_counts, rest_of}

-- ---- where tokens are joined

record Split (text : List ℕ) (before : ℕ) (ts us : Tokens) (ls : List Lexeme) (last : ℕ) : Type 0 where
  first : List Lexeme
  second : List Lexeme
  between : ℕ
  is : ls ≡ first ++ second
  reads : Reads text before ts first between
  rest : Reads text between us second last

split : {text : List ℕ} (ts us : Tokens) (before last : ℕ) (ls : List Lexeme) → Reads text before (ts ++ us) ls last → Split text before ts us ls last
split [] us before last ls d = record { first = []; second = ls; between = before; is = refl; reads = none; rest = d }
split {text = text} (t ∷ ts) us before last ls d = go (λ c l i. split ts us c last l i) d
  where
    go : ((c : ℕ) (l : List Lexeme) → Reads text c (ts ++ us) l last → Split text c ts us l last) → {x : List Lexeme} → Reads text before (t ∷ (ts ++ us)) x last → Split text before (t ∷ ts) us x last
    go ih (one {l = l} {ls = tail} h i) =
        let r = ih l.call tail i in
        record { first = l ∷ r.first; second = r.second; between = r.between; is = ap (λ x. l ∷ x) r.is; reads = one h r.reads; rest = r.rest }

pub regrouped : {text : List ℕ} {before last : ℕ} {ls : List Lexeme} (a b c : Tokens) → Reads text before ((a ++ b) ++ c) ls last → Reads text before (a ++ (b ++ c)) ls last
regrouped {text = text} {before = before} {last = last} {ls = ls} a b c d = subst (λ x. Reads text before x ls last) (append_assoc a b c) d

-- ---- what is aimed at: the pieces and the CAVEATs in the end, and what the rest gives besides
pub record Aim : Type 1 where
  pub text : List ℕ
  pub end : Pieces
  pub last : ℕ
  pub besides : Type 0

abbrev pub Both : Aim → Symbols → List Lexeme → Pieces → Type 0
Both g s ls st = Gives g.text s ls st g.end × g.besides

-- a derivation of the rest, of these tokens after so many CAVEATs
abbrev pub After : Aim → ℕ → Tokens → Symbols → Pieces → Type 0
After g before us s st = (rest : List Lexeme) → Reads g.text before us rest g.last → Both g s rest st

-- the same, with the parts that are left
abbrev pub Onward : (g : Aim) → ℕ → List (Part g.text) → List ℕ → Tokens → Symbols → Pieces → Type 0
Onward g room ps more us s st = (before : ℕ) → Bounds g.text room before ps more → After g before us s st

module _ (g : Aim) where
  pub acting : {s : Symbols} {ls : List Lexeme} {st : Pieces} (a : ExprAction) (mid : Pieces) → ((count : Option ℕ) → after_expr a count ≡ count) → did a st ≡ Some mid
      → Both g s ls mid → Both g (action a ∷ s) ls st
  acting a mid k h p = (acts k h p.0, p.1)

  pub othered : {s : Symbols} {ls : List Lexeme} {st : Pieces} (room : ℕ) (r : ExprRule) (items : Items) → expressions.otherwise r ≡ Some items → nests items ≡ false
      → Both g (laid_out room items ++ s) ls st → Both g (rule_at room r ∷ s) ls st
  othered room r items h f p = (other r room items h f p.0, p.1)

  -- a rule that is empty
  pub emptied : {s : Symbols} {ls : List Lexeme} {st : Pieces} (room : ℕ) (r : ExprRule) → expressions.otherwise r ≡ Some [] → Both g s ls st → Both g (rule_at room r ∷ s) ls st
  emptied room r h p = othered room r [] h refl p

  module _ {before : ℕ} {us : Tokens} {ls : List Lexeme} {st : Pieces} where
    -- a token with a value
    pub valued : (room : ℕ) (r : Rule) (kind : Kind) (items : Items) (s : Symbols) → entry (code_of kind) (alternatives r) ≡ Some items → fits room items ≡ true
        → (t : List ℕ) → kind_in t ≡ Some kind → (next : ℕ) → calls_with kind before ≡ next
        → After g next us (laid_out room items ++ s) (put (value_of kind t next) st) → Reads g.text before (t ∷ us) ls g.last → Both g (Nonterminal (at_room r room) ∷ s) ls st
    valued room r kind items s en f t k next n after d = go after d
      where
        go : After g next us (laid_out room items ++ s) (put (value_of kind t next) st) → {x : List Lexeme} → Reads g.text before (t ∷ us) x g.last → Both g (Nonterminal (at_room r room) ∷ s) x st
        go after (one {l = l} {ls = tail} h i) =
            let same : kind ≡ l.kind = same_kind (kind_in t) kind l.kind k h.kind in
            let is : l.call ≡ next = h.call ∙ ap (λ x. calls_with x before) (sym same) ∙ n in
            let p = after tail (subst (λ c. Reads g.text c us tail g.last) is i) in
            (value r room kind items en f before t l h k (subst (λ c. Gives g.text (laid_out room items ++ s) tail (put (value_of kind t c) st) g.end) (sym is) p.0), p.1)

    -- a word or a mark
    pub worded : (room : ℕ) (r : Rule) (kind : Kind) (items : Items) (s : Symbols) → entry (code_of kind) (alternatives r) ≡ Some items → fits room items ≡ true
        → (t : List ℕ) → kind_in t ≡ Some kind → calls_with kind before ≡ before → value_of {M = Infallible} kind t before ≡ None
        → After g before us (laid_out room items ++ s) st → Reads g.text before (t ∷ us) ls g.last → Both g (Nonterminal (at_room r room) ∷ s) ls st
    worded room r kind items s en f t k n v after d =
        valued room r kind items s en f t k before n (λ rest i. subst (λ o. Both g (laid_out room items ++ s) rest (put o st)) (sym v) (after rest i)) d

    -- an expected word or mark
    pub met : (room : ℕ) (kind : Kind) (s : Symbols) → entry (code_of kind) (alternatives (rule.Expect kind)) ≡ Some []
        → (t : List ℕ) → kind_in t ≡ Some kind → calls_with kind before ≡ before → value_of {M = Infallible} kind t before ≡ None
        → After g before us s st → Reads g.text before (t ∷ us) ls g.last → Both g (token_at room kind ∷ s) ls st
    met room kind s en t k n v after d = worded room (rule.Expect kind) kind [] s en (flat room [] refl) t k n v after d

  -- an operand, and then the rest
  module _ (room : ℕ) {before : ℕ} (p : Part g.text) {ps : List (Part g.text)} {more : List ℕ} (us : Tokens) {ls : List Lexeme} {st : Pieces} (s : Symbols)
      (b : Bounds g.text room before (p ∷ ps) more) where
    along : (r : ExprRule) (t : Symbols) → ((u v : List Lexeme) → Gives g.text (rule_at room e.Atom ∷ []) u st (piece.Tree p.0 ∷ st) → Gives g.text t v (piece.Tree p.0 ∷ st) g.end → Gives g.text (rule_at room r ∷ s) (u ++ v) st g.end)
        → Onward g room ps more us t (piece.Tree p.0 ∷ st) → Reads g.text before (tokens p.0 ++ us) ls g.last → Both g (rule_at room r ∷ s) ls st
    along r t join onward d =
        let c = split (tokens p.0) us before g.last ls d in
        let a = (p.1 (first_written b)).1 room (first_fits b) before c.between _ (first_counts b) c.first c.reads st in
        let q = onward c.between (rest_of b c.between a.1) c.second c.rest in
        (subst (λ y. Gives g.text (rule_at room r ∷ s) y st g.end) (sym c.is) (join c.first c.second a.0 q.0), q.1)

    -- with an operator after it
    pub first : Onward g room ps more us (or_rest room s) (piece.Tree p.0 ∷ st) → Reads g.text before (tokens p.0 ++ us) ls g.last → Both g (rule_at room e.Or ∷ s) ls st
    first onward d = along e.Or (or_rest room s) (λ u v a b. from_or room s (u ++ v) (joined a (or_rest room s) v g.end b)) onward d

    -- alone, at a rule
    pub as_signed : Onward g room ps more us s (piece.Tree p.0 ∷ st) → Reads g.text before (tokens p.0 ++ us) ls g.last → Both g (rule_at room e.Signed ∷ s) ls st
    as_signed onward d = along e.Signed s (λ u v a b. at_signed room u a s v b) onward d

    pub as_product : Onward g room ps more us s (piece.Tree p.0 ∷ st) → Reads g.text before (tokens p.0 ++ us) ls g.last → Both g (rule_at room e.Product ∷ s) ls st
    as_product onward d = along e.Product s (λ u v a b. at_product room u a s v b) onward d

    pub as_sum : Onward g room ps more us s (piece.Tree p.0 ∷ st) → Reads g.text before (tokens p.0 ++ us) ls g.last → Both g (rule_at room e.Sum ∷ s) ls st
    as_sum onward d = along e.Sum s (λ u v a b. at_sum room u a s v b) onward d

    pub as_joined : Onward g room ps more us s (piece.Tree p.0 ∷ st) → Reads g.text before (tokens p.0 ++ us) ls g.last → Both g (rule_at room e.Joined ∷ s) ls st
    as_joined onward d = along e.Joined s (λ u v a b. at_joined room u a s v b) onward d

    pub as_not : Onward g room ps more us s (piece.Tree p.0 ∷ st) → Reads g.text before (tokens p.0 ++ us) ls g.last → Both g (rule_at room e.Not ∷ s) ls st
    as_not onward d = along e.Not s (λ u v a b. at_not room u a s v b) onward d

    pub as_and : Onward g room ps more us s (piece.Tree p.0 ∷ st) → Reads g.text before (tokens p.0 ++ us) ls g.last → Both g (rule_at room e.And ∷ s) ls st
    as_and onward d = along e.And s (λ u v a b. at_and room u a s v b) onward d

    pub as_or : Onward g room ps more us s (piece.Tree p.0 ∷ st) → Reads g.text before (tokens p.0 ++ us) ls g.last → Both g (rule_at room e.Or ∷ s) ls st
    as_or onward d = along e.Or s (λ u v a b. at_or room u a s v b) onward d
