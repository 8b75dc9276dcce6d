-- CASE.
use Rattle.std.proofs.Common.{◌≡◌, ℕ, suc, true, List, [], ◌∷◌, ◌++◌, Option, Some, None, map, refl, sym, subst, append_assoc}
use Rattle.std.specs.Prelude.{codes, option_map}
use Rattle.std.specs.List.{flat_map}
use Rattle.std.specs.Option.{option_to_list}
use Rattle.notebook_grammar.specs.declared.kind.Kind.TheVariants as k
use Rattle.notebook_grammar.specs.declared.rule.Rule.TheVariants as rule
use Rattle.notebook_grammar.specs.declared.rule.ExprRule.TheVariants as e
use Rattle.notebook_grammar.specs.declared.action.ExprAction.TheVariants as e_act
use Rattle.notebook_grammar.specs.declared.lexeme.Lexeme.{Lexeme}
use Rattle.notebook_grammar.specs.Rows.{token, expr, expr_in, expr_do}
use Rattle.notebook_grammar.specs.Language.{Symbols}
use Rattle.notebook_grammar.proofs.Cutting.{append_none}
use Rattle.expr_lang.specs.declared.expr.Arm.{Arm}
use Rattle.expr_lang.specs.declared.expr.Expr.TheVariants as made
use Rattle.expr_parse.specs.declared.piece.Piece.TheVariants as piece
use Rattle.expr_print.specs.Tokens.{Tokens, tokens, arms, case_end}
use Rattle.expr_print.specs.Printable.{is_some_list}
use Rattle.expr_print.proofs.Reading.{Reads}
use Rattle.expr_print.proofs.Giving.{Pieces, rule_at, token_at, action, flat}
use Rattle.expr_print.proofs.Parts.{Part, Bounds}
use Rattle.expr_print.proofs.Following.{Aim, Both, Onward, regrouped, acting, emptied, worded, met, as_or}
use Rattle.expr_print.proofs.Operators.{aim, finished}

-- the two parts of an arm
abbrev pub Halves : List ℕ → Type 0
Halves text = Part text × Part text

-- the parts of all arms
abbrev pub halves : {text : List ℕ} → List (Halves text) → List (Part text)
halves all = flat_map (λ a. a.0 ∷ a.1 ∷ []) all

-- the tokens of an arm, and the arm
abbrev pub half_texts : {text : List ℕ} → Halves text → Tokens × Tokens
half_texts a = (tokens a.0.0, tokens a.1.0)

abbrev pub joined_arm : {text : List ℕ} → Halves text → Arm
joined_arm a = record { condition = a.0.0; answer = a.1.0 }

module _ (g : Aim) (r : ℕ) (rest : List (Part g.text)) (more : List ℕ) (us : Tokens) (s : Symbols) where
  -- an arm after its WHEN
  arm : (a : Halves g.text) (all : List (Part g.text)) (vs : Tokens) (t : Symbols) (had : List Arm) (st : Pieces) {before : ℕ} {ls : List Lexeme} → Bounds g.text r before (a.0 ∷ a.1 ∷ all) more
      → Onward g r all more vs t (piece.Arms (had ++ joined_arm a ∷ []) ∷ st)
      → Reads g.text before (tokens a.0.0 ++ (codes "THEN" ∷ (tokens a.1.0 ++ vs))) ls g.last
      → Both g (rule_at r e.Or ∷ token_at r k.Then ∷ rule_at r e.Or ∷ action e_act.Arm ∷ t) ls (piece.Arms had ∷ st)
  arm a all vs t had st b onward d =
      as_or g r a.0 (codes "THEN" ∷ (tokens a.1.0 ++ vs)) (token_at r k.Then ∷ rule_at r e.Or ∷ action e_act.Arm ∷ t) b
      (λ m c rest i. met g r k.Then (rule_at r e.Or ∷ action e_act.Arm ∷ t) refl (codes "THEN") refl refl refl
      (λ rest i. as_or g r a.1 vs (action e_act.Arm ∷ t) c
      (λ m c rest i. acting g e_act.Arm _ (λ n. refl) refl (onward m c rest i)) i) i)
      d

  -- the tokens of an arm, apart from what follows
  apart : {before : ℕ} {ls : List Lexeme} (a : Halves g.text) (all : List (Halves g.text)) → Reads g.text before ((tokens a.0.0 ++ codes "THEN" ∷ (tokens a.1.0 ++ arms (map half_texts all))) ++ us) ls g.last
      → Reads g.text before (tokens a.0.0 ++ (codes "THEN" ∷ (tokens a.1.0 ++ (arms (map half_texts all) ++ us)))) ls g.last
  apart {before = before} {ls = ls} a all d =
      subst (λ x. Reads g.text before (tokens a.0.0 ++ (codes "THEN" ∷ x)) ls g.last) (append_assoc (tokens a.1.0) (arms (map half_texts all)) us)
      (regrouped (tokens a.0.0) (codes "THEN" ∷ (tokens a.1.0 ++ arms (map half_texts all))) us d)

  -- the further arms
  pub further : (all : List (Halves g.text)) (had : List Arm) (st : Pieces) {before : ℕ} {ls : List Lexeme} → Bounds g.text r before (halves all ++ rest) more
      → Onward g r rest more us s (piece.Arms (had ++ map joined_arm all) ∷ st)
      → Reads g.text before (arms (map half_texts all) ++ us) ls g.last → Both g (rule_at r e.ArmsTail ∷ s) ls (piece.Arms had ∷ st)
  further [] had st {before = before} {ls = ls} b onward d =
      emptied g r e.ArmsTail refl (subst (λ x. Both g s ls (piece.Arms x ∷ st)) (append_none had) (onward before b ls d))
  further (a ∷ all) had st b onward d =
      worded g r (rule.Expr e.ArmsTail) k.When (expr e.Or ∷ token k.Then ∷ expr e.Or ∷ expr_do e_act.Arm ∷ expr e.ArmsTail ∷ []) s refl (flat r _ refl) (codes "WHEN") refl refl refl
      (λ left i. arm a (halves all ++ rest) (arms (map half_texts all) ++ us) (rule_at r e.ArmsTail ∷ s) had st b
      (λ m c left i. further all (had ++ joined_arm a ∷ []) st c
      (λ m c left i. subst (λ x. Both g s left (piece.Arms x ∷ st)) (sym (append_assoc had (joined_arm a ∷ []) (map joined_arm all))) (onward m c left i)) i)
      (apart a all i))
      d

  -- the arms
  pub all_arms : (all : List (Halves g.text)) → is_some_list all ≡ true → (st : Pieces) {before : ℕ} {ls : List Lexeme} → Bounds g.text r before (halves all ++ rest) more
      → Onward g r rest more us s (piece.Arms (map joined_arm all) ∷ st)
      → Reads g.text before (arms (map half_texts all) ++ us) ls g.last → Both g (rule_at r e.Arm ∷ rule_at r e.ArmsTail ∷ s) ls (piece.Arms [] ∷ st)
  all_arms [] some st b onward d = cc
  all_arms (a ∷ all) some st b onward d =
      worded g r (rule.Expr e.Arm) k.When (expr e.Or ∷ token k.Then ∷ expr e.Or ∷ expr_do e_act.Arm ∷ []) (rule_at r e.ArmsTail ∷ s) refl (flat r _ refl) (codes "WHEN") refl refl refl
      (λ left i. arm a (halves all ++ rest) (arms (map half_texts all) ++ us) (rule_at r e.ArmsTail ∷ s) [] st b
      (λ m c left i. further all (joined_arm a ∷ []) st c onward i)
      (apart a all i))
      d

module _ {text : List ℕ} (r : ℕ) {before last : ℕ} {st : Pieces} {ls : List Lexeme} (more : List ℕ) where
  pub chosen : (all : List (Halves text)) → is_some_list all ≡ true → (otherwise : Option (Part text)) → Bounds text r before (halves all ++ option_to_list otherwise) more
      → Reads text before (codes "CASE" ∷ (arms (map half_texts all) ++ case_end (option_map (λ p. tokens p.0) otherwise))) ls last
      → Both (aim text (made.Case (map joined_arm all) (option_map (λ p. p.0) otherwise)) st last more) (rule_at (suc r) e.Atom ∷ []) ls st
  chosen all some None b d =
      let g = aim text (made.Case (map joined_arm all) None) st last more in
      worded g (suc r) (rule.Expr e.Atom) k.Case (expr_do e_act.BeginArms ∷ expr_in e.Arm ∷ expr_in e.ArmsTail ∷ expr_in e.CaseTail ∷ []) [] refl refl (codes "CASE") refl refl refl
      (λ left i. acting g e_act.BeginArms _ (λ n. refl) refl
      (all_arms g r [] more (codes "END" ∷ []) (rule_at r e.CaseTail ∷ []) all some st b
      (λ m c left i. worded g r (rule.Expr e.CaseTail) k.End (expr_do e_act.Case ∷ []) [] refl (flat r _ refl) (codes "END") refl refl refl
      (λ left i. acting g e_act.Case _ (λ n. refl) refl (finished more c.counts i)) i) i))
      d
  chosen all some (Some p) b d =
      let g = aim text (made.Case (map joined_arm all) (Some p.0)) st last more in
      worded g (suc r) (rule.Expr e.Atom) k.Case (expr_do e_act.BeginArms ∷ expr_in e.Arm ∷ expr_in e.ArmsTail ∷ expr_in e.CaseTail ∷ []) [] refl refl (codes "CASE") refl refl refl
      (λ left i. acting g e_act.BeginArms _ (λ n. refl) refl
      (all_arms g r (p ∷ []) more (codes "ELSE" ∷ (tokens p.0 ++ codes "END" ∷ [])) (rule_at r e.CaseTail ∷ []) all some st b
      (λ m c left i. worded g r (rule.Expr e.CaseTail) k.Else (expr e.Or ∷ token k.End ∷ expr_do e_act.CaseElse ∷ []) [] refl (flat r _ refl) (codes "ELSE") refl refl refl
      (λ left i. as_or g r p (codes "END" ∷ []) (token_at r k.End ∷ action e_act.CaseElse ∷ []) c
      (λ m c left i. met g r k.End (action e_act.CaseElse ∷ []) refl (codes "END") refl refl refl
      (λ left i. acting g e_act.CaseElse _ (λ n. refl) refl (finished more c.counts i)) i) i) i) i))
      d
