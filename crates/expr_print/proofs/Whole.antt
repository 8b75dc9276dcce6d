-- Each expression is fine, by induction.
use Rattle.std.proofs.Common.{◌≡◌, ℕ, ◌+◌, Bool, true, List, [], ◌∷◌, ◌++◌, Option, Some, None, map, refl, sym, ap, ◌∙◌, subst}
use Rattle.std.specs.Prelude.{codes, ◌&&◌, option_map}
use Rattle.std.specs.List.{flat_map, list_all}
use Rattle.std.specs.Option.{option_to_list}
use Rattle.std.proofs.lemmas.Bool.{and_parts}
use Rattle.notebook_grammar.specs.declared.kind.Kind.TheVariants as k
use Rattle.expr_lang.specs.declared.ops.UnaryOp.TheVariants as one
use Rattle.expr_lang.specs.declared.expr.Expr.{Expr, roll-Expr}
use Rattle.expr_lang.specs.declared.expr.Expr.TheVariants as made
use Rattle.expr_lang.specs.declared.expr.Expr.TheVariants.{rolls-Literal, rolls-Column, rolls-Unary, rolls-Binary, rolls-IsNull, rolls-Like, rolls-OneOf, rolls-Case, rolls-Coalesce, rolls-Cast, rolls-Caveat, rolls-CountAll, rolls-Count, rolls-Sum, rolls-Min, rolls-Max}
use Rattle.expr_lang.specs.declared.expr.Arm.{Arm, out-Arm, out-roll-Arm, is-Arm'}
use Rattle.expr_lang.specs.declared.expr.Expr.TheOpen.{Expr-F}
use Rattle.expr_lang.specs.declared.expr.Expr.TheFolds.{map-Expr, fold-Expr, fold-Arm, fold-roll-Expr, fold_out-Arm, ind-Expr}
use Rattle.expr_print.specs.Tokens.{Tokens, form, arm, tokens, arms, case_end}
use Rattle.expr_print.specs.Printable.{most, calls_of, calls, levels_of, levels, is_written_form, is_written, is_some_list}
use Rattle.expr_print.proofs.Reading.{AreTokens}
use Rattle.expr_print.proofs.Parts.{Part, IsFine, Holds, bare}
use Rattle.expr_print.proofs.Calls.{length_is, trim_is, abs_is, sum_is, min_is, max_is}
use Rattle.expr_print.proofs.Cases.{Halves, halves, half_texts, joined_arm, chosen}
use Rattle.expr_print.proofs.Fine.{all_joined, is, numbers, deep, written, one_level, binary_fine, is_null_fine, like_fine, not_fine, minus_fine, one_of_fine, coalesce_fine, function_fine, count_fine, count_all_fine, cast_fine, caveat_fine, literal_fine, column_fine}

-- what is fine stays so along equations
moved : {text : List ℕ} {x y : Expr} {ts us : Tokens} {ns ms : List ℕ} {d n : ℕ} {w b : Bool} → x ≡ y → ts ≡ us → ns ≡ ms → d ≡ n → w ≡ b → IsFine text y us ms n b → IsFine text x ts ns d w
moved {text = text} {x = x} {ts = ts} {us = us} {ns = ns} {ms = ms} {d = d} {n = n} {b = b} p q r s t h =
    subst (λ z. IsFine text x ts ns d z) (sym t)
    (subst (λ z. IsFine text x ts ns z b) (sym s)
    (subst (λ z. IsFine text x ts z n b) (sym r)
    (subst (λ z. IsFine text x z ms n b) (sym q)
    (subst (λ z. IsFine text z us ms n b) (sym p) h))))

-- ---- CASE

-- an arm of which its parts are known
abbrev pub ArmPart : List ℕ → Type 0
ArmPart text = (a : Arm) × (Holds text (out-Arm a).condition × Holds text (out-Arm a).answer)

abbrev halved : {text : List ℕ} → ArmPart text → Halves text
halved a = (((out-Arm a.0).condition, a.1.0), ((out-Arm a.0).answer, a.1.1))

arms_again : {text : List ℕ} (all : List (ArmPart text)) → map (λ a. a.0) all ≡ map joined_arm (map halved all)
arms_again [] = refl
arms_again (a ∷ all) = ap (λ x. x ∷ map (λ a. a.0) all) (is-Arm' a.0) ∙ ap (λ l. joined_arm (halved a) ∷ l) (arms_again all)

-- the folds of arms are those of their parts
module _ (A : Type 0) (step : Expr-F A (A × A) → A) where
  abbrev folded : Expr → A
  folded = fold-Expr A (A × A) step arm

  abbrev folded_arm : Arm → A × A
  folded_arm = fold-Arm A (A × A) step arm

  by_halves : {text : List ℕ} (all : List (ArmPart text)) → map folded_arm (map (λ a. a.0) all) ≡ map (λ h. (folded h.0.0, folded h.1.0)) (map halved all)
  by_halves [] = refl
  by_halves (a ∷ all) =
      ap (λ x. x ∷ map folded_arm (map (λ a. a.0) all)) (fold_out-Arm A (A × A) step arm a.0)
      ∙ ap (λ l. (folded (out-Arm a.0).condition, folded (out-Arm a.0).answer) ∷ l) (by_halves all)

-- both parts of an arm
abbrev both_of : (A : Type 0) → A × A → List A
both_of A a = a.0 ∷ a.1 ∷ []

-- the parts of the arms, and then of the rest
parts_of : {text : List ℕ} {A : Type 0} (f : Expr → A) (all : List (Halves text)) (rest : List (Part text))
    → flat_map (both_of A) (map (λ h. (f h.0.0, f h.1.0)) all) ++ map f (bare rest) ≡ map f (bare (halves all ++ rest))
parts_of f [] rest = refl
parts_of f (a ∷ all) rest = ap (λ l. f a.0.0 ∷ f a.1.0 ∷ l) (parts_of f all rest)

module _ {text : List ℕ} where
  arms_tokens : (all : List (Halves text)) (rest : List (Part text)) → written (halves all ++ rest) ≡ true → AreTokens (arms (map half_texts all)) × (written rest ≡ true)
  arms_tokens [] rest w = (tt, w)
  arms_tokens (a ∷ all) rest w =
      let first = and_parts (is_written a.0.0) (written (a.1 ∷ (halves all ++ rest))) w in
      let second = and_parts (is_written a.1.0) (written (halves all ++ rest)) first.1 in
      let more = arms_tokens all rest second.1 in (
        (
          is (codes "WHEN") k.When refl,
          all_joined (tokens a.0.0) (codes "THEN" ∷ (tokens a.1.0 ++ arms (map half_texts all))) (a.0.1 first.0).0
              (is (codes "THEN") k.Then refl, all_joined (tokens a.1.0) (arms (map half_texts all)) (a.1.1 second.0).0 more.0),
        ),
        more.1,
      )

  end_tokens : (o : Option (Part text)) → written (option_to_list o) ≡ true → AreTokens (case_end (option_map (λ p. tokens p.0) o))
  end_tokens None w = (is (codes "END") k.End refl, tt)
  end_tokens (Some p) w = (is (codes "ELSE") k.Else refl, all_joined (tokens p.0) (codes "END" ∷ []) (p.1 (and_parts (is_written p.0) true w).0).0 (is (codes "END") k.End refl, tt))

  case_fine : (all : List (Halves text)) (o : Option (Part text))
      → IsFine text (made.Case (map joined_arm all) (option_map (λ p. p.0) o)) (codes "CASE" ∷ (arms (map half_texts all) ++ case_end (option_map (λ p. tokens p.0) o)))
      (numbers (halves all ++ option_to_list o)) (1 + deep (halves all ++ option_to_list o)) (is_some_list all && written (halves all ++ option_to_list o))
  case_fine all o w =
      let both = and_parts (is_some_list all) (written (halves all ++ option_to_list o)) w in
      one_level (made.Case (map joined_arm all) (option_map (λ p. p.0) o)) (codes "CASE" ∷ (arms (map half_texts all) ++ case_end (option_map (λ p. tokens p.0) o))) (halves all ++ option_to_list o)
      (λ w. let a = arms_tokens all (option_to_list o) w in
      (is (codes "CASE") k.Case refl, all_joined (arms (map half_texts all)) (case_end (option_map (λ p. tokens p.0) o)) a.0 (end_tokens o a.1)))
      (λ r before last more ls st b d. chosen r more all both.0 o b d)
      both.1

some_halves : {text : List ℕ} {A : Type 0} (f : Halves text → A) (all : List (ArmPart text)) → is_some_list (map f (map halved all)) ≡ is_some_list (map halved all)
some_halves f [] = refl
some_halves f (a ∷ all) = refl

-- ---- a form

module _ (text : List ℕ) where
  abbrev bare_form : Expr-F (Part text) (ArmPart text) → Expr-F Expr Arm
  bare_form y = map-Expr (Part text) (ArmPart text) Expr Arm (λ e. e.0) (λ a. a.0) y

  -- a form with what a fold gives of its parts
  abbrev in_form : (A : Type 0) → (Expr-F A (A × A) → A) → Expr-F Expr Arm → A
  in_form A step x = step (map-Expr Expr Arm A (A × A) (folded A step) (folded_arm A step) x)

  abbrev FormIsFine : Expr-F Expr Arm → Type 0
  FormIsFine x = IsFine text (roll-Expr x) (in_form Tokens form x) (in_form (List ℕ) calls_of x) (in_form ℕ levels_of x) (in_form Bool is_written_form x)

  -- the equations of CASE, with what its ELSE gives
  module _ (all : List (ArmPart text)) (rest : List (Part text)) where
    same_calls : flat_map (λ ns. ns) (flat_map (both_of (List ℕ)) (map (folded_arm (List ℕ) calls_of) (map (λ a. a.0) all)) ++ map calls (bare rest)) ≡ numbers (halves (map halved all) ++ rest)
    unfolding calls
    same_calls =
        ap (λ l. flat_map (λ ns. ns) (flat_map (both_of (List ℕ)) l ++ map calls (bare rest))) (by_halves (List ℕ) calls_of all)
        ∙ ap (λ l. flat_map (λ ns. ns) l) (parts_of calls (map halved all) rest)

    same_levels : 1 + most (flat_map (both_of ℕ) (map (folded_arm ℕ levels_of) (map (λ a. a.0) all)) ++ map levels (bare rest)) ≡ 1 + deep (halves (map halved all) ++ rest)
    unfolding levels
    same_levels =
        ap (λ l. 1 + most (flat_map (both_of ℕ) l ++ map levels (bare rest))) (by_halves ℕ levels_of all)
        ∙ ap (λ l. 1 + most l) (parts_of levels (map halved all) rest)

    same_written : is_some_list (map (folded_arm Bool is_written_form) (map (λ a. a.0) all)) && list_all (λ b. b) (flat_map (both_of Bool) (map (folded_arm Bool is_written_form) (map (λ a. a.0) all)) ++ map is_written (bare rest))
        ≡ is_some_list (map halved all) && written (halves (map halved all) ++ rest)
    unfolding is_written
    same_written =
        ap (λ l. is_some_list l && list_all (λ b. b) (flat_map (both_of Bool) l ++ map is_written (bare rest))) (by_halves Bool is_written_form all)
        ∙ ap (λ b. b && list_all (λ b. b) (flat_map (both_of Bool) (map (λ h. (is_written h.0.0, is_written h.1.0)) (map halved all)) ++ map is_written (bare rest))) (some_halves (λ h. (is_written h.0.0, is_written h.1.0)) all)
        ∙ ap (λ l. is_some_list (map halved all) && list_all (λ b. b) l) (parts_of is_written (map halved all) rest)

  case_alone : (all : List (ArmPart text)) → FormIsFine (bare_form (Expr-F.Case all None))
  unfolding tokens calls levels is_written
  case_alone all =
      moved (rolls-Case (map (λ a. a.0) all) None ∙ ap (λ l. made.Case l None) (arms_again all))
      (ap (λ l. codes "CASE" ∷ (arms l ++ case_end None)) (by_halves Tokens form all)) (same_calls all []) (same_levels all []) (same_written all []) (case_fine (map halved all) None)

  case_else : (all : List (ArmPart text)) (p : Part text) → FormIsFine (bare_form (Expr-F.Case all (Some p)))
  unfolding tokens calls levels is_written
  case_else all p =
      moved (rolls-Case (map (λ a. a.0) all) (Some p.0) ∙ ap (λ l. made.Case l (Some p.0)) (arms_again all))
      (ap (λ l. codes "CASE" ∷ (arms l ++ case_end (Some (tokens p.0)))) (by_halves Tokens form all)) (same_calls all (p ∷ [])) (same_levels all (p ∷ [])) (same_written all (p ∷ [])) (case_fine (map halved all) (Some p))

  form_fine : (y : Expr-F (Part text) (ArmPart text)) → FormIsFine (bare_form y)
  unfolding tokens calls levels is_written
  form_fine (Expr-F.Literal v) = moved {ns = []} (rolls-Literal v) refl refl refl refl (literal_fine v)
  form_fine (Expr-F.Column q name) = moved {ns = []} (rolls-Column q name) refl refl refl refl (column_fine q name)
  form_fine (Expr-F.Unary one.Not a) = moved (rolls-Unary one.Not a.0) refl refl refl refl (not_fine a)
  form_fine (Expr-F.Unary one.Minus a) = moved (rolls-Unary one.Minus a.0) refl refl refl refl (minus_fine a)
  form_fine (Expr-F.Unary one.Length a) = moved (rolls-Unary one.Length a.0) refl refl refl refl (function_fine (codes "LENGTH") (made.Unary one.Length) length_is a)
  form_fine (Expr-F.Unary one.Trim a) = moved (rolls-Unary one.Trim a.0) refl refl refl refl (function_fine (codes "TRIM") (made.Unary one.Trim) trim_is a)
  form_fine (Expr-F.Unary one.Abs a) = moved (rolls-Unary one.Abs a.0) refl refl refl refl (function_fine (codes "ABS") (made.Unary one.Abs) abs_is a)
  form_fine (Expr-F.Binary op a b) = moved (rolls-Binary op a.0 b.0) refl refl refl refl (binary_fine op a b)
  form_fine (Expr-F.IsNull a negated) = moved (rolls-IsNull a.0 negated) refl refl refl refl (is_null_fine negated a)
  form_fine (Expr-F.Like a b negated) = moved (rolls-Like a.0 b.0 negated) refl refl refl refl (like_fine negated a b)
  form_fine (Expr-F.OneOf a list negated) = moved (rolls-OneOf a.0 (bare list) negated) refl refl refl refl (one_of_fine negated a list)
  form_fine (Expr-F.Case all None) = case_alone all
  form_fine (Expr-F.Case all (Some p)) = case_else all p
  form_fine (Expr-F.Coalesce list) = moved (rolls-Coalesce (bare list)) refl refl refl refl (coalesce_fine list)
  form_fine (Expr-F.Cast a t) = moved (rolls-Cast a.0 t) refl refl refl refl (cast_fine a t)
  form_fine (Expr-F.Caveat a message number) = moved {ns = number ∷ numbers (a ∷ [])} (rolls-Caveat a.0 message number) refl refl refl refl (caveat_fine a message number)
  form_fine Expr-F.CountAll = moved {ns = []} rolls-CountAll refl refl refl refl count_all_fine
  form_fine (Expr-F.Count a) = moved (rolls-Count a.0) refl refl refl refl (count_fine a)
  form_fine (Expr-F.Sum a) = moved (rolls-Sum a.0) refl refl refl refl (function_fine (codes "SUM") made.Sum sum_is a)
  form_fine (Expr-F.Min a) = moved (rolls-Min a.0) refl refl refl refl (function_fine (codes "MIN") made.Min min_is a)
  form_fine (Expr-F.Max a) = moved (rolls-Max a.0) refl refl refl refl (function_fine (codes "MAX") made.Max max_is a)

  rolled : (x : Expr-F Expr Arm) → FormIsFine x → Holds text (roll-Expr x)
  unfolding tokens calls levels is_written
  rolled x h =
      moved refl (fold-roll-Expr Tokens (Tokens × Tokens) form arm x) (fold-roll-Expr (List ℕ) (List ℕ × List ℕ) calls_of arm x)
      (fold-roll-Expr ℕ (ℕ × ℕ) levels_of arm x) (fold-roll-Expr Bool (Bool × Bool) is_written_form arm x) h

  pub whole : (x : Expr) → Holds text x
  whole =
      ind-Expr (Holds text) (λ a. Holds text (out-Arm a).condition × Holds text (out-Arm a).answer)
      (λ x y is. subst (λ z. Holds text (roll-Expr z)) is (rolled (bare_form y) (form_fine y)))
      (λ x y is. subst (λ z. Holds text z.condition × Holds text z.answer) (is ∙ sym (out-roll-Arm x)) (y.condition.1, y.answer.1))
