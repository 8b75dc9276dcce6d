-- Each form respects a relation between two readings that looking and giving respect. The laws are instances.
use Rattle.std.proofs.Common.{ℕ, Bool, true, false, Option, Some, None, Ok, Err, List, [], ◌∷◌, ◌++◌, map, subst}
use Rattle.std.specs.Bool.{⊤}
use Rattle.value_types.specs.declared.value.Value.{Value}
use Rattle.expr_lang.specs.declared.ops.BinaryOp.{BinaryOp}
use Rattle.expr_lang.specs.declared.ops.BinaryOp.TheVariants.{Or}
use Rattle.expr_lang.specs.declared.expr.Expr.{Expr}
use Rattle.expr_lang.specs.declared.expr.Arm.{Arm}
use Rattle.expr_lang.specs.declared.expr.Expr.TheOpen.{Expr-F}
use Rattle.expr_lang.specs.declared.expr.Expr.TheFolds.{map-Expr, fold-Expr, fold-Arm, fold-roll-Expr, fold-roll-Arm, ind-Expr}
use Rattle.expr_ops.specs.declared.aggregates.Aggregate.{Aggregate}
use Rattle.expr_ops.specs.declared.aggregates.Aggregate.TheVariants as aggregate
use Rattle.expr_ops.specs.Truths.{is_null, is_true}
use Rattle.expr_ops.specs.Ops.{decided}
use Rattle.cell_errors.specs.Answers.{Answer}
use Rattle.expr_meaning.specs.Forms.{unless, choose, applied, any_equal, one_of, like_of, first_arm, first_value, all_then, form}
use Rattle.expr_meaning.specs.Meaning.{arm_of}

module _ (V W : Type 0) (then_V : V → (Value → V) → V) (then_W : W → (Value → W) → W) (give_V : Answer Value → V) (give_W : Answer Value → W)
    (R : V → W → Type 0)
    (then_R : (x : V) (y : W) (f : Value → V) (g : Value → W) → R x y → ((v : Value) → R (f v) (g v)) → R (then_V x f) (then_W y g))
    (give_R : (a : Answer Value) → R (give_V a) (give_W a)) where
  unless_R : (a : Answer (Option Value)) (x : V) (y : W) → R x y → R (unless V then_V give_V a x) (unless W then_W give_W a y)
  unless_R (Ok (Some v)) x y r = give_R _
  unless_R (Ok None) x y r = r
  unless_R (Err e) x y r = give_R _

  choose_R : (t : Answer Bool) (a b : V) (c d : W) → R a c → R b d → R (choose V then_V give_V t a b) (choose W then_W give_W t c d)
  choose_R (Ok true) a b c d r s = r
  choose_R (Ok false) a b c d r s = s
  choose_R (Err e) a b c d r s = give_R _

  pub applied_R : (op : BinaryOp) (a b : V) (c d : W) → R a c → R b d → R (applied V then_V give_V op a b) (applied W then_W give_W op c d)
  applied_R op a b c d r s = then_R a c _ _ r (λ v. unless_R (decided op v) _ _ (then_R b d _ _ s (λ w. give_R _)))

  -- the same, pair by pair
  abbrev pub EachR : List V → List W → Type 0
  EachR [] [] = ⊤
  EachR (x ∷ xs) (y ∷ ys) = R x y × EachR xs ys
  EachR _ _ = ⊥

  abbrev pub EachArm : List (V × V) → List (W × W) → Type 0
  EachArm [] [] = ⊤
  EachArm (x ∷ xs) (y ∷ ys) = (R x.0 y.0 × R x.1 y.1) × EachArm xs ys
  EachArm _ _ = ⊥

  any_equal_R : (v : Value) (xs : List V) (ys : List W) (x : V) (y : W) → EachR xs ys → R x y → R (any_equal V then_V give_V x v xs) (any_equal W then_W give_W y v ys)
  any_equal_R v [] [] x y e r = r
  any_equal_R v (a ∷ xs) (b ∷ ys) x y e r = any_equal_R v xs ys _ _ e.1 (applied_R Or _ _ _ _ r (then_R _ _ _ _ e.0 (λ w. give_R _)))
  any_equal_R v [] (b ∷ ys) x y e r = absurd e
  any_equal_R v (a ∷ xs) [] x y e r = absurd e

  pub one_of_R : (x : V) (y : W) (xs : List V) (ys : List W) (negate : Bool) → R x y → EachR xs ys → R (one_of V then_V give_V x xs negate) (one_of W then_W give_W y ys negate)
  one_of_R x y xs ys negate r e = then_R _ _ _ _ r (λ v. then_R _ _ _ _ (any_equal_R v xs ys _ _ e (give_R _)) (λ t. give_R _))

  pub like_of_R : (a b : V) (c d : W) (negate : Bool) → R a c → R b d → R (like_of V then_V give_V a b negate) (like_of W then_W give_W c d negate)
  like_of_R a b c d negate r s = then_R a c _ _ r (λ v. then_R b d _ _ s (λ w. give_R _))

  pub first_arm_R : (xs : List (V × V)) (ys : List (W × W)) (x : V) (y : W) → EachArm xs ys → R x y → R (first_arm V then_V give_V xs x) (first_arm W then_W give_W ys y)
  first_arm_R [] [] x y e r = r
  first_arm_R (a ∷ xs) (b ∷ ys) x y e r = then_R _ _ _ _ e.0.0 (λ v. choose_R (is_true v) _ _ _ _ e.0.1 (first_arm_R xs ys x y e.1 r))
  first_arm_R [] (b ∷ ys) x y e r = absurd e
  first_arm_R (a ∷ xs) [] x y e r = absurd e

  pub first_value_R : (xs : List V) (ys : List W) → EachR xs ys → R (first_value V then_V give_V xs) (first_value W then_W give_W ys)
  first_value_R [] [] e = give_R _
  first_value_R (a ∷ xs) (b ∷ ys) e = then_R _ _ _ _ e.0 (λ v. choose_R (Ok (is_null v)) _ _ _ _ (first_value_R xs ys e.1) (give_R _))
  first_value_R [] (b ∷ ys) e = absurd e
  first_value_R (a ∷ xs) [] e = absurd e

  pub all_then_R : (xs : List V) (ys : List W) (done : List Value) (k : List Value → Answer Value) → EachR xs ys → R (all_then V then_V give_V xs done k) (all_then W then_W give_W ys done k)
  all_then_R [] [] done k e = give_R _
  all_then_R (a ∷ xs) (b ∷ ys) done k e = then_R _ _ _ _ e.0 (λ v. all_then_R xs ys (done ++ v ∷ []) k e.1)
  all_then_R [] (b ∷ ys) done k e = absurd e
  all_then_R (a ∷ xs) [] done k e = absurd e

  -- E are expressions and F arms, read by m and n
  module _ (E F : Type 0) (m : E → V) (n : E → W) (m' : F → V × V) (n' : F → W × W) where
    abbrev Holds : E → Type 0
    Holds e = R (m e) (n e)

    abbrev HoldsBoth : F → Type 0
    HoldsBoth a = R (m' a).0 (n' a).0 × R (m' a).1 (n' a).1

    abbrev Sound : Type 0
    Sound = (e : E) × Holds e

    abbrev SoundArm : Type 0
    SoundArm = (a : F) × HoldsBoth a

    each_sound : (es : List Sound) → EachR (map m (map (λ e. e.0) es)) (map n (map (λ e. e.0) es))
    each_sound [] = tt
    each_sound (e ∷ es) = (e.1, each_sound es)

    each_arm : (es : List SoundArm) → EachArm (map m' (map (λ e. e.0) es)) (map n' (map (λ e. e.0) es))
    each_arm [] = tt
    each_arm (e ∷ es) = ((e.1.0, e.1.1), each_arm es)

    module _ (find_V : Option (List ℕ) → List ℕ → V) (find_W : Option (List ℕ) → List ℕ → W) (caveat_V : ℕ → V → V) (caveat_W : ℕ → W → W)
        (count_V : V) (count_W : W) (over_V : Aggregate → V → V) (over_W : Aggregate → W → W)
        (find_R : (q : Option (List ℕ)) (name : List ℕ) → R (find_V q name) (find_W q name))
        (caveat_R : (call : ℕ) (x : V) (y : W) → R x y → R (caveat_V call x) (caveat_W call y))
        (count_R : R count_V count_W) (over_R : (op : Aggregate) (x : V) (y : W) → R x y → R (over_V op x) (over_W op y)) where
      abbrev layer_V : Expr-F E F → V
      layer_V d = form V then_V give_V find_V caveat_V count_V over_V (map-Expr E F V (V × V) m m' d)

      abbrev layer_W : Expr-F E F → W
      layer_W d = form W then_W give_W find_W caveat_W count_W over_W (map-Expr E F W (W × W) n n' d)

      form_R : (y : Expr-F Sound SoundArm) →
          R (layer_V (map-Expr Sound SoundArm E F (λ e. e.0) (λ a. a.0) y)) (layer_W (map-Expr Sound SoundArm E F (λ e. e.0) (λ a. a.0) y))
      form_R (Expr-F.Literal v) = give_R _
      form_R (Expr-F.Column qualifier name) = find_R qualifier name
      form_R (Expr-F.Unary op x) = then_R _ _ _ _ x.1 (λ v. give_R _)
      form_R (Expr-F.Binary op a b) = applied_R op _ _ _ _ a.1 b.1
      form_R (Expr-F.IsNull x negate) = then_R _ _ _ _ x.1 (λ v. give_R _)
      form_R (Expr-F.Like x y negate) = like_of_R _ _ _ _ negate x.1 y.1
      form_R (Expr-F.OneOf x list negate) = one_of_R _ _ _ _ negate x.1 (each_sound list)
      form_R (Expr-F.Case arms None) = first_arm_R _ _ _ _ (each_arm arms) (give_R _)
      form_R (Expr-F.Case arms (Some x)) = first_arm_R _ _ _ _ (each_arm arms) x.1
      form_R (Expr-F.Coalesce list) = first_value_R _ _ (each_sound list)
      form_R (Expr-F.Cast x kind) = then_R _ _ _ _ x.1 (λ v. give_R _)
      form_R (Expr-F.Caveat x message call) = caveat_R call _ _ x.1
      form_R Expr-F.CountAll = count_R
      form_R (Expr-F.Count x) = over_R aggregate.Count _ _ x.1
      form_R (Expr-F.Sum x) = over_R aggregate.Sum _ _ x.1
      form_R (Expr-F.Min x) = over_R aggregate.Min _ _ x.1
      form_R (Expr-F.Max x) = over_R aggregate.Max _ _ x.1

  -- so each expression does
  module _ (find_V : Option (List ℕ) → List ℕ → V) (find_W : Option (List ℕ) → List ℕ → W) (caveat_V : ℕ → V → V) (caveat_W : ℕ → W → W)
      (count_V : V) (count_W : W) (over_V : Aggregate → V → V) (over_W : Aggregate → W → W)
      (find_R : (q : Option (List ℕ)) (name : List ℕ) → R (find_V q name) (find_W q name))
      (caveat_R : (call : ℕ) (x : V) (y : W) → R x y → R (caveat_V call x) (caveat_W call y))
      (count_R : R count_V count_W) (over_R : (op : Aggregate) (x : V) (y : W) → R x y → R (over_V op x) (over_W op y)) where
    abbrev form_V : Expr-F V (V × V) → V
    form_V = form V then_V give_V find_V caveat_V count_V over_V

    abbrev form_W : Expr-F W (W × W) → W
    form_W = form W then_W give_W find_W caveat_W count_W over_W

    abbrev read_V : Expr → V
    read_V = fold-Expr V (V × V) form_V (arm_of V)

    abbrev read_W : Expr → W
    read_W = fold-Expr W (W × W) form_W (arm_of W)

    abbrev arm_V : Arm → V × V
    arm_V = fold-Arm V (V × V) form_V (arm_of V)

    abbrev arm_W : Arm → W × W
    arm_W = fold-Arm W (W × W) form_W (arm_of W)

    abbrev Law : Expr → Type 0
    Law e = R (read_V e) (read_W e)

    abbrev ArmLaw : Arm → Type 0
    ArmLaw a = R (arm_V a).0 (arm_W a).0 × R (arm_V a).1 (arm_W a).1

    pub respects : (e : Expr) → Law e
    respects = ind-Expr Law ArmLaw
        (λ x y is.
        rw (fold-roll-Expr V (V × V) form_V (arm_of V) x, fold-roll-Expr W (W × W) form_W (arm_of W) x)
        (subst (λ z. R (form_V (map-Expr Expr Arm V (V × V) read_V arm_V z)) (form_W (map-Expr Expr Arm W (W × W) read_W arm_W z))) is
        (form_R Expr Arm read_V read_W arm_V arm_W find_V find_W caveat_V caveat_W count_V count_W over_V over_W find_R caveat_R count_R over_R y)))
        (λ x y is.
        rw (fold-roll-Arm V (V × V) form_V (arm_of V) x, fold-roll-Arm W (W × W) form_W (arm_of W) x)
        (subst (λ z. R (read_V z.condition) (read_W z.condition) × R (read_V z.answer) (read_W z.answer)) is (y.condition.1, y.answer.1)))
