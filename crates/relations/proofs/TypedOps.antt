-- Operators on values give values of their types.
use Rattle.std.proofs.Common.{◌≡◌, ℕ, ℤ, Bool, true, false, ◌&&◌, ◌||◌, Option, Some, None, Ok, Err, List, refl, subst, ap, sym, inl, inr, ◌⊎◌}
use Rattle.std.specs.Prelude.{if◌then◌else◌, nat_le, length}
use Rattle.std.specs.declared.cmp.Ordering.{Ordering}
use Rattle.value_types.specs.declared.value.ColumnType.{ColumnType}
use Rattle.value_types.specs.declared.value.ColumnType.TheVariants as kind
use Rattle.value_types.specs.declared.value.Value.{Value}
use Rattle.value_types.specs.declared.value.Value.TheVariants.{Null, Bool as Truth, Int, Fixed, Text}
use Rattle.cell_errors.specs.Answers.{Answer, and_then}
use Rattle.cell_errors.specs.declared.fault.CellError.TheVariants as error
use Rattle.expr_lang.specs.declared.ops.UnaryOp.{UnaryOp}
use Rattle.expr_lang.specs.declared.ops.UnaryOp.TheVariants as unary
use Rattle.expr_lang.specs.declared.ops.BinaryOp.{BinaryOp}
use Rattle.expr_lang.specs.declared.ops.BinaryOp.TheVariants as binary
use Rattle.expr_ops.specs.declared.number.Arithmetic.{Arithmetic}
use Rattle.expr_ops.specs.declared.number.Arithmetic.TheVariants as by
use Rattle.expr_ops.specs.Truths.{is_null, truth, truth_value, opposite, negated, negated_if, or_decided, and_decided, or_rest, and_rest}
use Rattle.expr_ops.specs.Arithmetic.{an_int, a_fixed, is_number, is_int, null_where, on_ints, on_fixeds, in_range, ten_thousandths, calculated, remaining, opposed, absolute, remainder}
use Rattle.expr_ops.specs.Compare.{order, tested, compared}
use Rattle.expr_ops.specs.Texts.{like, is_text, length_of, trimmed, limited, joined}
use Rattle.expr_ops.specs.Casts.{cast, read_as}
use Rattle.expr_ops.specs.Ops.{unary_of, decided, binary_of}
use Rattle.expr_meaning.specs.declared.expr_type.ExprType.{ExprType}
use Rattle.expr_meaning.specs.declared.expr_type.ExprType.TheVariants.{Null as Unknown, Of}
use Rattle.expr_meaning.specs.Types.{type_of_value, where_bool, where_text, where_int, number_type, numbers_type, common, comparison_type, unary_type, remainder_type, binary_type, cast_type}
use Rattle.relations.proofs.Gathered.{fine, the_same, then_ok}

-- a value of a type, or NULL
abbrev pub Is : Value → ExprType → Type 0
Is v t = (v ≡ Null) ⊎ (type_of_value v ≡ t)

pub null_is : (v : Value) (t : ExprType) → fine Null ≡ fine v → Is v t
null_is v t e = inl (sym (the_same Null v e))

pub exactly : (w v : Value) → fine w ≡ fine v → Is v (type_of_value w)
exactly w v e = inr (ap type_of_value (sym (the_same w v e)))

some_same : (a b : Value) → Some a ≡ Some b → a ≡ b
some_same a b e = cc

same_type : (t u : ExprType) → fine t ≡ fine u → u ≡ t
same_type t u e = sym (the_same t u e)

-- a value of the type of NULL alone is NULL
pub null_only : (v : Value) → type_of_value v ≡ Unknown → v ≡ Null
null_only Null e = refl
null_only (Truth b) e = cc
null_only (Int n) e = cc
null_only (Fixed n) e = cc
null_only (Text t) e = cc

pub of_unknown : (v : Value) (t : ExprType) → Is v Unknown → Is v t
of_unknown v t i = elim i [ inl e ↦ inl e | inr e ↦ inl (null_only v e) ]

-- ---- types

pub where_bool_is : (w t u : ExprType) → where_bool w t ≡ Ok u → u ≡ w
where_bool_is w Unknown u e = same_type w u e
where_bool_is w (Of kind.Bool) u e = same_type w u e
where_bool_is w (Of kind.Int) u e = cc
where_bool_is w (Of kind.Fixed) u e = cc
where_bool_is w (Of kind.Text) u e = cc

pub where_text_is : (w t u : ExprType) → where_text w t ≡ Ok u → u ≡ w
where_text_is w Unknown u e = same_type w u e
where_text_is w (Of kind.Bool) u e = cc
where_text_is w (Of kind.Int) u e = cc
where_text_is w (Of kind.Fixed) u e = cc
where_text_is w (Of kind.Text) u e = same_type w u e

pub where_int_is : (w t u : ExprType) → where_int w t ≡ Ok u → u ≡ w
where_int_is w Unknown u e = same_type w u e
where_int_is w (Of kind.Bool) u e = cc
where_int_is w (Of kind.Int) u e = same_type w u e
where_int_is w (Of kind.Fixed) u e = cc
where_int_is w (Of kind.Text) u e = cc

pub comparison_is : (t u r : ExprType) → comparison_type t u ≡ Ok r → r ≡ Of kind.Bool
comparison_is Unknown u r e = same_type (Of kind.Bool) r e
comparison_is (Of kind.Bool) Unknown r e = same_type (Of kind.Bool) r e
comparison_is (Of kind.Bool) (Of kind.Bool) r e = same_type (Of kind.Bool) r e
comparison_is (Of kind.Bool) (Of kind.Int) r e = cc
comparison_is (Of kind.Bool) (Of kind.Fixed) r e = cc
comparison_is (Of kind.Bool) (Of kind.Text) r e = cc
comparison_is (Of kind.Int) Unknown r e = same_type (Of kind.Bool) r e
comparison_is (Of kind.Int) (Of kind.Bool) r e = cc
comparison_is (Of kind.Int) (Of kind.Int) r e = same_type (Of kind.Bool) r e
comparison_is (Of kind.Int) (Of kind.Fixed) r e = same_type (Of kind.Bool) r e
comparison_is (Of kind.Int) (Of kind.Text) r e = cc
comparison_is (Of kind.Fixed) Unknown r e = same_type (Of kind.Bool) r e
comparison_is (Of kind.Fixed) (Of kind.Bool) r e = cc
comparison_is (Of kind.Fixed) (Of kind.Int) r e = same_type (Of kind.Bool) r e
comparison_is (Of kind.Fixed) (Of kind.Fixed) r e = same_type (Of kind.Bool) r e
comparison_is (Of kind.Fixed) (Of kind.Text) r e = cc
comparison_is (Of kind.Text) Unknown r e = same_type (Of kind.Bool) r e
comparison_is (Of kind.Text) (Of kind.Bool) r e = cc
comparison_is (Of kind.Text) (Of kind.Int) r e = cc
comparison_is (Of kind.Text) (Of kind.Fixed) r e = cc
comparison_is (Of kind.Text) (Of kind.Text) r e = same_type (Of kind.Bool) r e

pub remainder_is : (t u r : ExprType) → remainder_type t u ≡ Ok r → r ≡ Of kind.Int
remainder_is t u r e = let p = then_ok (where_int (Of kind.Int) t) (λ v. where_int (Of kind.Int) u) r e in where_int_is (Of kind.Int) u r p.2

pub cast_type_is : (k : ColumnType) (t r : ExprType) → cast_type k t ≡ Ok r → r ≡ Of k
cast_type_is kind.Bool Unknown r e = same_type (Of kind.Bool) r e
cast_type_is kind.Bool (Of kind.Bool) r e = same_type (Of kind.Bool) r e
cast_type_is kind.Bool (Of kind.Int) r e = cc
cast_type_is kind.Bool (Of kind.Fixed) r e = cc
cast_type_is kind.Bool (Of kind.Text) r e = same_type (Of kind.Bool) r e
cast_type_is kind.Int Unknown r e = same_type (Of kind.Int) r e
cast_type_is kind.Int (Of kind.Bool) r e = cc
cast_type_is kind.Int (Of kind.Int) r e = same_type (Of kind.Int) r e
cast_type_is kind.Int (Of kind.Fixed) r e = same_type (Of kind.Int) r e
cast_type_is kind.Int (Of kind.Text) r e = same_type (Of kind.Int) r e
cast_type_is kind.Fixed Unknown r e = same_type (Of kind.Fixed) r e
cast_type_is kind.Fixed (Of kind.Bool) r e = cc
cast_type_is kind.Fixed (Of kind.Int) r e = same_type (Of kind.Fixed) r e
cast_type_is kind.Fixed (Of kind.Fixed) r e = same_type (Of kind.Fixed) r e
cast_type_is kind.Fixed (Of kind.Text) r e = same_type (Of kind.Fixed) r e
cast_type_is kind.Text Unknown r e = same_type (Of kind.Text) r e
cast_type_is kind.Text (Of kind.Bool) r e = same_type (Of kind.Text) r e
cast_type_is kind.Text (Of kind.Int) r e = same_type (Of kind.Text) r e
cast_type_is kind.Text (Of kind.Fixed) r e = same_type (Of kind.Text) r e
cast_type_is kind.Text (Of kind.Text) r e = same_type (Of kind.Text) r e

-- a value of one of two branches is of the type that they agree on
pub common_is : (v : Value) (s t r : ExprType) → common s t ≡ Ok r → (Is v s → Is v r) × (Is v t → Is v r)
common_is v Unknown t r e = (λ i. of_unknown v r i, λ i. subst (Is v) (the_same t r e) i)
common_is v (Of kind.Bool) Unknown r e = (λ i. subst (Is v) (the_same (Of kind.Bool) r e) i, λ i. of_unknown v r i)
common_is v (Of kind.Bool) (Of kind.Bool) r e = (λ i. subst (Is v) (the_same (Of kind.Bool) r e) i, λ i. subst (Is v) (the_same (Of kind.Bool) r e) i)
common_is v (Of kind.Bool) (Of kind.Int) r e = cc
common_is v (Of kind.Bool) (Of kind.Fixed) r e = cc
common_is v (Of kind.Bool) (Of kind.Text) r e = cc
common_is v (Of kind.Int) Unknown r e = (λ i. subst (Is v) (the_same (Of kind.Int) r e) i, λ i. of_unknown v r i)
common_is v (Of kind.Int) (Of kind.Bool) r e = cc
common_is v (Of kind.Int) (Of kind.Int) r e = (λ i. subst (Is v) (the_same (Of kind.Int) r e) i, λ i. subst (Is v) (the_same (Of kind.Int) r e) i)
common_is v (Of kind.Int) (Of kind.Fixed) r e = cc
common_is v (Of kind.Int) (Of kind.Text) r e = cc
common_is v (Of kind.Fixed) Unknown r e = (λ i. subst (Is v) (the_same (Of kind.Fixed) r e) i, λ i. of_unknown v r i)
common_is v (Of kind.Fixed) (Of kind.Bool) r e = cc
common_is v (Of kind.Fixed) (Of kind.Int) r e = cc
common_is v (Of kind.Fixed) (Of kind.Fixed) r e = (λ i. subst (Is v) (the_same (Of kind.Fixed) r e) i, λ i. subst (Is v) (the_same (Of kind.Fixed) r e) i)
common_is v (Of kind.Fixed) (Of kind.Text) r e = cc
common_is v (Of kind.Text) Unknown r e = (λ i. subst (Is v) (the_same (Of kind.Text) r e) i, λ i. of_unknown v r i)
common_is v (Of kind.Text) (Of kind.Bool) r e = cc
common_is v (Of kind.Text) (Of kind.Int) r e = cc
common_is v (Of kind.Text) (Of kind.Fixed) r e = cc
common_is v (Of kind.Text) (Of kind.Text) r e = (λ i. subst (Is v) (the_same (Of kind.Text) r e) i, λ i. subst (Is v) (the_same (Of kind.Text) r e) i)

-- ---- truths and comparisons

truth_is : (o : Option Bool) (v : Value) → fine (truth_value o) ≡ fine v → Is v (Of kind.Bool)
truth_is None v e = null_is v _ e
truth_is (Some b) v e = exactly (Truth b) v e

negated_is : (a v : Value) → negated a ≡ Ok v → Is v (Of kind.Bool)
negated_is a v e = let p = then_ok (truth a) (λ t. Ok (truth_value (opposite t))) v e in truth_is (opposite p.0) v p.2

pub negate_is : (negate : Bool) (a v : Value) → Is a (Of kind.Bool) → negated_if negate a ≡ Ok v → Is v (Of kind.Bool)
negate_is true a v i e = negated_is a v e
negate_is false a v i e = subst (λ z. Is z (Of kind.Bool)) (the_same a v e) i

tested_is : (test : Ordering → Bool) (o : Option Ordering) (v : Value) → fine (tested test o) ≡ fine v → Is v (Of kind.Bool)
tested_is test None v e = null_is v _ e
tested_is test (Some o) v e = exactly (Truth (test o)) v e

pub compared_is : (test : Ordering → Bool) (a b v : Value) → compared test a b ≡ Ok v → Is v (Of kind.Bool)
compared_is test a b v e = let p = then_ok (order a b) (λ o. Ok (tested test o)) v e in tested_is test p.0 v p.2

-- ---- numbers and texts

pub int_is : (x : Answer ℤ) (v : Value) → an_int x ≡ Ok v → Is v (Of kind.Int)
int_is (Ok n) v e = exactly (Int n) v e
int_is (Err d) v e = cc

pub fixed_is : (x : Answer ℤ) (v : Value) → a_fixed x ≡ Ok v → Is v (Of kind.Fixed)
fixed_is (Ok n) v e = exactly (Fixed n) v e
fixed_is (Err d) v e = cc

widened_is : (x : Answer ℤ) (f : ℤ → Answer ℤ) (v : Value) → and_then x (λ w. a_fixed (f w)) ≡ Ok v → Is v (Of kind.Fixed)
widened_is (Ok n) f v e = fixed_is (f n) v e
widened_is (Err d) f v e = cc

where_null : (b : Bool) (v : Value) → null_where b ≡ Ok v → v ≡ Null
where_null true v e = sym (the_same Null v e)
where_null false v e = cc

limited_is : (t : List ℕ) (v : Value) → limited t ≡ Ok v → Is v (Of kind.Text)
limited_is t v e = at (nat_le (length t) 65536) e
  where
    at : (b : Bool) → (if b then Ok (Text t) else Err error.TooLarge) ≡ Ok v → Is v (Of kind.Text)
    at true k = exactly (Text t) v k
    at false k = cc

joined_is : (a b v : Value) → joined a b ≡ Ok v → Is v (Of kind.Text)
joined_is a b v e = at (is_null a || is_null b) _ (λ k. limited_is _ v k) e
  where
    at : (c : Bool) (x : Answer Value) → (x ≡ Ok v → Is v (Of kind.Text)) → (if c then Ok Null else x) ≡ Ok v → Is v (Of kind.Text)
    at true x h k = null_is v _ k
    at false x h k = h k

remaining_is : (a b v : Value) → remaining a b ≡ Ok v → Is v (Of kind.Int)
remaining_is Null b v e = inl (where_null (is_int Null && is_int b) v e)
remaining_is (Truth x) b v e = inl (where_null (is_int (Truth x) && is_int b) v e)
remaining_is (Int x) Null v e = inl (where_null (is_int (Int x) && is_int Null) v e)
remaining_is (Int x) (Truth y) v e = inl (where_null (is_int (Int x) && is_int (Truth y)) v e)
remaining_is (Int x) (Int y) v e = int_is (remainder x y) v e
remaining_is (Int x) (Fixed y) v e = inl (where_null (is_int (Int x) && is_int (Fixed y)) v e)
remaining_is (Int x) (Text y) v e = inl (where_null (is_int (Int x) && is_int (Text y)) v e)
remaining_is (Fixed x) b v e = inl (where_null (is_int (Fixed x) && is_int b) v e)
remaining_is (Text x) b v e = inl (where_null (is_int (Text x) && is_int b) v e)

calculated_null : (op : Arithmetic) (a v : Value) → calculated op a Null ≡ Ok v → v ≡ Null
calculated_null op Null v e = where_null (is_number Null && is_number Null) v e
calculated_null op (Truth x) v e = where_null (is_number (Truth x) && is_number Null) v e
calculated_null op (Int x) v e = where_null (is_number (Int x) && is_number Null) v e
calculated_null op (Fixed x) v e = where_null (is_number (Fixed x) && is_number Null) v e
calculated_null op (Text x) v e = where_null (is_number (Text x) && is_number Null) v e

calculated_is : (op : Arithmetic) (a b v : Value) (r : ExprType) → numbers_type (type_of_value a) (type_of_value b) ≡ Ok r → calculated op a b ≡ Ok v → Is v r
calculated_is op Null b v r h e = inl (where_null (is_number Null && is_number b) v e)
calculated_is op (Truth x) b v r h e = inl (where_null (is_number (Truth x) && is_number b) v e)
calculated_is op (Int x) Null v r h e = inl (where_null (is_number (Int x) && is_number Null) v e)
calculated_is op (Int x) (Truth y) v r h e = inl (where_null (is_number (Int x) && is_number (Truth y)) v e)
calculated_is op (Int x) (Int y) v r h e = subst (Is v) (the_same (Of kind.Int) r h) (int_is (on_ints op x y) v e)
calculated_is op (Int x) (Fixed y) v r h e = subst (Is v) (the_same (Of kind.Fixed) r h) (widened_is (in_range (ten_thousandths x)) (λ w. on_fixeds op w y) v e)
calculated_is op (Int x) (Text y) v r h e = inl (where_null (is_number (Int x) && is_number (Text y)) v e)
calculated_is op (Fixed x) Null v r h e = inl (where_null (is_number (Fixed x) && is_number Null) v e)
calculated_is op (Fixed x) (Truth y) v r h e = inl (where_null (is_number (Fixed x) && is_number (Truth y)) v e)
calculated_is op (Fixed x) (Int y) v r h e = subst (Is v) (the_same (Of kind.Fixed) r h) (widened_is (in_range (ten_thousandths y)) (λ w. on_fixeds op x w) v e)
calculated_is op (Fixed x) (Fixed y) v r h e = subst (Is v) (the_same (Of kind.Fixed) r h) (fixed_is (on_fixeds op x y) v e)
calculated_is op (Fixed x) (Text y) v r h e = inl (where_null (is_number (Fixed x) && is_number (Text y)) v e)
calculated_is op (Text x) b v r h e = inl (where_null (is_number (Text x) && is_number b) v e)

arithmetic_is : (op : Arithmetic) (t u r : ExprType) (a b v : Value) → Is a t → Is b u → numbers_type t u ≡ Ok r → calculated op a b ≡ Ok v → Is v r
arithmetic_is op t u r a b v i j h e = elim i [
  | inl none ↦ inl (where_null (is_number Null && is_number b) v (subst (λ z. calculated op z b ≡ Ok v) none e))
  | inr left ↦ elim j [
    | inl none ↦ inl (calculated_null op a v (subst (λ z. calculated op a z ≡ Ok v) none e))
    | inr right ↦ calculated_is op a b v r (subst (λ z. numbers_type z (type_of_value b) ≡ Ok r) (sym left) (subst (λ z. numbers_type t z ≡ Ok r) (sym right) h)) e
  ]
]

-- ---- operators

length_of_is : (a v : Value) → length_of a ≡ Ok v → Is v (Of kind.Int)
length_of_is Null v e = null_is v _ e
length_of_is (Truth x) v e = cc
length_of_is (Int x) v e = cc
length_of_is (Fixed x) v e = cc
length_of_is (Text x) v e = exactly _ v e

trimmed_is : (a v : Value) → trimmed a ≡ Ok v → Is v (Of kind.Text)
trimmed_is Null v e = null_is v _ e
trimmed_is (Truth x) v e = cc
trimmed_is (Int x) v e = cc
trimmed_is (Fixed x) v e = cc
trimmed_is (Text x) v e = exactly _ v e

opposed_is : (a v : Value) (r : ExprType) → number_type (type_of_value a) ≡ Ok r → opposed a ≡ Ok v → Is v r
opposed_is Null v r h e = null_is v r e
opposed_is (Truth x) v r h e = cc
opposed_is (Int x) v r h e = subst (Is v) (the_same (Of kind.Int) r h) (int_is _ v e)
opposed_is (Fixed x) v r h e = subst (Is v) (the_same (Of kind.Fixed) r h) (fixed_is _ v e)
opposed_is (Text x) v r h e = cc

absolute_is : (a v : Value) (r : ExprType) → number_type (type_of_value a) ≡ Ok r → absolute a ≡ Ok v → Is v r
absolute_is Null v r h e = null_is v r e
absolute_is (Truth x) v r h e = cc
absolute_is (Int x) v r h e = subst (Is v) (the_same (Of kind.Int) r h) (int_is _ v e)
absolute_is (Fixed x) v r h e = subst (Is v) (the_same (Of kind.Fixed) r h) (fixed_is _ v e)
absolute_is (Text x) v r h e = cc

-- an operator whose type goes by that of its operand
by_type : (f : Value → Answer Value) → ((v : Value) → f Null ≡ Ok v → v ≡ Null) → ((a v : Value) (r : ExprType) → number_type (type_of_value a) ≡ Ok r → f a ≡ Ok v → Is v r) →
    (t r : ExprType) (a v : Value) → Is a t → number_type t ≡ Ok r → f a ≡ Ok v → Is v r
by_type f none some t r a v i h e = elim i [
  | inl is ↦ inl (none v (subst (λ z. f z ≡ Ok v) is e))
  | inr is ↦ some a v r (subst (λ z. number_type z ≡ Ok r) (sym is) h) e
]

pub unary_is : (op : UnaryOp) (t r : ExprType) (a v : Value) → Is a t → unary_type op t ≡ Ok r → unary_of op a ≡ Ok v → Is v r
unary_is unary.Not t r a v i h e = subst (Is v) (sym (where_bool_is (Of kind.Bool) t r h)) (negated_is a v e)
unary_is unary.Minus t r a v i h e = by_type opposed (λ w k. sym (the_same Null w k)) opposed_is t r a v i h e
unary_is unary.Length t r a v i h e = subst (Is v) (sym (where_text_is (Of kind.Int) t r h)) (length_of_is a v e)
unary_is unary.Trim t r a v i h e = subst (Is v) (sym (where_text_is (Of kind.Text) t r h)) (trimmed_is a v e)
unary_is unary.Abs t r a v i h e = by_type absolute (λ w k. sym (the_same Null w k)) absolute_is t r a v i h e

or_is : (o : Option Bool) (v : Value) → fine (or_decided o) ≡ fine (Some v) → Is v (Of kind.Bool)
or_is None v e = cc
or_is (Some true) v e = exactly (Truth true) v (ap fine (some_same (Truth true) v (the_same (Some (Truth true)) (Some v) e)))
or_is (Some false) v e = cc

and_is : (o : Option Bool) (v : Value) → fine (and_decided o) ≡ fine (Some v) → Is v (Of kind.Bool)
and_is None v e = cc
and_is (Some true) v e = cc
and_is (Some false) v e = exactly (Truth false) v (ap fine (some_same (Truth false) v (the_same (Some (Truth false)) (Some v) e)))

-- a value that the left operand decides
pub decided_is : (op : BinaryOp) (t u r : ExprType) (a v : Value) → binary_type op t u ≡ Ok r → decided op a ≡ Ok (Some v) → Is v r
decided_is binary.Or t u r a v h e =
    let p = then_ok (truth a) (λ o. Ok (or_decided o)) (Some v) e in subst (Is v) (sym (where_bool_is (Of kind.Bool) u r h)) (or_is p.0 v p.2)
decided_is binary.And t u r a v h e =
    let p = then_ok (truth a) (λ o. Ok (and_decided o)) (Some v) e in subst (Is v) (sym (where_bool_is (Of kind.Bool) u r h)) (and_is p.0 v p.2)
decided_is binary.Equal t u r a v h e = cc
decided_is binary.NotEqual t u r a v h e = cc
decided_is binary.Less t u r a v h e = cc
decided_is binary.AtMost t u r a v h e = cc
decided_is binary.Greater t u r a v h e = cc
decided_is binary.AtLeast t u r a v h e = cc
decided_is binary.Concat t u r a v h e = cc
decided_is binary.Add t u r a v h e = cc
decided_is binary.Subtract t u r a v h e = cc
decided_is binary.Multiply t u r a v h e = cc
decided_is binary.Divide t u r a v h e = cc
decided_is binary.Remainder t u r a v h e = cc

-- a value that it doesn't decide
pub binary_is : (op : BinaryOp) (t u r : ExprType) (a b v : Value) → Is a t → Is b u → binary_type op t u ≡ Ok r → binary_of op a b ≡ Ok v → Is v r
binary_is binary.Or t u r a b v i j h e =
    let p = then_ok (truth b) (λ o. Ok (truth_value (or_rest a o))) v e in subst (Is v) (sym (where_bool_is (Of kind.Bool) u r h)) (truth_is (or_rest a p.0) v p.2)
binary_is binary.And t u r a b v i j h e =
    let p = then_ok (truth b) (λ o. Ok (truth_value (and_rest a o))) v e in subst (Is v) (sym (where_bool_is (Of kind.Bool) u r h)) (truth_is (and_rest a p.0) v p.2)
binary_is binary.Equal t u r a b v i j h e = subst (Is v) (sym (comparison_is t u r h)) (compared_is _ a b v e)
binary_is binary.NotEqual t u r a b v i j h e = subst (Is v) (sym (comparison_is t u r h)) (compared_is _ a b v e)
binary_is binary.Less t u r a b v i j h e = subst (Is v) (sym (comparison_is t u r h)) (compared_is _ a b v e)
binary_is binary.AtMost t u r a b v i j h e = subst (Is v) (sym (comparison_is t u r h)) (compared_is _ a b v e)
binary_is binary.Greater t u r a b v i j h e = subst (Is v) (sym (comparison_is t u r h)) (compared_is _ a b v e)
binary_is binary.AtLeast t u r a b v i j h e = subst (Is v) (sym (comparison_is t u r h)) (compared_is _ a b v e)
binary_is binary.Concat t u r a b v i j h e = subst (Is v) (the_same (Of kind.Text) r h) (joined_is a b v e)
binary_is binary.Add t u r a b v i j h e = arithmetic_is by.Add t u r a b v i j h e
binary_is binary.Subtract t u r a b v i j h e = arithmetic_is by.Subtract t u r a b v i j h e
binary_is binary.Multiply t u r a b v i j h e = arithmetic_is by.Multiply t u r a b v i j h e
binary_is binary.Divide t u r a b v i j h e = arithmetic_is by.Divide t u r a b v i j h e
binary_is binary.Remainder t u r a b v i j h e = subst (Is v) (sym (remainder_is t u r h)) (remaining_is a b v e)

pub like_is : (a b v : Value) → like a b ≡ Ok v → Is v (Of kind.Bool)
like_is Null b v e = inl (where_null (is_text Null && is_text b) v e)
like_is (Truth x) b v e = inl (where_null (is_text (Truth x) && is_text b) v e)
like_is (Int x) b v e = inl (where_null (is_text (Int x) && is_text b) v e)
like_is (Fixed x) b v e = inl (where_null (is_text (Fixed x) && is_text b) v e)
like_is (Text x) Null v e = inl (where_null (is_text (Text x) && is_text Null) v e)
like_is (Text x) (Truth y) v e = inl (where_null (is_text (Text x) && is_text (Truth y)) v e)
like_is (Text x) (Int y) v e = inl (where_null (is_text (Text x) && is_text (Int y)) v e)
like_is (Text x) (Fixed y) v e = inl (where_null (is_text (Text x) && is_text (Fixed y)) v e)
like_is (Text x) (Text y) v e = exactly _ v e

read_is : {A : Type 0} (make : A → Value) (t : ExprType) (o : Option A) (v : Value) → ((x : A) → type_of_value (make x) ≡ t) → read_as make o ≡ Ok v → Is v t
read_is make t None v h e = cc
read_is make t (Some x) v h e = subst (Is v) (h x) (exactly (make x) v e)

pub cast_is : (k : ColumnType) (a v : Value) → cast k a ≡ Ok v → Is v (Of k)
cast_is kind.Bool Null v e = null_is v _ e
cast_is kind.Bool (Truth x) v e = exactly _ v e
cast_is kind.Bool (Int x) v e = cc
cast_is kind.Bool (Fixed x) v e = cc
cast_is kind.Bool (Text x) v e = read_is Truth _ _ v (λ y. refl) e
cast_is kind.Int Null v e = null_is v _ e
cast_is kind.Int (Truth x) v e = cc
cast_is kind.Int (Int x) v e = exactly _ v e
cast_is kind.Int (Fixed x) v e = exactly _ v e
cast_is kind.Int (Text x) v e = read_is Int _ _ v (λ y. refl) e
cast_is kind.Fixed Null v e = null_is v _ e
cast_is kind.Fixed (Truth x) v e = cc
cast_is kind.Fixed (Int x) v e = fixed_is _ v e
cast_is kind.Fixed (Fixed x) v e = exactly _ v e
cast_is kind.Fixed (Text x) v e = read_is Fixed _ _ v (λ y. refl) e
cast_is kind.Text Null v e = null_is v _ e
cast_is kind.Text (Truth x) v e = exactly _ v e
cast_is kind.Text (Int x) v e = exactly _ v e
cast_is kind.Text (Fixed x) v e = exactly _ v e
cast_is kind.Text (Text x) v e = exactly _ v e
