-- The order of keys, and lists of keys in ascending order.
use Rattle.std.proofs.Common.{◌≡◌, Bool, true, false, List, [], ◌∷◌, refl, subst, ap, ◌∙◌, sym, inl, inr, ◌⊎◌}
use Rattle.std.specs.Bool.{⊤}
use Rattle.std.specs.declared.cmp.Ordering.{Ordering}
use Rattle.std.specs.declared.cmp.Ordering.TheVariants.{Less, Equal, Greater}
use Rattle.std.specs.Ordering.{ordering_reverse, ordering_then, int_cmp, bool_cmp}
use Rattle.std.specs.Cmp.{IsTotalOrder}
use Rattle.std.proofs.lemmas.Cmp.{lists_total}
use Rattle.std.proofs.lemmas.Map.Lookups.{exact_signed, exact_bytes}
use Rattle.value_types.specs.declared.value.Value.{Value}
use Rattle.value_types.specs.declared.value.Value.TheVariants.{Null, Bool as Truth, Int, Fixed, Text}
use Rattle.value_types.specs.Order.{value_cmp, same_key}
use Rattle.value_types.specs.Same.{key_decides}
use Rattle.value_types.proofs.Orders.{value_cmp_total}
use Rattle.relations.proofs.Gathered.{Each}
use Rattle.rel_group.specs.Keys.{key_cmp, put_by, put, ascending}

abbrev pub Key : Type 0
Key = List Value

-- ---- keys of which neither comes first are equal

then_equal : (o : Ordering) → ordering_then o Equal ≡ o
then_equal Less = refl
then_equal Equal = refl
then_equal Greater = refl

truth_exact : (a b : Bool) → bool_cmp a b ≡ Equal → a ≡ b
truth_exact true true e = refl
truth_exact true false e = cc
truth_exact false true e = cc
truth_exact false false e = refl

pub value_exact : (v w : Value) → value_cmp v w ≡ Equal → v ≡ w
value_exact Null Null e = refl
value_exact Null (Truth b) e = cc
value_exact Null (Int n) e = cc
value_exact Null (Fixed n) e = cc
value_exact Null (Text t) e = cc
value_exact (Truth a) Null e = cc
value_exact (Truth a) (Truth b) e = ap (λ x. Truth x) (truth_exact a b (sym (then_equal (bool_cmp a b)) ∙ e))
value_exact (Truth a) (Int n) e = cc
value_exact (Truth a) (Fixed n) e = cc
value_exact (Truth a) (Text t) e = cc
value_exact (Int m) Null e = cc
value_exact (Int m) (Truth b) e = cc
value_exact (Int m) (Int n) e = ap (λ x. Int x) (exact_signed m n (sym (then_equal (int_cmp m n)) ∙ e))
value_exact (Int m) (Fixed n) e = cc
value_exact (Int m) (Text t) e = cc
value_exact (Fixed m) Null e = cc
value_exact (Fixed m) (Truth b) e = cc
value_exact (Fixed m) (Int n) e = cc
value_exact (Fixed m) (Fixed n) e = ap (λ x. Fixed x) (exact_signed m n (sym (then_equal (int_cmp m n)) ∙ e))
value_exact (Fixed m) (Text t) e = cc
value_exact (Text s) Null e = cc
value_exact (Text s) (Truth b) e = cc
value_exact (Text s) (Int n) e = cc
value_exact (Text s) (Fixed n) e = cc
value_exact (Text s) (Text t) e = ap (λ x. Text x) (exact_bytes s t e)

both_equal : (o p : Ordering) → ordering_then o p ≡ Equal → (o ≡ Equal) × (p ≡ Equal)
both_equal Less p e = cc
both_equal Equal p e = (refl, e)
both_equal Greater p e = cc

pub key_exact : (k l : Key) → key_cmp k l ≡ Equal → k ≡ l
key_exact [] [] e = refl
key_exact [] (w ∷ ws) e = cc
key_exact (v ∷ vs) [] e = cc
key_exact (v ∷ vs) (w ∷ ws) e =
    let p = both_equal (value_cmp v w) (key_cmp vs ws) e in
    let q = value_exact v w p.0 in
    let r = key_exact vs ws p.1 in
    λ i. q i ∷ r i

pub key_total : IsTotalOrder key_cmp
key_total = lists_total value_cmp_total

its_reverse : (o : Ordering) → o ≡ ordering_reverse o → o ≡ Equal
its_reverse Less e = cc
its_reverse Equal e = refl
its_reverse Greater e = cc

pub key_itself : (k : Key) → key_cmp k k ≡ Equal
key_itself k = its_reverse (key_cmp k k) (key_total.antisymm k k)

pub same_itself : (k : Key) → same_key k k ≡ true
same_itself k = (key_decides k k).1 refl

-- ---- one before another

abbrev pub Below : Key → Key → Type 0
Below k l = key_cmp k l ≡ Less

pub below_apart : (k l : Key) → Below k l → k ≡ l → ⊥
below_apart k l e s = wrong (sym e ∙ (ap (λ z. key_cmp z l) s ∙ key_itself l))
  where
    wrong : Less ≡ Equal → ⊥
    wrong z = cc

pub above : (k l : Key) → key_cmp k l ≡ Greater → Below l k
above k l e = key_total.antisymm l k ∙ ap ordering_reverse e

pub not_both : (k l : Key) → Below k l → Below l k → ⊥
not_both k l e h = below_apart k k (key_total.trans k l k e h) refl

not_true : (b : Bool) → (b ≡ true → ⊥) → b ≡ false
not_true true h = absurd (h refl)
not_true false h = refl

pub not_same : (k l : Key) → (k ≡ l → ⊥) → same_key k l ≡ false
not_same k l h = not_true (same_key k l) (λ e. h ((key_decides k l).0 e))

-- ---- ascending lists

-- a key of a list
abbrev pub Stands : Key → List Key → Type 0
Stands k [] = ⊥
Stands k (l ∷ ls) = (l ≡ k) ⊎ Stands k ls

abbrev pub Ascends : List Key → Type 0
Ascends [] = ⊤
Ascends (l ∷ ls) = Each (Below l) ls × Ascends ls

pub each_at : (P : Key → Type 0) (ls : List Key) (k : Key) → Each P ls → Stands k ls → P k
each_at P [] k e s = absurd s
each_at P (l ∷ ls) k e s = elim s [ inl h ↦ subst P h e.0 | inr h ↦ each_at P ls k e.1 h ]

pub each_below : (k l : Key) (ls : List Key) → Below k l → Each (Below l) ls → Each (Below k) ls
each_below k l [] h e = tt
each_below k l (m ∷ ms) h e = (key_total.trans k l m h e.0, each_below k l ms h e.1)

put_each : (P : Key → Type 0) (k : Key) (ls : List Key) → P k → Each P ls → Each P (put k ls)
put_each P k [] h e = (h, tt)
put_each P k (l ∷ ls) h e = on (key_cmp k l) (put_each P k ls h e.1)
  where
    on : (o : Ordering) → Each P (put k ls) → Each P (put_by o k l ls (put k ls))
    on Less rest = (h, e)
    on Equal rest = e
    on Greater rest = (e.0, rest)

put_ascends : (k : Key) (ls : List Key) → Ascends ls → Ascends (put k ls)
put_ascends k [] a = (tt, tt)
put_ascends k (l ∷ ls) a = on (key_cmp k l) refl (put_ascends k ls a.1)
  where
    on : (o : Ordering) → key_cmp k l ≡ o → Ascends (put k ls) → Ascends (put_by o k l ls (put k ls))
    on Less e rest = ((e, each_below k l ls e a.0), a)
    on Equal e rest = a
    on Greater e rest = (put_each (Below l) k ls (above k l e) a.0, rest)

pub ascends : (ks : List Key) → Ascends (ascending ks)
ascends [] = tt
ascends (k ∷ ks) = put_ascends k (ascending ks) (ascends ks)

-- ---- what stands in them

pub put_has : (k : Key) (ls : List Key) → Stands k (put k ls)
put_has k [] = inl refl
put_has k (l ∷ ls) = on (key_cmp k l) refl (put_has k ls)
  where
    on : (o : Ordering) → key_cmp k l ≡ o → Stands k (put k ls) → Stands k (put_by o k l ls (put k ls))
    on Less e rest = inl refl
    on Equal e rest = inl (sym (key_exact k l e))
    on Greater e rest = inr rest

pub put_keeps : (k m : Key) (ls : List Key) → Stands m ls → Stands m (put k ls)
put_keeps k m [] s = absurd s
put_keeps k m (l ∷ ls) s = on (key_cmp k l) (λ h. put_keeps k m ls h)
  where
    on : (o : Ordering) → (Stands m ls → Stands m (put k ls)) → Stands m (put_by o k l ls (put k ls))
    on Less rest = inr s
    on Equal rest = s
    on Greater rest = elim s [ inl h ↦ inl h | inr h ↦ inr (rest h) ]

pub put_only : (k m : Key) (ls : List Key) → Stands m (put k ls) → (k ≡ m) ⊎ Stands m ls
put_only k m [] s = elim s [ inl h ↦ inl h | inr h ↦ absurd h ]
put_only k m (l ∷ ls) s = on (key_cmp k l) (λ h. put_only k m ls h) s
  where
    on : (o : Ordering) → (Stands m (put k ls) → (k ≡ m) ⊎ Stands m ls) → Stands m (put_by o k l ls (put k ls)) → (k ≡ m) ⊎ Stands m (l ∷ ls)
    on Less rest h = elim h [ inl e ↦ inl e | inr e ↦ inr e ]
    on Equal rest h = inr h
    on Greater rest h = elim h [ inl e ↦ inr (inl e) | inr e ↦ elim (rest e) [ inl f ↦ inl f | inr f ↦ inr (inr f) ] ]

pub into_ascending : (ks : List Key) (m : Key) → Stands m ks → Stands m (ascending ks)
into_ascending [] m s = s
into_ascending (k ∷ ks) m s = elim s [
  | inl e ↦ subst (λ z. Stands z (put k (ascending ks))) e (put_has k (ascending ks))
  | inr h ↦ put_keeps k m (ascending ks) (into_ascending ks m h)
]

pub from_ascending : (ks : List Key) (m : Key) → Stands m (ascending ks) → Stands m ks
from_ascending [] m s = s
from_ascending (k ∷ ks) m s = elim (put_only k m (ascending ks) s) [ inl e ↦ inl e | inr h ↦ inr (from_ascending ks m h) ]

-- ---- ascending lists of the same keys are equal

abbrev pub Within : List Key → List Key → Type 0
Within xs ys = (k : Key) → Stands k xs → Stands k ys

heads : (x y : Key) (xs ys : List Key) → Each (Below x) xs → Each (Below y) ys → Within (x ∷ xs) (y ∷ ys) → Within (y ∷ ys) (x ∷ xs) → x ≡ y
heads x y xs ys e h f g = elim (f x (inl refl)) [
  | inl s ↦ sym s
  | inr s ↦ elim (g y (inl refl)) [
    | inl t ↦ t
    | inr t ↦ absurd (not_both x y (each_at (Below x) xs y e t) (each_at (Below y) ys x h s))
  ]
]

tails : (x y : Key) (xs ys : List Key) → x ≡ y → Each (Below x) xs → Within (x ∷ xs) (y ∷ ys) → Within xs ys
tails x y xs ys s e f k h = elim (f k (inr h)) [
  | inl t ↦ absurd (below_apart x k (each_at (Below x) xs k e h) (s ∙ t))
  | inr t ↦ t
]

pub one_list : (xs ys : List Key) → Ascends xs → Ascends ys → Within xs ys → Within ys xs → xs ≡ ys
one_list [] [] a b f g = refl
one_list [] (y ∷ ys) a b f g = absurd (g y (inl refl))
one_list (x ∷ xs) [] a b f g = absurd (f x (inl refl))
one_list (x ∷ xs) (y ∷ ys) a b f g =
    let s = heads x y xs ys a.0 b.0 f g in
    let rest = one_list xs ys a.1 b.1 (tails x y xs ys s a.0 f) (tails y x ys xs (sym s) b.0 g) in
    λ i. s i ∷ rest i

-- lists of the same keys give the same in ascending order
pub same_ascending : (ks ls : List Key) → Within ks ls → Within ls ks → ascending ks ≡ ascending ls
same_ascending ks ls f g =
    one_list (ascending ks) (ascending ls) (ascends ks) (ascends ls)
    (λ k s. into_ascending ls k (f k (from_ascending ks k s))) (λ k s. into_ascending ks k (g k (from_ascending ls k s)))
