-- The order of rows by keys.
use Rattle.std.proofs.Common.{◌≡◌, Bool, true, false, List, [], ◌∷◌, refl, ap, sym, ◌∙◌}
use Rattle.std.specs.declared.cmp.Ordering.{Ordering}
use Rattle.std.specs.declared.cmp.Ordering.TheVariants.{Less, Equal, Greater}
use Rattle.std.specs.Ordering.{ordering_reverse}
use Rattle.std.specs.Cmp.{IsTotalOrder, IsStrictWeakOrder, then_total, on_total}
use Rattle.std.proofs.lemmas.List.Sorted.{ranks_by}
use Rattle.value_types.specs.declared.value.Value.{Value}
use Rattle.value_types.proofs.Orders.{value_cmp_total}
use Rattle.relations.specs.declared.parts.SortKey.{SortKey}
use Rattle.rel_ops.specs.Sort.{turned, keys_cmp, keys_lt}

turn_back : (o : Ordering) → ordering_reverse (ordering_reverse o) ≡ o
turn_back Less = refl
turn_back Equal = refl
turn_back Greater = refl

module _ {X : Type 0} (R : X → X → Ordering) (o : IsTotalOrder R) where
  back : (x y : X) → ordering_reverse (R x y) ≡ R y x
  back x y = sym (o.antisymm y x)

  turned_total : (d : Bool) → IsTotalOrder (λ a b. turned d (R a b))
  turned_total false = o
  turned_total true = record {
    antisymm = λ x y. ap ordering_reverse (o.antisymm x y);
    trans = λ x y z e k. back x z ∙ o.trans z y x (sym (back y z) ∙ k) (sym (back x y) ∙ e);
    congr = λ x y z e. ap ordering_reverse (o.congr x y z (sym (turn_back (R x y)) ∙ ap ordering_reverse e));
  }

module _ {R : Type 0} (value : SortKey → R → Value) where
  keys_total : (ks : List SortKey) → IsTotalOrder (keys_cmp value ks)
  keys_total [] = record { antisymm = λ x y. refl; trans = λ x y z e k. e; congr = λ x y z e. refl }
  keys_total (k ∷ ks) = then_total (turned_total _ (on_total (λ r. value k r) value_cmp_total) k.descending) (keys_total ks)

  pub keys_rank : (ks : List SortKey) → IsStrictWeakOrder (keys_lt value ks)
  keys_rank ks = ranks_by (keys_total ks) (λ r. r)
