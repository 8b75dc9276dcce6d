-- Bindings whose values are put in place, one after another.
use Rattle.std.proofs.Common.{◌≡◌, ℕ, zero, suc, ◌+◌, ◌<◌, ◌≤◌, List, [], ◌∷◌, map, length, take, get_or, refl, ap, ◌∙◌, sym, arith}
use Rattle.std.specs.Prelude.{set}
use Rattle.std.proofs.lemmas.List.{take_all}
use Rattle.dataset_types.specs.declared.row.Marked.{Marked}
use Rattle.expr_meaning.specs.declared.bindings.Binding.{Binding}
use Rattle.expr_meaning.specs.declared.bindings.ScopeColumn.{ScopeColumn}
use Rattle.relations.specs.Bound.{AreUnder, bindings, revalued, with_value}

-- none is put yet
pub none_put : (bs : List Binding) → revalued bs [] ≡ bs
none_put [] = refl
none_put (b ∷ bs) = refl

pub as_many : (bs : List Binding) (ms : List Marked) → length (revalued bs ms) ≡ length bs
as_many [] ms = refl
as_many (b ∷ bs) [] = refl
as_many (b ∷ bs) (m ∷ ms) = ap suc (as_many bs ms)

put_at : (bs : List Binding) (ms : List Marked) (i : ℕ) (b new : Binding) (m : Marked) → i < length bs → i < length ms →
    b ≡ get_or (revalued bs (take i ms)) i b → m ≡ get_or ms i m → new ≡ with_value b m →
    set (revalued bs (take i ms)) i new ≡ revalued bs (take (suc i) ms)
put_at [] ms i b new m h k e f g = absurd (omega arith)
put_at (c ∷ bs) [] i b new m h k e f g = absurd (omega arith)
put_at (c ∷ []) (n ∷ ms) zero b new m h k e f g = rw (g, e, f) refl
put_at (c ∷ d ∷ bs) (n ∷ ms) zero b new m h k e f g = rw (g, e, f) refl
put_at (c ∷ bs) (n ∷ ms) (suc i) b new m h k e f g =
    ap (λ z. with_value c n ∷ z) (put_at bs ms i b new m (omega arith) (omega arith) e f g)

-- one more
pub put_next : (bs : List Binding) (ms : List Marked) (i : ℕ) (b new : Binding) (m : Marked) → i < length bs → i < length ms →
    b ≡ get_or (revalued bs (take i ms)) i b → m ≡ get_or ms i m → new ≡ with_value b m →
    set (revalued bs (take i ms)) i new ≡ revalued bs (take (i + 1) ms)
put_next bs ms i b new m h k e f g =
    let next : suc i ≡ i + 1 = omega arith in put_at bs ms i b new m h k e f g ∙ ap (λ n. revalued bs (take n ms)) next

pub all_put : (bs : List Binding) (ms : List Marked) (i : ℕ) → length ms ≤ i → revalued bs (take i ms) ≡ revalued bs ms
all_put bs ms i h = ap (revalued bs) (take_all i ms h)

-- what the proof of the loop uses
pub ruleset putting = (as_many, put_next, all_put)

-- ---- under columns

pub bound_under : (cs : List ScopeColumn) (ms : List Marked) → AreUnder cs (bindings cs ms)
bound_under [] ms = refl
bound_under (c ∷ cs) [] = refl
bound_under (c ∷ cs) (m ∷ ms) = ap (λ z. record { qualifier = c.qualifier; name = c.column.name; value = m } ∷ z) (bound_under cs ms)

-- what is bound under columns stays so
pub still_under : (cs : List ScopeColumn) (bs : List Binding) (ms : List Marked) → bs ≡ bindings cs ms → AreUnder cs bs
still_under cs bs ms e = e ∙ (bound_under cs ms ∙ ap (λ z. bindings cs (map (λ b. b.value) z)) (sym e))

pub none_under : (cs : List ScopeColumn) → AreUnder cs []
none_under [] = refl
none_under (c ∷ cs) = refl

values_again : (cs : List ScopeColumn) (xs ms : List Marked) → length (bindings cs xs) ≡ length ms → revalued (bindings cs xs) ms ≡ bindings cs ms
values_again [] xs [] e = refl
values_again [] xs (m ∷ ms) e = absurd (omega arith)
values_again (c ∷ cs) [] [] e = refl
values_again (c ∷ cs) [] (m ∷ ms) e = absurd (omega arith)
values_again (c ∷ cs) (x ∷ xs) [] e = absurd (omega arith)
values_again (c ∷ cs) (x ∷ xs) (m ∷ ms) e =
    ap (λ z. record { qualifier = c.qualifier; name = c.column.name; value = m } ∷ z) (values_again cs xs ms (omega arith))

-- with as many other values they are those of another row
pub bound_again : (cs : List ScopeColumn) (bs : List Binding) (ms : List Marked) → AreUnder cs bs → length bs ≡ length ms → revalued bs ms ≡ bindings cs ms
bound_again cs bs ms under e =
    ap (λ z. revalued z ms) under ∙ values_again cs (map (λ b. b.value) bs) ms (ap length (sym under) ∙ e)

-- what the proof of binding again uses
pub ruleset again = (bound_again)

-- what the proofs of its callers use
pub ruleset under = (none_under, still_under)
