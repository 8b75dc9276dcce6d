-- Two row ids are the same exactly where they are equal.
use Rattle.std.specs.Prelude.{◌≡◌, nat_eq, ◌&&◌, Bool, true, false}
use Rattle.std.specs.Bool.{Decides}
use Rattle.std.specs.Cmp.{IsEquivalence, decided, unsigned_Decides}
use Rattle.std.specs.Cmp.Lexicographic.{bytes_decides}
use Rattle.std.specs.Str.{bytes_eq}
use Rattle.std.proofs.Common.{refl, sym, ap, subst, ◌∙◌}
use Rattle.std.proofs.lemmas.Bool.{and_parts, and_from}
use Rattle.value_types.specs.declared.row_id.RowId.{RowId, out-RowId, roll-RowId, out-roll-RowId, roll-out-RowId}
use Rattle.value_types.specs.declared.row_id.RowId.TheOpen.{RowId-F}
use Rattle.value_types.specs.declared.row_id.RowId.TheFolds.{map-RowId, fold-RowId, fold-roll-RowId, ind-RowId}
use Rattle.value_types.specs.Order.{same_key}
use Rattle.value_types.specs.Same.{not_so, key_decides}

-- whether two layers are one, where each part of the first says whether it is its partner
abbrev pub same_form : RowId-F (RowId → Bool) → RowId-F RowId → Bool
same_form (RowId-F.Rec m) (RowId-F.Rec n) = nat_eq m n
same_form (RowId-F.Named m) (RowId-F.Named n) = bytes_eq m n
same_form (RowId-F.Emit m) (RowId-F.Emit n) = nat_eq m n
same_form (RowId-F.Pair a b) (RowId-F.Pair c d) = a c && b d
same_form (RowId-F.Alone a) (RowId-F.Alone c) = a c
same_form (RowId-F.First a) (RowId-F.First c) = a c
same_form (RowId-F.Second a) (RowId-F.Second c) = a c
same_form (RowId-F.Key vs) (RowId-F.Key ws) = same_key vs ws
same_form a b = false

-- whether two row ids are one
unfoldable pub same_id : RowId → RowId → Bool
same_id = fold-RowId (RowId → Bool) (λ layer other. same_form layer (out-RowId other))

-- an id for which the test decides equality
abbrev Sound : Type 0
Sound = (a : RowId) × ((b : RowId) → Decides (same_id a b) (a ≡ b))

-- the ids alone
abbrev bare : RowId-F Sound → RowId-F RowId
bare = map-RowId Sound RowId (λ e. e.0)

-- the test of each inner id
abbrev tested : RowId-F RowId → RowId-F (RowId → Bool)
tested = map-RowId RowId (RowId → Bool) same_id

form_itself : (y : RowId-F Sound) → same_form (tested (bare y)) (bare y) ≡ true
form_itself (RowId-F.Rec n) = (unsigned_Decides n n).1 refl
form_itself (RowId-F.Named n) = (bytes_decides n n).1 refl
form_itself (RowId-F.Emit n) = (unsigned_Decides n n).1 refl
form_itself (RowId-F.Pair a b) = and_from _ _ ((a.1 a.0).1 refl) ((b.1 b.0).1 refl)
form_itself (RowId-F.Alone a) = (a.1 a.0).1 refl
form_itself (RowId-F.First a) = (a.1 a.0).1 refl
form_itself (RowId-F.Second a) = (a.1 a.0).1 refl
form_itself (RowId-F.Key vs) = (key_decides vs vs).1 refl

form_is : (y : RowId-F Sound) (z : RowId-F RowId) → same_form (tested (bare y)) z ≡ true → bare y ≡ z
form_is (RowId-F.Rec m) (RowId-F.Rec n) e = ap (λ x. RowId-F.Rec x) ((unsigned_Decides m n).0 e)
form_is (RowId-F.Named m) (RowId-F.Named n) e = ap (λ x. RowId-F.Named x) ((bytes_decides m n).0 e)
form_is (RowId-F.Emit m) (RowId-F.Emit n) e = ap (λ x. RowId-F.Emit x) ((unsigned_Decides m n).0 e)
form_is (RowId-F.Pair a b) (RowId-F.Pair c d) e =
    let both = and_parts (same_id a.0 c) (same_id b.0 d) e in
    ap (λ x. RowId-F.Pair x b.0) ((a.1 c).0 both.0) ∙ ap (λ x. RowId-F.Pair c x) ((b.1 d).0 both.1)
form_is (RowId-F.Alone a) (RowId-F.Alone c) e = ap (λ x. RowId-F.Alone x) ((a.1 c).0 e)
form_is (RowId-F.First a) (RowId-F.First c) e = ap (λ x. RowId-F.First x) ((a.1 c).0 e)
form_is (RowId-F.Second a) (RowId-F.Second c) e = ap (λ x. RowId-F.Second x) ((a.1 c).0 e)
form_is (RowId-F.Key vs) (RowId-F.Key ws) e = ap (λ x. RowId-F.Key x) ((key_decides vs ws).0 e)
form_is a b e = not_so e

-- the test at an id that is opened by one layer
pub same_roll : (x : RowId-F RowId) (b : RowId) → same_id (roll-RowId x) b ≡ same_form (tested x) (out-RowId b)
unfolding same_id
same_roll x b = ap (λ f. f b) (fold-roll-RowId (RowId → Bool) (λ layer other. same_form layer (out-RowId other)) x)

layer_decides : (y : RowId-F Sound) (b : RowId) → Decides (same_id (roll-RowId (bare y)) b) (roll-RowId (bare y) ≡ b)
layer_decides y b = (
  λ e. ap roll-RowId (form_is y (out-RowId b) (sym (same_roll (bare y) b) ∙ e)) ∙ roll-out-RowId b,
  λ e. subst (λ c. same_id (roll-RowId (bare y)) c ≡ true) e
      (same_roll (bare y) (roll-RowId (bare y))
      ∙ ap (same_form (tested (bare y))) (out-roll-RowId (bare y))
      ∙ form_itself y),
)

pub id_decides : (a b : RowId) → Decides (same_id a b) (a ≡ b)
id_decides =
    ind-RowId (λ a. (b : RowId) → Decides (same_id a b) (a ≡ b))
    (λ x y is. subst (λ z. (b : RowId) → Decides (same_id (roll-RowId z) b) (roll-RowId z ≡ b)) is (layer_decides y))

pub id_equiv : IsEquivalence same_id
id_equiv = decided same_id id_decides
