-- An object has no fewer members than it has different fields.
use Rattle.std.proofs.Common.{◌≡◌, ℕ, ◌+◌, ◌≤◌, List, [], ◌∷◌, Bool, true, false, true≢false, refl, sym, ◌∙◌, ap, subst, arith, Option, Some, Ordering, Less, Equal, Greater}
use Rattle.std.specs.Prelude.{◌||◌, not, if◌then◌else◌, is_some}
use Rattle.std.specs.List.{list_any}
use Rattle.std.specs.Ordering.{nat_cmp, match_ordering, is_eq}
use Rattle.std.specs.Cmp.Lexicographic.{slice_cmp}
use Rattle.std.specs.Str.{bytes_eq}
use Rattle.std.proofs.lemmas.Bool.{and_parts, eqb-true}
use Rattle.std.proofs.lemmas.Map.Text.{is_eq-slice_cmp}
use Rattle.std.proofs.lemmas.Slice.Eq.{bytes_eq-Decides}
use Rattle.serde_json.specs.Data.{Data, null, boolean, number, string, array, object, Members, no_members, member}
use Rattle.serde_json.specs.Find.{get, get_member}
use Rattle.sheet_commands.specs.Apart.{are_apart}
use Rattle.json_fields.specs.Json.{member_count, has_members, field, counted}
use Rattle.json_fields.proofs.Options.{chained}

-- how many of these fields it has
abbrev pub tally : List (List ℕ) → Data → ℕ
tally [] d = 0
tally (name ∷ names) d = counted name d + tally names d

-- how many of these names the key is
abbrev hits : List (List ℕ) → List ℕ → ℕ
hits [] key = 0
hits (name ∷ names) key = (if bytes_eq name key then 1 else 0) + hits names key

either_false : (a b : Bool) → (a || b) ≡ false → (a ≡ false) × (b ≡ false)
either_false true b e = absurd (true≢false e)
either_false false b e = (refl, e)

not-true : (b : Bool) → not b ≡ true → b ≡ false
not-true true e = absurd (true≢false (sym e))
not-true false e = refl

-- a key that is this name is none of the others
none_other : (name key : List ℕ) (names : List (List ℕ)) → name ≡ key → list_any (bytes_eq name) names ≡ false → hits names key ≡ 0
none_other name key [] is others = refl
none_other name key (other ∷ names) is others = by (bytes_eq other key) refl (none_other name key names is parts.1)
  where
    parts : (bytes_eq name other ≡ false) × (list_any (bytes_eq name) names ≡ false)
    parts = either_false (bytes_eq name other) (list_any (bytes_eq name) names) others

    by : (b : Bool) → bytes_eq other key ≡ b → hits names key ≡ 0 → (if b then 1 else 0) + hits names key ≡ 0
    by true e none =
        let same : name ≡ other = is ∙ sym ((bytes_eq-Decides other key).0 e) in
        absurd (true≢false (sym ((bytes_eq-Decides name other).1 same) ∙ parts.0))
    by false e none = omega (arith, none)

one_at_most : (names : List (List ℕ)) (key : List ℕ) → are_apart names ≡ true → hits names key ≤ 1
one_at_most [] key apart = omega arith
one_at_most (name ∷ names) key apart = by (bytes_eq name key) refl (one_at_most names key parts.1)
  where
    parts : (not (list_any (bytes_eq name) names) ≡ true) × (are_apart names ≡ true)
    parts = and_parts (not (list_any (bytes_eq name) names)) (are_apart names) apart

    by : (b : Bool) → bytes_eq name key ≡ b → hits names key ≤ 1 → (if b then 1 else 0) + hits names key ≤ 1
    by true e rest =
        let none : hits names key ≡ 0 = none_other name key names ((bytes_eq-Decides name key).0 e) (not-true (list_any (bytes_eq name) names) parts.0) in
        omega (arith, none)
    by false e rest = omega (arith, rest)

-- what a member more adds to a field
with_member : (name key : List ℕ) (d : Data) (ms : Members) → counted name (object (member key d ms)) ≤ (if bytes_eq name key then 1 else 0) + counted name (object ms)
with_member name key d ms = by (slice_cmp nat_cmp name key) refl
  where
    by : (r : Ordering) → slice_cmp nat_cmp name key ≡ r
        → (if is_some (match_ordering r (get_member name ms) (Some d) (get_member name ms)) then 1 else 0) ≤ (if bytes_eq name key then 1 else 0) + counted name (object ms)
    by Less e = omega arith
    by Equal e = let same : bytes_eq name key ≡ true = sym (is_eq-slice_cmp name key) ∙ ap is_eq e in rw same (omega arith)
    by Greater e = omega arith

-- and to all of them
with_members_more : (names : List (List ℕ)) (key : List ℕ) (d : Data) (ms : Members) → tally names (object (member key d ms)) ≤ hits names key + tally names (object ms)
with_members_more [] key d ms = omega arith
with_members_more (name ∷ names) key d ms =
    let first = with_member name key d ms in
    let rest = with_members_more names key d ms in
    omega (arith, first, rest)

none_of_none : (names : List (List ℕ)) → tally names (object no_members) ≡ 0
none_of_none [] = refl
none_of_none (name ∷ names) = let rest = none_of_none names in omega (arith, rest)

within_members : (names : List (List ℕ)) (ms : Members) → are_apart names ≡ true → tally names (object ms) ≤ member_count ms
within_members names no_members apart = let none = none_of_none names in omega (arith, none)
within_members names (member key d ms) apart =
    let more = with_members_more names key d ms in
    let one = one_at_most names key apart in
    let rest = within_members names ms apart in
    omega (arith, more, one, rest)

-- an object with so many members has no more of these fields
pub fields_within : (names : List (List ℕ)) (count : ℕ) (d : Data) → are_apart names ≡ true → has_members count d ≡ true → tally names d ≤ count
fields_within names count null apart has = absurd (cc)
fields_within names count (boolean b) apart has = absurd (cc)
fields_within names count (number n) apart has = absurd (cc)
fields_within names count (string s) apart has = absurd (cc)
fields_within names count (array ds) apart has = absurd (cc)
fields_within names count (object ms) apart has =
    let same : member_count ms ≡ count = eqb-true (member_count ms) count has in
    subst (λ n. tally names (object ms) ≤ n) same (within_members names ms apart)

-- a field that is read is there
pub there : {A : Type 0} (reader : Data → Option A) (name : List ℕ) (d : Data) (x : A) → field reader name d ≡ Some x → counted name d ≡ 1
there reader name d x e = let found = chained reader (get name d) x e in ap (λ (o : Option Data). if is_some o then 1 else 0) found.1
