-- A table that passes the test is LL(1), by its hints.
use Rattle.std.proofs.Common.{◌≡◌, ℕ, Bool, true, false, List, [], ◌∷◌, ◌++◌, Option, Some, None, refl, sym, ap, ◌∙◌, subst, ⊎_elim, arith}
use Rattle.std.specs.Prelude.{◌||◌, ◌&&◌, not, ◌==◌, if◌then◌else◌}
use Rattle.std.proofs.lemmas.Bool.Decides.{nat_tests}
use Rattle.ll1_grammar.specs.declared.symbol.Symbol.{Symbol}
use Rattle.ll1_grammar.specs.declared.item.Item.{Item}
use Rattle.ll1_grammar.specs.declared.item.Item.TheVariants.{Here, Inside, Do}
use Rattle.ll1_grammar.specs.declared.item.Bounded.{Bounded}
use Rattle.ll1_grammar.specs.Ahead.{Lookahead, IsLL1, begins, vanishes, IsFollowed}
use Rattle.ll1_grammar.specs.Table.{Table, entry, laid_out, fits, where_it_fits, grammar_of}
use Rattle.ll1_grammar.specs.Test.{Hints, member, within, disjoint, distinct, may_vanish, starts, next_kinds, follows_fine, alternatives_fine, kinds_of, otherwise_fine, rule_fine, IsFine, lookahead}
use Rattle.ll1_grammar.proofs.Booleans.{or_left, or_right, or_cases, and_left, and_right, no_both}

member_append_left : (k : ℕ) (a b : List ℕ) → member k a ≡ true → member k (a ++ b) ≡ true
member_append_left k [] b e = cc
member_append_left k (x ∷ a) b e = ⊎_elim (λ f. or_left (k == x) _ f) (λ f. or_right (k == x) _ (member_append_left k a b f)) (or_cases (k == x) _ e)

member_append_right : (k : ℕ) (a b : List ℕ) → member k b ≡ true → member k (a ++ b) ≡ true
member_append_right k [] b e = e
member_append_right k (x ∷ a) b e = or_right (k == x) _ (member_append_right k a b e)

pub same_number : (k x : ℕ) → k == x ≡ true → k ≡ x
same_number k x e = grind (arith, nat_tests)

in_within : (k : ℕ) (a b : List ℕ) → within a b ≡ true → member k a ≡ true → member k b ≡ true
in_within k [] b w e = cc
in_within k (x ∷ a) b w e =
    ⊎_elim
    (λ f. let P = λ (n : ℕ). member n b ≡ true in subst P (sym (same_number k x f)) (and_left (member x b) _ w))
    (λ f. in_within k a b (and_right (member x b) _ w) f)
    (or_cases (k == x) _ e)

pub not_true : (a : Bool) → not a ≡ true → a ≡ false
not_true true e = cc
not_true false e = refl

not_member : (k : ℕ) (a b : List ℕ) → disjoint a b ≡ true → member k a ≡ true → member k b ≡ false
not_member k [] b w e = cc
not_member k (x ∷ a) b w e =
    ⊎_elim
    (λ f. let P = λ (n : ℕ). member n b ≡ false in subst P (sym (same_number k x f)) (not_true (member x b) (and_left (not (member x b)) _ w)))
    (λ f. not_member k a b (and_right (not (member x b)) _ w) f)
    (or_cases (k == x) _ e)

false_by : (a : Bool) → (a ≡ true → ⊥) → a ≡ false
false_by true f = absurd (f refl)
false_by false f = refl

-- what a table's entry is, where it is laid out
pub from_entry : {R A : Type 0} (room : ℕ) (o : Option (List (Item R A))) (r : List (Symbol (Bounded R) A)) → where_it_fits room o ≡ Some r → (s : List (Item R A)) × (o ≡ Some s) × (r ≡ laid_out room s)
from_entry {R = R} {A = A} room None r e = cc
from_entry {R = R} {A = A} room (Some s) r e = go (fits room s) e
  where
    go : (b : Bool) → (let x : Option (List (Symbol (Bounded R) A)) = if b then Some (laid_out room s) else None in x) ≡ Some r → (s' : List (Item R A)) × (Some s ≡ Some s') × (r ≡ laid_out room s')
    go true e = (s, refl, cc)
    go false e = cc

module _ {R A : Type 0} (table : Table R A) (h : Hints R) where
  -- the parts of the test of a rule
  pub record Sides (r : R) : Type 0 where
    pub kinds : distinct (kinds_of (table.alternatives r)) ≡ true
    pub begun : alternatives_fine h r (table.alternatives r) ≡ true
    pub other : otherwise_fine h r (kinds_of (table.alternatives r)) (table.otherwise r) ≡ true

  pub sides : (r : R) → rule_fine table h r ≡ true → Sides r
  sides r e =
      let both = and_right (distinct (kinds_of (table.alternatives r))) _ e in
      record {
        kinds = and_left (distinct (kinds_of (table.alternatives r))) _ e;
        begun = and_left (alternatives_fine h r (table.alternatives r)) _ both;
        other = and_right (alternatives_fine h r (table.alternatives r)) _ both;
      }

module _ {R T A : Type 0} (table : Table R A) (h : Hints R) (kind : T → ℕ) where
  abbrev K : Lookahead (Bounded R) T
  K = lookahead h kind

  -- what a part of the test says of a list of items that is laid out
  after_part : (r : R) (s : List (Item R A)) (t : T) → member (kind t) (h.firsts r) || (h.nullable r && member (kind t) (starts h s)) ≡ true
      → member (kind t) (h.firsts r ++ (if h.nullable r then starts h s else [])) ≡ true
  after_part r s t e =
      ⊎_elim
      (λ f. member_append_left (kind t) (h.firsts r) _ f)
      (λ f. member_append_right (kind t) (h.firsts r) _ (chosen_side (h.nullable r) (and_left (h.nullable r) _ f) (and_right (h.nullable r) _ f)))
      (or_cases (member (kind t) (h.firsts r)) _ e)
    where
      chosen_side : (b : Bool) → b ≡ true → member (kind t) (starts h s) ≡ true → member (kind t) (if b then starts h s else []) ≡ true
      chosen_side true e m = m
      chosen_side false e m = cc

  or_mono : (a b c d : Bool) → (c ≡ true → d ≡ true) → a || (b && c) ≡ true → a || (b && d) ≡ true
  or_mono true b c d f e = refl
  or_mono false true c d f e = f e
  or_mono false false c d f e = e

  begins_starts : (room : ℕ) (s : List (Item R A)) (t : T) → begins K (laid_out room s) t ≡ true → member (kind t) (starts h s) ≡ true
  begins_starts room [] t e = e
  begins_starts room (Here r ∷ s) t e = after_part r s t (or_mono (member (kind t) (h.firsts r)) (h.nullable r) _ _ (begins_starts room s t) e)
  begins_starts room (Inside r ∷ s) t e = after_part r s t (or_mono (member (kind t) (h.firsts r)) (h.nullable r) _ _ (begins_starts room s t) e)
  begins_starts room (Do a ∷ s) t e = begins_starts room s t e

  vanishes_gone : (room : ℕ) (s : List (Item R A)) → vanishes K (laid_out room s) ≡ may_vanish h s
  vanishes_gone room [] = refl
  vanishes_gone room (Here r ∷ s) = ap (λ b. h.nullable r && b) (vanishes_gone room s)
  vanishes_gone room (Inside r ∷ s) = ap (λ b. h.nullable r && b) (vanishes_gone room s)
  vanishes_gone room (Do a ∷ s) = vanishes_gone room s

  reaches : (room n : ℕ) (r : R) (s : List (Item R A)) (t : T) → begins K (laid_out n s) t || (vanishes K (laid_out n s) && member (kind t) (h.follows r)) ≡ true → member (kind t) (next_kinds h r s) ≡ true
  reaches room n r s t e =
      ⊎_elim
      (λ f. member_append_left (kind t) (starts h s) _ (begins_starts n s t f))
      (λ f. member_append_right (kind t) (starts h s) _ (side (may_vanish h s) (sym (vanishes_gone n s) ∙ and_left (vanishes K (laid_out n s)) _ f) (and_right (vanishes K (laid_out n s)) _ f)))
      (or_cases (begins K (laid_out n s) t) _ e)
    where
      side : (b : Bool) → b ≡ true → member (kind t) (h.follows r) ≡ true → member (kind t) (if b then h.follows r else []) ≡ true
      side true e m = m
      side false e m = cc

  closed : (n : Bounded R) (room : ℕ) (s : List (Item R A)) → follows_fine h n.rule s ≡ true → IsFollowed K n (laid_out room s)
  closed n room [] e = tt
  closed n room (Here m ∷ s) e =
      (λ t f. in_within (kind t) (next_kinds h n.rule s) (h.follows m) (and_left (within (next_kinds h n.rule s) (h.follows m)) _ e) (reaches 0 room n.rule s t f), closed n room s (and_right (within (next_kinds h n.rule s) (h.follows m)) _ e))
  closed n room (Inside m ∷ s) e =
      (λ t f. in_within (kind t) (next_kinds h n.rule s) (h.follows m) (and_left (within (next_kinds h n.rule s) (h.follows m)) _ e) (reaches 0 room n.rule s t f), closed n room s (and_right (within (next_kinds h n.rule s) (h.follows m)) _ e))
  closed n room (Do a ∷ s) e = closed n room s e

  entry_kind : {B : Type 0} (k : ℕ) (ps : List (ℕ × B)) (s : B) → entry k ps ≡ Some s → member k (kinds_of ps) ≡ true
  entry_kind k [] s e = cc
  entry_kind k (p ∷ ps) s e = go (entry_kind k ps s) (k == p.0) e
    where
      go : (entry k ps ≡ Some s → member k (kinds_of ps) ≡ true) → (b : Bool) → (if b then Some p.1 else entry k ps) ≡ Some s → b || member k (kinds_of ps) ≡ true
      go ih true e = refl
      go ih false e = ih e

  entry_closes : (r : R) (k : ℕ) (ps : List (ℕ × List (Item R A))) (s : List (Item R A)) → alternatives_fine h r ps ≡ true → entry k ps ≡ Some s → (member k (h.firsts r) ≡ true) × (follows_fine h r s ≡ true)
  entry_closes r k [] s c e = cc
  entry_closes r k (p ∷ ps) s c e = go (entry_closes r k ps s) (k == p.0) refl e
    where
      front : (member p.0 (h.firsts r) && follows_fine h r p.1) ≡ true
      front = and_left (member p.0 (h.firsts r) && follows_fine h r p.1) _ c

      go : (alternatives_fine h r ps ≡ true → entry k ps ≡ Some s → (member k (h.firsts r) ≡ true) × (follows_fine h r s ≡ true)) → (b : Bool) → k == p.0 ≡ b → (if b then Some p.1 else entry k ps) ≡ Some s → (member k (h.firsts r) ≡ true) × (follows_fine h r s ≡ true)
      go ih true q e =
          let P = λ (n : ℕ). member n (h.firsts r) ≡ true in
          let same : p.1 ≡ s = cc in
          (subst P (sym (same_number k p.0 q)) (and_left (member p.0 (h.firsts r)) _ front), subst (λ x. follows_fine h r x ≡ true) same (and_right (member p.0 (h.firsts r)) _ front))
      go ih false q e = ih (and_right (member p.0 (h.firsts r) && follows_fine h r p.1) _ c) e

  not_or : (a b : Bool) → not a || b ≡ true → a ≡ true → b ≡ true
  not_or true b e f = e
  not_or false b e f = cc

  -- the parts of the test of the other right-hand side
  record Other (r : R) (d : List (Item R A)) : Type 0 where
    first : within (starts h d) (h.firsts r) ≡ true
    may_vanish : may_vanish h d ≡ true → h.nullable r ≡ true
    closing : follows_fine h r d ≡ true
    apart : disjoint (kinds_of (table.alternatives r)) (next_kinds h r d) ≡ true

  other_parts : (r : R) (d : List (Item R A)) → rule_fine table h r ≡ true → table.otherwise r ≡ Some d → Other r d
  other_parts r d e o =
      let fine : otherwise_fine h r (kinds_of (table.alternatives r)) (Some d) ≡ true = subst (λ x. otherwise_fine h r (kinds_of (table.alternatives r)) x ≡ true) o (sides table h r e).other in
      let more = and_right (within (starts h d) (h.firsts r)) _ fine in
      let last = and_right (not (may_vanish h d) || h.nullable r) _ more in
      record {
        first = and_left (within (starts h d) (h.firsts r)) _ fine;
        may_vanish = not_or (may_vanish h d) (h.nullable r) (and_left (not (may_vanish h d) || h.nullable r) _ more);
        closing = and_left (follows_fine h r d) _ last;
        apart = and_right (follows_fine h r d) _ last;
      }

  pub is_ll1 : IsFine table h → IsLL1 (grammar_of table kind) K
  is_ll1 fine = record {
    first_after = λ n t r e. let i = from_entry n.room (entry (kind t) (table.alternatives n.rule)) r e in
        (entry_closes n.rule (kind t) (table.alternatives n.rule) i.0 (sides table h n.rule (fine n.rule)).begun i.1).0;
    first_otherwise = λ n t r e f. let i = from_entry n.room (table.otherwise n.rule) r e in
        in_within (kind t) (starts h i.0) (h.firsts n.rule) (other_parts n.rule i.0 (fine n.rule) i.1).first (begins_starts n.room i.0 t (subst (λ x. begins K x t ≡ true) i.2 f));
    nullable_otherwise = λ n r e f. let i = from_entry n.room (table.otherwise n.rule) r e in
        (other_parts n.rule i.0 (fine n.rule) i.1).may_vanish (sym (vanishes_gone n.room i.0) ∙ subst (λ x. vanishes K x ≡ true) i.2 f);
    followed_after = λ n t r e. let i = from_entry n.room (entry (kind t) (table.alternatives n.rule)) r e in
        subst (λ x. IsFollowed K n x) (sym i.2) (closed n n.room i.0 (entry_closes n.rule (kind t) (table.alternatives n.rule) i.0 (sides table h n.rule (fine n.rule)).begun i.1).1);
    followed_otherwise = λ n r e. let i = from_entry n.room (table.otherwise n.rule) r e in
        subst (λ x. IsFollowed K n x) (sym i.2) (closed n n.room i.0 (other_parts n.rule i.0 (fine n.rule) i.1).closing);
    apart = λ n t r d e f.
        let i = from_entry n.room (entry (kind t) (table.alternatives n.rule)) r e in
        let j = from_entry n.room (table.otherwise n.rule) d f in
        false_by _ (λ x. no_both (member (kind t) (next_kinds h n.rule j.0))
        (reaches 0 n.room n.rule j.0 t (subst (λ y. begins K y t || (vanishes K y && member (kind t) (h.follows n.rule)) ≡ true) j.2 x))
        (not_member (kind t) (kinds_of (table.alternatives n.rule)) (next_kinds h n.rule j.0) (other_parts n.rule j.0 (fine n.rule) j.1).apart (entry_kind (kind t) (table.alternatives n.rule) i.0 i.1)));
  }
