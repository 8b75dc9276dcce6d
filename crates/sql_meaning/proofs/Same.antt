-- Where two environments show the same of what a SELECT reads, so do its results.
use Rattle.std.proofs.Common.{◌≡◌, ℕ, Bool, true, false, ◌||◌, Option, Some, None, Ok, List, [], ◌∷◌, refl, sym, ap, ◌∙◌, subst, arith}
use Rattle.std.specs.Prelude.{if◌then◌else◌}
use Rattle.std.specs.Bool.{⊤}
use Rattle.std.proofs.lemmas.List.Elements.{Contains-append_right}
use Rattle.dataset_types.specs.declared.slot.Slot.{Slot}
use Rattle.dataset_types.specs.Tables.{TableData, IsTable}
use Rattle.caveat_marks.specs.Shown.{Doubtful, Table, shown, shown_table, shown_slot}
use Rattle.cell_errors.specs.Answers.{and_then}
use Rattle.relations.proofs.Gathered.{fine, the_same, then_ok}
use Rattle.sql_parse.specs.declared.select.Select.{Select}
use Rattle.sql_parse.specs.Names.{names_of}
use Rattle.sql_meaning.specs.declared.input.Input.{Input}
use Rattle.sql_meaning.specs.Steps.{selected}
use Rattle.sql_meaning.specs.Inputs.{input_if, input_in, inputs_in, named_table, named_tables, any_doubt}
use Rattle.sql_meaning.specs.Select.{marked_steps, select_slot}
use Rattle.sql_meaning.specs.Laws.{HasTables, ShowsSame, SelectKeepsShown}
use Rattle.sql_meaning.proofs.SameSteps.{SameTable, SameTables, selected_same}

same_doubt : (a b : Slot) → shown_slot a ≡ shown_slot b → a.doubt ≡ b.doubt
same_doubt a b e = by a.doubt b.doubt a.table b.table e
  where
    by : (d f : Bool) (s t : Option TableData) → (if d then Doubtful else shown_table s) ≡ (if f then Doubtful else shown_table t) → d ≡ f
    by true true s t e = refl
    by false false s t e = refl
    by true false s None e = cc
    by true false s (Some t) e = cc
    by false true None t e = cc
    by false true (Some s) t e = cc

-- two inputs of one name: in doubt alike, and where they aren't, they show the same
record SameInput (a b : Input) : Type 0 where
  doubt : a.doubt ≡ b.doubt
  tables : a.doubt ≡ false → SameTable (named_table a) (named_table b)

abbrev SameInputs : List Input → List Input → Type 0
SameInputs [] [] = ⊤
SameInputs (a ∷ xs) (b ∷ ys) = SameInput a b × SameInputs xs ys
SameInputs _ _ = ⊥

same_any : (xs ys : List Input) → SameInputs xs ys → any_doubt xs ≡ any_doubt ys
same_any [] [] s = refl
same_any (a ∷ xs) (b ∷ ys) s = λ i. s.0.doubt i || same_any xs ys s.1 i
same_any [] (b ∷ bs) s = absurd s
same_any (a ∷ xs) [] s = absurd s

or_parts : (a b : Bool) → (a || b) ≡ false → (a ≡ false) × (b ≡ false)
or_parts false b e = (refl, e)
or_parts true b e = cc

certain_tables : (xs ys : List Input) → SameInputs xs ys → any_doubt xs ≡ false → SameTables (named_tables xs) (named_tables ys)
certain_tables [] [] s e = tt
certain_tables (a ∷ xs) (b ∷ ys) s e = let h = or_parts a.doubt (any_doubt xs) e in (s.0.tables h.0, certain_tables xs ys s.1 h.1)
certain_tables [] (b ∷ bs) s e = absurd s
certain_tables (a ∷ xs) [] s e = absurd s

input_same : (name : List ℕ) (a b : Slot) (x y : Input) → ((t : TableData) → a.table ≡ Some t → IsTable t) → ((t : TableData) → b.table ≡ Some t → IsTable t) →
    shown_slot a ≡ shown_slot b → input_if name a.doubt a.table ≡ Ok x → input_if name b.doubt b.table ≡ Ok y → SameInput x y
input_same name a b x y is too e k l = by a.doubt b.doubt a.table b.table is too (same_doubt a b e) e k l
  where
    by : (d f : Bool) (o q : Option TableData) → ((t : TableData) → o ≡ Some t → IsTable t) → ((t : TableData) → q ≡ Some t → IsTable t) → d ≡ f →
        (if d then Doubtful else shown_table o) ≡ (if f then Doubtful else shown_table q) → input_if name d o ≡ Ok x → input_if name f q ≡ Ok y → SameInput x y
    by d f None q is too same e k l = cc
    by d f (Some t) None is too same e k l = cc
    by d f (Some t) (Some u) is too same e k l =
        subst (λ z. SameInput z y) (the_same (record { name = name; table = t; doubt = d }) x k)
        (subst (SameInput (record { name = name; table = t; doubt = d })) (the_same (record { name = name; table = u; doubt = f }) y l)
        (record { doubt = same; tables = λ certain. record { name = refl; is = is t refl; too = too u refl; same = shows d f t u certain (sym same ∙ certain) e } }))
      where
        shows : (d f : Bool) (t u : TableData) → d ≡ false → f ≡ false → (if d then Doubtful else Table (shown t)) ≡ (if f then Doubtful else Table (shown u)) → shown t ≡ shown u
        shows false false t u sure also e = cc
        shows true f t u sure also e = cc
        shows false true t u sure also e = cc

inputs_same : (look other : List ℕ → Slot) → HasTables look → HasTables other → (names : List (List ℕ)) (xs ys : List Input) → ShowsSame names look other →
    inputs_in look names ≡ Ok xs → inputs_in other names ≡ Ok ys → SameInputs xs ys
inputs_same look other is too [] xs ys shows e k = subst (λ z. SameInputs z ys) (the_same [] xs e) (subst (SameInputs []) (the_same [] ys k) tt)
inputs_same look other is too (n ∷ ns) xs ys shows e k =
    let m = then_ok (input_in look n) (λ z. and_then (inputs_in look ns) (λ zs. fine (z ∷ zs))) xs e in
    let m2 = then_ok (inputs_in look ns) (λ zs. fine (m.0 ∷ zs)) xs m.2 in
    let l = then_ok (input_in other n) (λ z. and_then (inputs_in other ns) (λ zs. fine (z ∷ zs))) ys k in
    let l2 = then_ok (inputs_in other ns) (λ zs. fine (l.0 ∷ zs)) ys l.2 in
    subst (λ z. SameInputs z ys) (the_same (m.0 ∷ m2.0) xs m2.2) (subst (SameInputs (m.0 ∷ m2.0)) (the_same (l.0 ∷ l2.0) ys l2.2) (
      input_same n (look n) (other n) m.0 l.0 (is n) (too n) (shows n (0, omega arith, refl)) m.1 l.1,
      inputs_same look other is too ns m2.0 l2.0 (λ name held. shows name (Contains-append_right (n ∷ []) ns name held)) m2.1 l2.1,
    ))

slot_same : (d f : Bool) (t u : TableData) → d ≡ f → (d ≡ false → shown t ≡ shown u) →
    shown_slot (record { table = Some t; doubt = d }) ≡ shown_slot (record { table = Some u; doubt = f })
slot_same true true t u e h = refl
slot_same false false t u e h = ap Table (h refl)
slot_same true false t u e h = cc
slot_same false true t u e h = cc

pub select_keeps_shown : (select : Select) → SelectKeepsShown select
select_keeps_shown select look other picks others cell x y is too shows e k =
    let m = then_ok (inputs_in look (names_of select)) (λ inputs. select_slot inputs select picks cell) x e in
    let n = then_ok (inputs_in other (names_of select)) (λ inputs. select_slot inputs select others cell) y k in
    let s = inputs_same look other is too (names_of select) m.0 n.0 shows m.1 n.1 in
    let a = then_ok (selected (marked_steps picks cell) (named_tables m.0) select) (λ table. fine (record { table = Some table; doubt = any_doubt m.0 })) x m.2 in
    let b = then_ok (selected (marked_steps others cell) (named_tables n.0) select) (λ table. fine (record { table = Some table; doubt = any_doubt n.0 })) y n.2 in
    ap shown_slot (sym (the_same (record { table = Some a.0; doubt = any_doubt m.0 }) x a.2))
    ∙ (slot_same (any_doubt m.0) (any_doubt n.0) a.0 b.0 (same_any m.0 n.0 s)
    (λ certain. selected_same picks others cell (named_tables m.0) (named_tables n.0) (certain_tables m.0 n.0 s certain) select a.0 b.0 a.1 b.1)
    ∙ ap shown_slot (the_same (record { table = Some b.0; doubt = any_doubt n.0 }) y b.2))
