-- What the reads of a command fix.
use Rattle.std.proofs.Common.{◌≡◌, ℕ, Bool, true, false, not, ◌&&◌, Option, Some, None, Ok, Err, List, [], ◌∷◌, refl, ap, ◌∙◌, sym, inl, inr, arith}
use Rattle.std.specs.Prelude.{if◌then◌else◌, is_some}
use Rattle.std.specs.Str.{bytes_eq}
use Rattle.std.specs.List.{Contains}
use Rattle.std.specs.Cmp.Lexicographic.{bytes_decides}
use Rattle.cell_errors.specs.Answers.{Answer, and_then}
use Rattle.cell_errors.specs.declared.fault.CellError.{CellError}
use Rattle.cell_errors.specs.declared.fault.CellError.TheVariants as error
use Rattle.dataset_types.specs.declared.slot.Slot.{Slot}
use Rattle.dataset_types.specs.declared.slot.Named.{Named}
use Rattle.dataset_types.specs.Tables.{TableData}
use Rattle.dataset_types.proofs.TableLemmas.{empty_contains, Contains-cases}
use Rattle.cell_model.specs.Reading.{Answers}
use Rattle.cell_model.specs.Works.{Fixes, Works}
use Rattle.cell_model.specs.declared.reads.Ended.{Ended}
use Rattle.cell_model.specs.declared.work_fault.WorkFault.{WorkFault}
use Rattle.cell_model.specs.declared.work_fault.WorkFault.TheVariants as fault
use Rattle.cell_model.proofs.WorkLemmas.{asked_new}
use Rattle.vizual_edits.specs.declared.reading.There.{There}
use Rattle.vizual_edits.specs.Commands.{entry, filled, found, there, there_alone, both_names}

-- one read, and what its slot gives
pub one_read : (name : List ℕ) (slot : Slot) (given : Answer There) → there slot ≡ given →
    Fixes (λ look. there (look name)) (λ _. name ∷ []) (entry name slot ∷ []) given
one_read name slot given e = record {
  once = (empty_contains name, tt);
  gives = λ look g. ap there g.0 ∙ e;
  names = λ look g. refl;
}

-- no name but its own stands in a list of one
unlike : (name to : List ℕ) → bytes_eq name to ≡ false → Contains (to ∷ []) name → ⊥
unlike name to e c = elim (Contains-cases to [] name c) [
  | inl is ↦ let same = (bytes_decides name to).1 (sym is) in let wrong : false ≡ true = sym e ∙ same in cc
  | inr held ↦ empty_contains name held
]

-- what is read of a slot with this dataset, or without one
abbrev there_in : Bool → Option TableData → Answer There
there_in doubt o = and_then (found o) (λ t. Ok (record { table = t; doubt = doubt }))

-- a slot without a dataset
missing : (slot : Slot) (e : CellError) → there slot ≡ Err e → is_some slot.table ≡ false
missing slot e k = at slot.table k
  where
    at : (o : Option TableData) → there_in slot.doubt o ≡ Err e → is_some o ≡ false
    at None h = refl
    at (Some t) h = cc

-- a slot with one
held : (slot : Slot) (s : There) → there slot ≡ Ok s → is_some slot.table ≡ true
held slot s k = at slot.table k
  where
    at : (o : Option TableData) → there_in slot.doubt o ≡ Ok s → is_some o ≡ true
    at None h = cc
    at (Some t) h = refl

-- without the first dataset the other name isn't read
pub alone_stops : (name to : List ℕ) (asked : List Named) (e : CellError) → Fixes (λ look. there (look name)) (λ _. name ∷ []) asked (Err e) →
    Fixes (there_alone name to) (both_names name to) asked (Err e)
alone_stops name to asked e fixes = record {
  once = fixes.once;
  gives = λ look g. ap (λ a. and_then a (λ s. if is_some (look to).table then Err error.NameTaken else Ok s)) (fixes.gives look g);
  names = λ look g.
      ap (λ b. name ∷ (if b && not (bytes_eq name to) then to ∷ [] else [])) (missing (look name) e (fixes.gives look g)) ∙ fixes.names look g;
}

-- the error or the end of the first read is that of both
pub alone_ends : (name to : List ℕ) (asked : List Named) (end : Option Ended) (f : WorkFault) → Works (λ look. there (look name)) (λ _. name ∷ []) (Err f) asked end →
    Works (there_alone name to) (both_names name to) (Err f) asked end
alone_ends name to asked end (fault.Error e) works = (works.0, alone_stops name to asked e works.1)
alone_ends name to asked end (fault.Ended e) works = works

-- a name is taken by itself
pub taken_by_itself : (name to : List ℕ) (asked : List Named) (s : There) → bytes_eq name to ≡ true → Fixes (λ look. there (look name)) (λ _. name ∷ []) asked (Ok s) →
    Fixes (there_alone name to) (both_names name to) asked (Err error.NameTaken)
taken_by_itself name to asked s same fixes = record {
  once = fixes.once;
  gives = λ look g.
      let is = (bytes_decides name to).0 same in
      ap (λ a. and_then a (λ x. if is_some (look to).table then Err error.NameTaken else Ok x)) (fixes.gives look g)
      ∙ ap (λ b. if b then Err error.NameTaken else Ok s) (ap (λ n. is_some (look n).table) (sym is) ∙ held (look name) s (fixes.gives look g));
  names = λ look g.
      ap (λ b. name ∷ (if is_some (look name).table && not b then to ∷ [] else [])) same ∙ (neither (is_some (look name).table) ∙ fixes.names look g);
}
  where
    neither : (b : Bool) → name ∷ (if b && false then to ∷ [] else []) ≡ name ∷ []
    neither true = refl
    neither false = refl

-- another name is asked after the first
pub asked_second : (name to : List ℕ) (slot other : Slot) (after : List Named) → bytes_eq name to ≡ false → Answers (entry name slot ∷ []) to other after →
    after ≡ entry name slot ∷ entry to other ∷ []
asked_second name to slot other after apart answers =
    asked_new (entry name slot ∷ []) to other after (λ c. unlike name to apart (turned c)) answers
  where
    turned : Contains (name ∷ []) to → Contains (to ∷ []) name
    turned c = elim (Contains-cases name [] to c) [
      | inl is ↦ (0, omega arith, sym is)
      | inr held ↦ absurd (empty_contains to held)
    ]

-- two reads, and what their slots give
pub two_reads : (name to : List ℕ) (s : There) (other : Slot) (given : Answer There) → bytes_eq name to ≡ false →
    (if is_some other.table then Err error.NameTaken else Ok s) ≡ given →
    Fixes (there_alone name to) (both_names name to) (filled name s.table s.doubt ∷ entry to other ∷ []) given
two_reads name to s other given apart e = record {
  once = (unlike name to apart, (empty_contains to, tt));
  gives = λ look g.
      ap (λ (x : Slot). and_then (there x) (λ t. if is_some (look to).table then Err error.NameTaken else Ok t)) g.0
      ∙ (ap (λ (x : Slot). if is_some x.table then Err error.NameTaken else Ok s) g.1.0 ∙ e);
  names = λ look g.
      ap (λ (x : Slot). name ∷ (if is_some x.table && not (bytes_eq name to) then to ∷ [] else [])) g.0
      ∙ ap (λ b. name ∷ (if not b then to ∷ [] else [])) apart;
}
