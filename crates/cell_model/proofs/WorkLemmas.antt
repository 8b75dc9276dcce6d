-- How reads are chained, and what a work answers after them.
use Rattle.std.proofs.Common.{◌≡◌, ℕ, arith, List, [], ◌∷◌, ◌++◌, map, Option, Some, None, IfSome, MatchOption, refl, ap, sym, subst, ◌∙◌, Ok, Err, true, false}
use Rattle.std.specs.Prelude.{is_some}
use Rattle.std.specs.List.{Contains}
use Rattle.std.proofs.lemmas.List.{map-append}
use Rattle.dataset_types.specs.Slots.{find_slot, Gives}
use Rattle.dataset_types.specs.Envs.{names_of}
use Rattle.dataset_types.specs.Tables.{Distinct}
use Rattle.dataset_types.specs.declared.slot.Slot.{Slot}
use Rattle.dataset_types.specs.declared.slot.Named.{Named}
use Rattle.cell_errors.specs.Answers.{Answer, and_then, Fails}
use Rattle.cell_errors.specs.declared.fault.EvalFault.{EvalFault}
use Rattle.cell_errors.specs.declared.fault.EvalFault.TheVariants as eval
use Rattle.cell_model.specs.declared.reads.Ended.{Ended}
use Rattle.cell_model.specs.declared.work_fault.WorkFault.{WorkFault}
use Rattle.cell_model.specs.declared.work_fault.WorkFault.TheVariants as fault
use Rattle.cell_model.specs.Reading.{Answers}
use Rattle.cell_model.specs.Works.{Fixes, Works, KeepsSource, work_fault}
use Rattle.cell_model.proofs.Asked.{Gives-push}
use Rattle.cell_model.proofs.Distinctness.{Distinct-push, found_is}

-- ---- one read more

-- a name with its slot
abbrev pub entry : List ℕ → Slot → Named
entry name slot = record { name = name; slot = slot }

-- a name that wasn't asked before is put last
pub asked_new : (before : List Named) (name : List ℕ) (slot : Slot) (after : List Named) → (Contains (names_of before) name → ⊥)
    → Answers before name slot after → after ≡ before ++ entry name slot ∷ []
asked_new before name slot after fresh answers = by (find_slot before name) (λ h. fresh ((found_is before name).0 h)) answers
  where
    by : (found : Option Slot) → (is_some found ≡ true → ⊥) → MatchOption found (after ≡ before ++ entry name slot ∷ []) (λ known. (slot ≡ known) × (after ≡ before))
        → after ≡ before ++ entry name slot ∷ []
    by None apart a = a
    by (Some known) apart a = absurd (apart refl)

-- a name that was asked before keeps its slot
pub asked_again : (before : List Named) (name : List ℕ) (slot known : Slot) (after : List Named) → find_slot before name ≡ Some known
    → Answers before name slot after → (slot ≡ known) × (after ≡ before)
asked_again before name slot known after is answers =
    subst (λ (found : Option Slot). MatchOption found (after ≡ before ++ entry name slot ∷ []) (λ known. (slot ≡ known) × (after ≡ before))) is answers

-- whether a name was asked before or not, each is asked once
pub asked_once : (before : List Named) (name : List ℕ) (slot : Slot) (after : List Named) → Distinct (names_of before) → Answers before name slot after
    → Distinct (names_of after)
asked_once before name slot after once answers = by (find_slot before name) refl answers
  where
    unlisted : find_slot before name ≡ None → Contains (names_of before) name → ⊥
    unlisted is c = let wrong : false ≡ true = sym (ap is_some is) ∙ (found_is before name).1 c in cc

    by : (found : Option Slot) → find_slot before name ≡ found → MatchOption found (after ≡ before ++ entry name slot ∷ []) (λ known. (slot ≡ known) × (after ≡ before))
        → Distinct (names_of after)
    by None is a = subst (λ l. Distinct (names_of l)) (sym a) (subst Distinct (sym (map-append (λ (n : Named). n.name) before (entry name slot ∷ []))) (Distinct-push (names_of before) name once (unlisted is)))
    by (Some known) is a = subst (λ l. Distinct (names_of l)) (sym a.1) once

-- an environment that gives what was asked before, and now this slot, gives all of it
pub gives_more : (look : List ℕ → Slot) (before : List Named) (name : List ℕ) (slot : Slot) (after : List Named) → Gives look before → look name ≡ slot
    → Answers before name slot after → Gives look after
gives_more look before name slot after gives is answers = by (find_slot before name) answers
  where
    by : (found : Option Slot) → MatchOption found (after ≡ before ++ entry name slot ∷ []) (λ known. (slot ≡ known) × (after ≡ before)) → Gives look after
    by None a = subst (Gives look) (sym a) (Gives-push look before (entry name slot) gives is)
    by (Some known) a = subst (Gives look) (sym a.1) gives

-- ---- the source

-- before any read
pub keeps_none : (before now : Option (List ℕ → Slot)) → now ≡ before → KeepsSource before now []
keeps_none None now same = record { same = same; agrees = tt }
keeps_none (Some look) now same = record { same = same; agrees = tt }

-- after one read more
pub keeps_more : (first before now : Option (List ℕ → Slot)) (asked : List Named) (name : List ℕ) (slot : Slot) (after : List Named)
    → KeepsSource first before asked → now ≡ before → Answers asked name slot after → IfSome before (λ look. look name ≡ slot) → KeepsSource first now after
keeps_more first before now asked name slot after keeps same answers agrees =
    record { same = same ∙ keeps.same; agrees = by first keeps.agrees (subst (λ s. IfSome s (λ look. look name ≡ slot)) keeps.same agrees) }
  where
    by : (source : Option (List ℕ → Slot)) → IfSome source (λ look. Gives look asked) → IfSome source (λ look. look name ≡ slot) → IfSome source (λ look. Gives look after)
    by None g is = tt
    by (Some look) g is = gives_more look asked name slot after g is answers

-- after a read that answered an end
pub keeps_still : (first before now : Option (List ℕ → Slot)) (asked after : List Named) → KeepsSource first before asked → now ≡ before → after ≡ asked → KeepsSource first now after
keeps_still first before now asked after keeps same still = record { same = same ∙ keeps.same; agrees = subst (λ l. IfSome first (λ look. Gives look l)) (sym still) keeps.agrees }

-- ---- what reads fix

-- the names that were asked, looked up, are their slots
pub slots_given : (look : List ℕ → Slot) (asked : List Named) → Gives look asked → map look (names_of asked) ≡ map (λ (e : Named). e.slot) asked
slots_given look [] gives = refl
slots_given look (e ∷ es) gives = ap (λ s. s ∷ map look (names_of es)) gives.0 ∙ ap (λ l. e.slot ∷ l) (slots_given look es gives.1)

-- no name
pub fixes_none : {A : Type 0} (meaning : (List ℕ → Slot) → A) (asks : (List ℕ → Slot) → List (List ℕ)) (value : A)
    → ((look : List ℕ → Slot) → meaning look ≡ value) → ((look : List ℕ → Slot) → asks look ≡ []) → Fixes meaning asks [] value
fixes_none meaning asks value is none = record { once = tt; gives = λ look g. is look; names = λ look g. none look }

-- one name, and what its slot gives
pub fixes_one : {A : Type 0} (meaning : (List ℕ → Slot) → A) (asks : (List ℕ → Slot) → List (List ℕ)) (f : Slot → A) (name : List ℕ) (slot : Slot)
    → ((look : List ℕ → Slot) → meaning look ≡ f (look name)) → ((look : List ℕ → Slot) → asks look ≡ name ∷ []) → Fixes meaning asks (entry name slot ∷ []) (f slot)
fixes_one meaning asks f name slot is one = record {
  once = (λ (c : Contains [] name). absurd (omega (arith, c.1)), tt);
  gives = λ look g. is look ∙ ap f g.0;
  names = λ look g. one look;
}

-- names of which none comes twice, and what their slots give
pub fixes_all : {A : Type 0} (meaning : (List ℕ → Slot) → A) (asks : (List ℕ → Slot) → List (List ℕ)) (f : List Slot → A) (asked : List Named) → Distinct (names_of asked)
    → ((look : List ℕ → Slot) → meaning look ≡ f (map look (names_of asked))) → ((look : List ℕ → Slot) → asks look ≡ names_of asked)
    → Fixes meaning asks asked (f (map (λ (e : Named). e.slot) asked))
fixes_all meaning asks f asked once is all = record { once = once; gives = λ look g. is look ∙ ap f (slots_given look asked g); names = λ look g. all look }

-- what reads fix fixes what is made of it
pub fixes_made : {A B : Type 0} (meaning : (List ℕ → Slot) → A) (asks : (List ℕ → Slot) → List (List ℕ)) (f : A → B) (asked : List Named) (value : A)
    → Fixes meaning asks asked value → Fixes (λ look. f (meaning look)) asks asked (f value)
fixes_made meaning asks f asked value fixes = record { once = fixes.once; gives = λ look g. ap f (fixes.gives look g); names = fixes.names }

-- ---- what a work answers

-- after its reads, the value that it gives
pub works_ok : {A : Type 0} (meaning : (List ℕ → Slot) → Answer A) (asks : (List ℕ → Slot) → List (List ℕ)) (given : Answer A) (value : A) (asked : List Named) (end : Option Ended)
    → Fixes meaning asks asked given → given ≡ Ok value → end ≡ None → Works meaning asks (Ok value) asked end
works_ok meaning asks given value asked end fixes is on = (on, subst (Fixes meaning asks asked) is fixes)

-- the fault of a call without reads
pub works_err : {A : Type 0} (meaning : (List ℕ → Slot) → Answer A) (asks : (List ℕ → Slot) → List (List ℕ)) (given : Answer A) (f : EvalFault) (asked : List Named) (end : Option Ended)
    → Fixes meaning asks asked given → Fails f given → end ≡ None → Works meaning asks (Err (work_fault f)) asked end
works_err meaning asks given (eval.Error e) asked end fixes is on = (on, subst (Fixes meaning asks asked) is fixes)
works_err meaning asks given eval.NoMemory asked end fixes is on = on

-- a work and then what its value gives, where nothing is read after it
pub works_then : {A B : Type 0} (meaning : (List ℕ → Slot) → Answer A) (asks : (List ℕ → Slot) → List (List ℕ)) (next : A → Answer B) (value : A) (asked : List Named) (end : Option Ended)
    → Works meaning asks (Ok value) asked end → Fixes (λ look. and_then (meaning look) next) asks asked (next value)
works_then meaning asks next value asked end works = fixes_made meaning asks (λ a. and_then a next) asked (Ok value) works.1

-- a work whose error or end is that of the whole
pub works_stop : {A B : Type 0} (meaning : (List ℕ → Slot) → Answer A) (asks : (List ℕ → Slot) → List (List ℕ)) (next : A → Answer B) (f : WorkFault) (asked : List Named) (end : Option Ended)
    → Works meaning asks (Err f) asked end → Works (λ look. and_then (meaning look) next) asks (Err f) asked end
works_stop meaning asks next (fault.Error e) asked end works = (works.0, fixes_made meaning asks (λ a. and_then a next) asked (Err e) works.1)
works_stop meaning asks next (fault.Ended e) asked end works = works
