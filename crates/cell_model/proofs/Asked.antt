-- Reads over an environment agree with it.
use Rattle.std.proofs.Common.{◌≡◌, ℕ, List, [], ◌∷◌, ◌++◌, Option, Some, None, refl, ap, sym, ◌∙◌, subst, Bool, true, false, cond, MatchOption}
use Rattle.std.specs.Prelude.{is_some}
use Rattle.std.specs.Str.{bytes_eq}
use Rattle.std.specs.List.{Contains}
use Rattle.std.proofs.lemmas.List.{map-append}
use Rattle.std.proofs.lemmas.Slice.Eq.{bytes_eq-Decides}
use Rattle.dataset_types.specs.Slots.{find_slot, Gives}
use Rattle.dataset_types.specs.Envs.{EnvData, look}
use Rattle.dataset_types.specs.Tables.{Distinct}
use Rattle.dataset_types.specs.declared.slot.Slot.{Slot}
use Rattle.dataset_types.specs.declared.slot.Named.{Named}
use Rattle.dataset_types.specs.Envs.{names_of}
use Rattle.cell_model.specs.Reading.{Answers, noted, IsAsked}
use Rattle.cell_model.proofs.Distinctness.{Distinct-push, found_is}

pub Gives-push : (look : List ℕ → Slot) (asked : List Named) (e : Named) → Gives look asked → look e.name ≡ e.slot → Gives look (asked ++ e ∷ [])
Gives-push look [] e g is = (is, tt)
Gives-push look (a ∷ asked) e g is = (g.0, Gives-push look asked e g.1 is)

given_here : (b : Bool) (found : Option Slot) (here known slot : Slot) → (b ≡ true → slot ≡ here) → (found ≡ Some known → slot ≡ known) → cond b (Some here) found ≡ Some known → slot ≡ known
given_here true found here known slot now later e = let same : here ≡ known = cc in now refl ∙ same
given_here false found here known slot now later e = later e

-- what is found of a name is what the environment gives it
pub given_found : (look : List ℕ → Slot) (asked : List Named) (name : List ℕ) (known : Slot) → Gives look asked → find_slot asked name ≡ Some known → look name ≡ known
given_found look [] name known g e = cc
given_found look (a ∷ asked) name known g e =
    given_here (bytes_eq a.name name) (find_slot asked name) a.slot known (look name)
    (λ h. ap look (sym ((bytes_eq-Decides a.name name).0 h)) ∙ g.0) (λ h. given_found look asked name known g.1 h) e

answered : (found : Option Slot) (asked : List Named) (name : List ℕ) (slot : Slot) → ((known : Slot) → found ≡ Some known → slot ≡ known)
    → MatchOption found (cond (is_some found) asked (asked ++ record { name = name; slot = slot } ∷ []) ≡ asked ++ record { name = name; slot = slot } ∷ []) (λ known. (slot ≡ known) × (cond (is_some found) asked (asked ++ record { name = name; slot = slot } ∷ []) ≡ asked))
answered None asked name slot same = refl
answered (Some known) asked name slot same = (same known refl, refl)

pub noted_answers : (look : List ℕ → Slot) (asked : List Named) (name : List ℕ) (slot : Slot) → Gives look asked → slot ≡ look name → Answers asked name slot (noted asked name slot)
noted_answers look asked name slot g is = answered (find_slot asked name) asked name slot (λ known e. is ∙ given_found look asked name known g e)

asked_more : (b : Bool) (env : EnvData) (asked : List Named) (e : Named) → (b ≡ false → Contains (names_of asked) e.name → ⊥) → e.slot ≡ look env e.name → IsAsked env asked → IsAsked env (cond b asked (asked ++ e ∷ []))
asked_more true env asked e fresh is a = a
asked_more false env asked e fresh is a = record {
  gives = Gives-push (look env) asked e a.gives (sym is);
  once = subst Distinct (sym (map-append (λ (n : Named). n.name) asked (e ∷ []))) (Distinct-push (names_of asked) e.name a.once (fresh refl));
}

pub noted_asked : (env : EnvData) (asked : List Named) (name : List ℕ) (slot : Slot) → slot ≡ look env name → IsAsked env asked → IsAsked env (noted asked name slot)
noted_asked env asked name slot is a =
    asked_more (is_some (find_slot asked name)) env asked (record { name = name; slot = slot })
    (λ h c. let found : is_some (find_slot asked name) ≡ true = (found_is asked name).1 c in let no : false ≡ true = sym h ∙ found in cc) is a
