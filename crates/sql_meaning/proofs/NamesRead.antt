-- The reads of a SELECT, one name after another.
use Rattle.std.proofs.Common.{◌≡◌, ℕ, suc, ◌+◌, ◌<◌, ◌≤◌, Option, Some, None, Ok, Err, List, [], ◌∷◌, ◌++◌, length, get_or, take, drop, refl, sym, ap, ◌∙◌, subst, arith, append_assoc, append-nil}
use Rattle.std.specs.List.{Contains}
use Rattle.std.proofs.Math.Seq.{take-suc}
use Rattle.std.proofs.lemmas.List.{map-append, drop_more, drop_all, take-append-drop}
use Rattle.dataset_types.specs.declared.slot.Slot.{Slot}
use Rattle.dataset_types.specs.declared.slot.Named.{Named}
use Rattle.dataset_types.specs.Envs.{names_of}
use Rattle.dataset_types.specs.Slots.{Gives}
use Rattle.dataset_types.specs.Tables.{TableData, Distinct}
use Rattle.cell_errors.specs.declared.fault.CellError.{CellError}
use Rattle.cell_model.specs.Reading.{Answers}
use Rattle.cell_model.specs.Works.{Fixes}
use Rattle.cell_model.proofs.WorkLemmas.{entry, asked_new, asked_once}
use Rattle.relations.proofs.Collecting.{rest_of, begun, went_on_at, ended_at, stopped}
use Rattle.sql_meaning.specs.declared.input.Input.{Input}
use Rattle.sql_meaning.specs.Inputs.{input_if, input_in, inputs_in, unless_absent, names_read}
use Rattle.sql_meaning.proofs.Joinable.{not_before}

-- the first of the names are asked, and their datasets are there
pub record SoFar (names : List (List ℕ)) (i : ℕ) (inputs : List Input) (asked : List Named) : Type 0 where
  pub once : Distinct (names_of asked)
  pub are : names_of asked ≡ take i names
  pub gives : (look : List ℕ → Slot) → Gives look asked → inputs_in look names ≡ rest_of inputs (input_in look) (drop i names)
  pub reads : (look : List ℕ → Slot) → Gives look asked → names_read look names ≡ take i names ++ names_read look (drop i names)

-- before the first name
pub none_yet : (names : List (List ℕ)) → SoFar names 0 [] []
none_yet names = record { once = tt; are = refl; gives = λ look g. begun (input_in look) names; reads = λ look g. refl }

-- what is given of names is given of the first of them, and of the last
given_parts : (look : List ℕ → Slot) (asked : List Named) (e : Named) → Gives look (asked ++ e ∷ []) → Gives look asked × (look e.name ≡ e.slot)
given_parts look [] e g = (tt, g.0)
given_parts look (a ∷ asked) e g = let rest = given_parts look asked e g.1 in ((g.0, rest.0), rest.1)

module _ (names : List (List ℕ)) (i : ℕ) (inputs : List Input) (asked asked' : List Named) (name : List ℕ) (slot : Slot)
    (once : Distinct names) (below : i < length names) (is : name ≡ get_or names i name) (sofar : SoFar names i inputs asked) (answers : Answers asked name slot asked') where
  next_is : drop i names ≡ name ∷ drop (i + 1) names
  next_is = drop_more names i name below ∙ ap (λ z. z ∷ drop (i + 1) names) (sym is)

  fresh : Contains (names_of asked) name → ⊥
  fresh held =
      not_before (take i names) (drop (i + 1) names) name
      (subst Distinct (sym (ap (λ z. take i names ++ z) (sym next_is) ∙ take-append-drop i names)) once)
      (subst (λ z. Contains z name) sofar.are held)

  more : asked' ≡ asked ++ entry name slot ∷ []
  more = asked_new asked name slot asked' fresh answers

  taken : take (i + 1) names ≡ take i names ++ name ∷ []
  taken = ap (λ n. take n names) add ∙ (take-suc names i name below ∙ ap (λ z. take i names ++ z ∷ []) (sym is))
    where
      add : i + 1 ≡ suc i
      add = omega arith

  names_more : names_of asked' ≡ take i names ++ name ∷ []
  names_more = ap names_of more ∙ (map-append (λ (n : Named). n.name) asked (entry name slot ∷ []) ∙ ap (λ z. z ++ name ∷ []) sofar.are)

  given : (look : List ℕ → Slot) → Gives look asked' → Gives look asked × (look name ≡ slot)
  given look g = given_parts look asked (entry name slot) (subst (Gives look) more g)

  input_here : (look : List ℕ → Slot) → Gives look asked' → input_in look name ≡ input_if name slot.doubt slot.table
  input_here look g = ap (λ (s : Slot). input_if name s.doubt s.table) (given look g).1

  names_here : (look : List ℕ → Slot) → Gives look asked' → names_read look names ≡ take i names ++ name ∷ unless_absent slot.table (names_read look (drop (i + 1) names))
  names_here look g =
      sofar.reads look (given look g).0
      ∙ (ap (λ z. take i names ++ names_read look z) next_is
      ∙ ap (λ (s : Slot). take i names ++ name ∷ unless_absent s.table (names_read look (drop (i + 1) names))) (given look g).1)

  there : (o : Option TableData) (input : Input) (rest : List (List ℕ)) → input_if name slot.doubt o ≡ Ok input → unless_absent o rest ≡ rest
  there None input rest e = cc
  there (Some t) input rest e = refl

  -- one name more, which is there
  pub one_more : (input : Input) → input_if name slot.doubt slot.table ≡ Ok input → SoFar names (i + 1) (inputs ++ input ∷ []) asked'
  one_more input e = record {
    once = asked_once asked name slot asked' sofar.once answers;
    are = names_more ∙ sym taken;
    gives = λ look g.
        sofar.gives look (given look g).0
        ∙ went_on_at (input_in look) inputs input names i name below is (input_here look g ∙ e);
    reads = λ look g.
        names_here look g
        ∙ (ap (λ z. take i names ++ name ∷ z) (there slot.table input (names_read look (drop (i + 1) names)) e)
        ∙ (sym (append_assoc (take i names) (name ∷ []) (names_read look (drop (i + 1) names))) ∙ ap (λ z. z ++ names_read look (drop (i + 1) names)) (sym taken)));
  }

  absent : (o : Option TableData) (d : CellError) (rest : List (List ℕ)) → input_if name slot.doubt o ≡ Err d → unless_absent o rest ≡ []
  absent None d rest e = refl
  absent (Some t) d rest e = cc

  -- one that is absent ends the reads
  pub stops_here : (d : CellError) → input_if name slot.doubt slot.table ≡ Err d → Fixes (λ look. inputs_in look names) (λ look. names_read look names) asked' (Err d)
  stops_here d e = record {
    once = asked_once asked name slot asked' sofar.once answers;
    gives = λ look g.
        sofar.gives look (given look g).0
        ∙ stopped (input_in look) inputs (drop i names) (drop (i + 1) names) name d next_is (input_here look g ∙ e);
    names = λ look g.
        names_here look g
        ∙ (ap (λ z. take i names ++ name ∷ z) (absent slot.table d (names_read look (drop (i + 1) names)) e) ∙ sym names_more);
  }

-- all names are read
pub all_read : (names : List (List ℕ)) (i : ℕ) (inputs : List Input) (asked : List Named) → length names ≤ i → SoFar names i inputs asked →
    Fixes (λ look. inputs_in look names) (λ look. names_read look names) asked (Ok inputs)
all_read names i inputs asked done sofar = record {
  once = sofar.once;
  gives = λ look g. sofar.gives look g ∙ ended_at (input_in look) inputs names i done;
  names = λ look g. sofar.reads look g ∙ (ap (λ z. take i names ++ names_read look z) (drop_all i names done) ∙ (append-nil (take i names) ∙ sym sofar.are));
}
