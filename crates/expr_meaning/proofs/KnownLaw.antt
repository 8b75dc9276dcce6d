-- What is known of an expression's outcome, by `Respects`.
use Rattle.std.proofs.Common.{◌≡◌, ℕ, Bool, true, false, Option, Some, None, Ok, Err, List, [], ◌∷◌, map, refl, subst, ap, ◌∙◌}
use Rattle.std.specs.Prelude.{option_map}
use Rattle.std.proofs.lemmas.List.{length-map}
use Rattle.value_types.specs.declared.value.Value.{Value}
use Rattle.expr_lang.specs.declared.expr.Expr.{Expr}
use Rattle.expr_ops.specs.declared.aggregates.Aggregate.{Aggregate}
use Rattle.expr_ops.specs.Aggregates.{aggregate_of}
use Rattle.dataset_types.specs.declared.picks.Pick.{Pick}
use Rattle.cell_errors.specs.Answers.{Answer}
use Rattle.cell_errors.specs.Seen.{Seen, after, go_on, seen_then, unmarked}
use Rattle.expr_meaning.specs.declared.bindings.Binding.{Binding}
use Rattle.expr_meaning.specs.Known.{Known, known_then, unless_marked, known}
use Rattle.expr_meaning.specs.Settings.{KnownBinding, MarkedSetting, known_binding, known_setting, at_row, at_known_row}
use Rattle.expr_meaning.specs.Meaning.{Reading, KnownReading, read_then, known_read_then, seen_of, known_of, find_marked, find_known, caveat_marked, caveat_known, count_marked, count_known, over_marked, over_known, marked_meaning, marked_at, known_meaning}
use Rattle.expr_meaning.specs.Laws.{IsKnown}
use Rattle.expr_meaning.proofs.Respects.{respects, EachR, all_then_R}
use Rattle.expr_meaning.proofs.Alike.{Each, Both, meant_each}

abbrev Matches : Seen Value → Known Value → Type 0
Matches s k = known s ≡ k

then_known : (x : Seen Value) (y : Known Value) (f : Value → Seen Value) (g : Value → Known Value) → Matches x y →
    ((v : Value) → Matches (f v) (g v)) → Matches (seen_then x f) (known_then y g)
then_known x y f g e h = subst (λ z. Matches (seen_then x f) (known_then z g)) e (at_once x.marked x.answer)
  where
    at_once : (m : Bool) (a : Answer Value) → Matches (go_on m a f) (known_then (unless_marked m a) g)
    at_once true (Ok v) = refl
    at_once true (Err e) = refl
    at_once false (Ok v) = h v
    at_once false (Err e) = refl

-- ---- names

abbrev IsOf : Binding → KnownBinding → Type 0
IsOf a b = known_binding a ≡ b

abbrev EachKnown : List Binding → List KnownBinding → Type 0
EachKnown = Each Binding KnownBinding (λ b. b.qualifier) (λ b. b.name) (λ b. b.qualifier) (λ b. b.name) IsOf (λ a b e. ap (λ c. c.qualifier) e) (λ a b e. ap (λ c. c.name) e)

abbrev BothKnown : Answer Binding → Answer KnownBinding → Type 0
BothKnown = Both Binding KnownBinding (λ b. b.qualifier) (λ b. b.name) (λ b. b.qualifier) (λ b. b.name) IsOf (λ a b e. ap (λ c. c.qualifier) e) (λ a b e. ap (λ c. c.name) e)

each_known : (row : List Binding) → EachKnown row (map known_binding row)
each_known [] = tt
each_known (b ∷ row) = (refl, each_known row)

as_answer : (m : Bool) (v : Value) → known {A = Value} (record { marked = m; answer = Ok v }) ≡ option_map (λ x. Ok x) (unless_marked m v)
as_answer true v = refl
as_answer false v = refl

seen_known : (a : Answer Binding) (b : Answer KnownBinding) → BothKnown a b → Matches (seen_of a) (known_of b)
seen_known (Ok a) (Ok b) e = as_answer a.value.marked a.value.value ∙ ap (λ (c : KnownBinding). option_map (λ v. Ok v) c.value) e
seen_known (Err e) (Err d) h = ap (λ x. Some (Err x)) h
seen_known (Ok a) (Err d) h = absurd h
seen_known (Err e) (Ok b) h = absurd h

find_is_known : (row : List Binding) (q : Option (List ℕ)) (name : List ℕ) → Matches (find_marked row q name) (find_known (map known_binding row) q name)
find_is_known row q name =
    seen_known _ _ (meant_each Binding KnownBinding (λ b. b.qualifier) (λ b. b.name) (λ b. b.qualifier) (λ b. b.name) IsOf
    (λ a b e. ap (λ c. c.qualifier) e) (λ a b e. ap (λ c. c.name) e) q name row (map known_binding row) (each_known row))

caveat_is_known : (picks : List Pick) (cell call : ℕ) (x : Seen Value) (y : Known Value) → Matches x y →
    Matches (caveat_marked picks cell call x) (caveat_known y)
caveat_is_known picks cell call x y e = then_known x y _ _ e (λ v. refl)

-- ---- over settings

abbrev KnownIn : Reading → KnownReading → Type 0
KnownIn f g = (s : MarkedSetting) → Matches (f s) (g (known_setting s))

abbrev EachIsKnown : List (Seen Value) → List (Known Value) → Type 0
EachIsKnown = EachR (Seen Value) (Known Value) seen_then known_then unmarked (λ a. Some a) Matches then_known (λ a. refl)

each_row : (x : Reading) (y : KnownReading) → KnownIn x y → (rs : List (List Binding)) → EachIsKnown (map (λ r. x (at_row r)) rs) (map (λ r. y (at_known_row r)) (map (map known_binding) rs))
each_row x y h [] = tt
each_row x y h (r ∷ rs) = (h (at_row r), each_row x y h rs)

not_marked : (s : Seen Value) → known (after false s) ≡ known s
not_marked s = refl

over_is_known : (op : Aggregate) (x : Reading) (y : KnownReading) → KnownIn x y → (group : Option (List (List Binding))) (m : Bool) →
    Matches (over_marked op x group m) (over_known op y (option_map (λ rows. unless_marked m (map (map known_binding) rows)) group))
over_is_known op x y h None m = refl
over_is_known op x y h (Some rs) true = refl
over_is_known op x y h (Some rs) false =
    all_then_R (Seen Value) (Known Value) seen_then known_then unmarked (λ a. Some a) Matches then_known (λ a. refl) _ _ [] (aggregate_of op) (each_row x y h rs)

count_is_known : (group : Option (List (List Binding))) (m : Bool) →
    known (count_marked group m) ≡ count_known (option_map (λ rows. unless_marked m (map (map known_binding) rows)) group)
count_is_known None m = refl
count_is_known (Some rs) true = refl
count_is_known (Some rs) false = rw (length-map rs (map known_binding)) refl

pub is_known : (e : Expr) → IsKnown e
unfolding marked_meaning marked_at known_meaning
is_known e s picks cell =
    respects Reading KnownReading read_then known_read_then (λ a s. unmarked a) (λ a s. Some a) KnownIn
    (λ x y f g r h s. then_known (x s) (y (known_setting s)) (λ v. f v s) (λ v. g v (known_setting s)) (r s) (λ v. h v s)) (λ a s. refl)
    (λ q name s. find_marked s.row q name) (λ q name s. find_known s.row q name)
    (λ call x s. caveat_marked picks cell call (x s)) (λ call x s. caveat_known (x s))
    (λ s. count_marked s.group s.marked) (λ s. count_known s.group)
    (λ op x s. over_marked op x s.group s.marked) (λ op x s. over_known op x s.group)
    (λ q name s. find_is_known s.row q name) (λ call x y r s. caveat_is_known picks cell call (x s) (y (known_setting s)) (r s))
    (λ s. count_is_known s.group s.marked) (λ op x y r s. over_is_known op x y r s.group s.marked) e s
