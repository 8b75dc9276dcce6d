-- The law of erasure, by `Respects`.
use Rattle.std.proofs.Common.{◌≡◌, ℕ, Bool, Option, Some, None, Ok, Err, List, [], ◌∷◌, map, refl, ap}
use Rattle.std.specs.Prelude.{option_map}
use Rattle.std.proofs.lemmas.List.{length-map}
use Rattle.value_types.specs.declared.value.Value.{Value}
use Rattle.expr_lang.specs.declared.expr.Expr.{Expr}
use Rattle.expr_ops.specs.declared.aggregates.Aggregate.{Aggregate}
use Rattle.expr_ops.specs.Aggregates.{aggregate_of}
use Rattle.dataset_types.specs.declared.picks.Pick.{Pick}
use Rattle.cell_errors.specs.Answers.{Answer, and_then}
use Rattle.cell_errors.specs.Seen.{Seen, seen_then, unmarked}
use Rattle.expr_meaning.specs.declared.bindings.Binding.{Binding}
use Rattle.expr_meaning.specs.Settings.{PlainBinding, MarkedSetting, plain_binding, plain_setting, at_row, at_plain_row}
use Rattle.expr_meaning.specs.Meaning.{Plain, Reading, plain_then, read_then, seen_of, find_plain, find_marked, caveat_plain, caveat_marked, count_plain, count_marked, over_plain, over_marked, plain_meaning, marked_meaning, marked_at}
use Rattle.expr_meaning.specs.Laws.{ErasesTo}
use Rattle.expr_meaning.proofs.Respects.{respects, EachR, all_then_R}
use Rattle.expr_meaning.proofs.Alike.{Each, Both, meant_each}

abbrev Erases : Seen Value → Answer Value → Type 0
Erases s a = s.answer ≡ a

then_erases : (x : Seen Value) (y : Answer Value) (f : Value → Seen Value) (g : Value → Answer Value) → Erases x y →
    ((v : Value) → Erases (f v) (g v)) → Erases (seen_then x f) (and_then y g)
then_erases x (Ok v) f g e h = rw e (h v)
then_erases x (Err e') f g e h = rw e refl

-- ---- names

abbrev IsPlain : Binding → PlainBinding → Type 0
IsPlain a b = plain_binding a ≡ b

abbrev EachPlain : List Binding → List PlainBinding → Type 0
EachPlain = Each Binding PlainBinding (λ b. b.qualifier) (λ b. b.name) (λ b. b.qualifier) (λ b. b.name) IsPlain (λ a b e. ap (λ c. c.qualifier) e) (λ a b e. ap (λ c. c.name) e)

abbrev BothPlain : Answer Binding → Answer PlainBinding → Type 0
BothPlain = Both Binding PlainBinding (λ b. b.qualifier) (λ b. b.name) (λ b. b.qualifier) (λ b. b.name) IsPlain (λ a b e. ap (λ c. c.qualifier) e) (λ a b e. ap (λ c. c.name) e)

each_plain : (row : List Binding) → EachPlain row (map plain_binding row)
each_plain [] = tt
each_plain (b ∷ row) = (refl, each_plain row)

seen_erases : (a : Answer Binding) (b : Answer PlainBinding) → BothPlain a b → Erases (seen_of a) (and_then b (λ x. Ok x.value))
seen_erases (Ok a) (Ok b) e = ap (λ (c : PlainBinding). Ok c.value) e
seen_erases (Err e) (Err d) h = ap (λ x. Err x) h
seen_erases (Ok a) (Err d) h = absurd h
seen_erases (Err e) (Ok b) h = absurd h

find_erases : (row : List Binding) (q : Option (List ℕ)) (name : List ℕ) → Erases (find_marked row q name) (find_plain (map plain_binding row) q name)
find_erases row q name =
    seen_erases _ _ (meant_each Binding PlainBinding (λ b. b.qualifier) (λ b. b.name) (λ b. b.qualifier) (λ b. b.name) IsPlain
    (λ a b e. ap (λ c. c.qualifier) e) (λ a b e. ap (λ c. c.name) e) q name row (map plain_binding row) (each_plain row))

caveat_erases : (picks : List Pick) (cell call : ℕ) (x : Seen Value) (y : Answer Value) → Erases x y →
    Erases (caveat_marked picks cell call x) (caveat_plain picks cell call y)
caveat_erases picks cell call x y e = then_erases x y _ _ e (λ v. refl)

-- ---- over settings

abbrev ErasesIn : Reading → Plain → Type 0
ErasesIn f g = (s : MarkedSetting) → Erases (f s) (g (plain_setting s))

abbrev EachErases : List (Seen Value) → List (Answer Value) → Type 0
EachErases = EachR (Seen Value) (Answer Value) seen_then and_then unmarked (λ a. a) Erases then_erases (λ a. refl)

each_row : (x : Reading) (y : Plain) → ErasesIn x y → (rs : List (List Binding)) → EachErases (map (λ r. x (at_row r)) rs) (map (λ r. y (at_plain_row r)) (map (map plain_binding) rs))
each_row x y h [] = tt
each_row x y h (r ∷ rs) = (h (at_row r), each_row x y h rs)

over_erases : (op : Aggregate) (x : Reading) (y : Plain) → ErasesIn x y → (group : Option (List (List Binding))) (m : Bool) →
    Erases (over_marked op x group m) (over_plain op y (option_map (map (map plain_binding)) group))
over_erases op x y h None m = refl
over_erases op x y h (Some rs) m =
    all_then_R (Seen Value) (Answer Value) seen_then and_then unmarked (λ a. a) Erases then_erases (λ a. refl) _ _ [] (aggregate_of op) (each_row x y h rs)

count_erases : (group : Option (List (List Binding))) → count_plain group ≡ count_plain (option_map (map (map plain_binding)) group)
count_erases None = refl
count_erases (Some rs) = rw (length-map rs (map plain_binding)) refl

pub erases_to : (e : Expr) → ErasesTo e
unfolding plain_meaning marked_meaning marked_at
erases_to e s picks cell =
    respects Reading Plain read_then plain_then (λ a s. unmarked a) (λ a s. a) ErasesIn
    (λ x y f g r h s. then_erases (x s) (y (plain_setting s)) (λ v. f v s) (λ v. g v (plain_setting s)) (r s) (λ v. h v s)) (λ a s. refl)
    (λ q name s. find_marked s.row q name) (λ q name s. find_plain s.row q name)
    (λ call x s. caveat_marked picks cell call (x s)) (λ call x s. caveat_plain picks cell call (x s))
    (λ s. count_marked s.group s.marked) (λ s. count_plain s.group)
    (λ op x s. over_marked op x s.group s.marked) (λ op x s. over_plain op x s.group)
    (λ q name s. find_erases s.row q name) (λ call x y r s. caveat_erases picks cell call (x s) (y (plain_setting s)) (r s))
    (λ s. count_erases s.group) (λ op x y r s. over_erases op x y r s.group s.marked) e s
