-- Runs: their length, their cells, their fronts, and how they go on.
use Rattle.std.proofs.Common.{nat_eq, ◌≡◌, ◌<◌, ◌≤◌, ◌+◌, ◌-◌, ℕ, zero, suc, List, [], ◌∷◌, ◌++◌, length, take, drop, get_or, refl, ap, sym, ◌∙◌, subst, Bool, true, false, arith}
use Rattle.std.proofs.lemmas.List.{length_push, take-append-drop, take_more, length-take-le, take_all}
use Rattle.dataset_types.specs.declared.slot.Slot.{Slot}
use Rattle.dataset_types.specs.Envs.{EnvData, empty_env, blur_slots, after_writes}
use Rattle.dataset_types.specs.declared.slot.Named.{Named}
use Rattle.cell_model.specs.declared.cell.Cell.{Cell}
use Rattle.cell_model.specs.declared.cell_result.CellResult.{CellResult}
use Rattle.cell_model.specs.declared.run.Policy.{Policy}
use Rattle.cell_model.specs.Runs.{StepData, step, goes_on, run_from, run_of, env_after, Reaches}
use Rattle.cell_model.specs.Trails.{cells_of, going_after, next_of, Follows}
use Rattle.cell_model.specs.Answers.{IsReached, IsSettledRun}
use Rattle.cell_model.specs.declared.run.RunAll.{RunAll}

-- the steps of some cells and then of more
pub run_from-append : (m : Cell → (List ℕ → Slot) → CellResult) (p : Policy) (going : Bool) (env : EnvData) (xs ys : List Cell)
    → run_from m p going env (xs ++ ys) ≡ run_from m p going env xs ++ run_from m p (going_after p going (run_from m p going env xs)) (env_after env (run_from m p going env xs)) ys
run_from-append m p going env [] ys = refl
run_from-append m p going env (x ∷ xs) ys =
    let s = step m going env x in
    ap (λ l. s ∷ l) (run_from-append m p (goes_on p s.result.status) s.env xs ys)

-- the first steps are those of the first cells
pub take-run_from : (m : Cell → (List ℕ → Slot) → CellResult) (p : Policy) (going : Bool) (env : EnvData) (n : ℕ) (xs : List Cell)
    → take n (run_from m p going env xs) ≡ run_from m p going env (take n xs)
take-run_from m p going env zero xs = refl
take-run_from m p going env (suc n) [] = refl
take-run_from m p going env (suc n) (x ∷ xs) = let s = step m going env x in ap (λ l. s ∷ l) (take-run_from m p (goes_on p s.result.status) s.env n xs)

pub take-run_of : (m : Cell → (List ℕ → Slot) → CellResult) (p : Policy) (n : ℕ) (xs : List Cell) → take n (run_of m p xs) ≡ run_of m p (take n xs)
take-run_of m p n xs = take-run_from m p true empty_env n xs

-- one step for each cell
pub length-run_from : (m : Cell → (List ℕ → Slot) → CellResult) (p : Policy) (going : Bool) (env : EnvData) (xs : List Cell) → length (run_from m p going env xs) ≡ length xs
length-run_from m p going env [] = refl
length-run_from m p going env (x ∷ xs) = let s = step m going env x in ap suc (length-run_from m p (goes_on p s.result.status) s.env xs)

pub length-run_of : (m : Cell → (List ℕ → Slot) → CellResult) (p : Policy) (xs : List Cell) → length (run_of m p xs) ≡ length xs
length-run_of m p xs = length-run_from m p true empty_env xs

cells_of-run_from : (m : Cell → (List ℕ → Slot) → CellResult) (p : Policy) (going : Bool) (env : EnvData) (xs : List Cell) → cells_of (run_from m p going env xs) ≡ xs
cells_of-run_from m p going env [] = refl
cells_of-run_from m p going env (x ∷ xs) = let s = step m going env x in ap (λ l. x ∷ l) (cells_of-run_from m p (goes_on p s.result.status) s.env xs)

-- the cells of a run are those that were run
pub cells_of-run_of : (m : Cell → (List ℕ → Slot) → CellResult) (p : Policy) (xs : List Cell) → cells_of (run_of m p xs) ≡ xs
cells_of-run_of m p xs = cells_of-run_from m p true empty_env xs

-- steps that are the run of some cells are the run of their own cells
pub run_of-cells : (m : Cell → (List ℕ → Slot) → CellResult) (p : Policy) (steps : List StepData) (cells : List Cell) → steps ≡ run_of m p cells → steps ≡ run_of m p (cells_of steps)
run_of-cells m p steps cells is = is ∙ ap (run_of m p) (sym (ap cells_of is ∙ cells_of-run_of m p cells))

-- ---- the last step

pub env_after-last : (e : EnvData) (steps : List StepData) (n : ℕ) (d : StepData) → length steps ≡ suc n → env_after e steps ≡ (get_or steps n d).env
env_after-last e [] n d h = absurd (omega (arith, h))
env_after-last e (s ∷ []) zero d h = refl
env_after-last e (s ∷ []) (suc n) d h = absurd (omega (arith, h))
env_after-last e (s ∷ t ∷ ss) zero d h = absurd (omega (arith, h))
env_after-last e (s ∷ t ∷ ss) (suc n) d h = env_after-last s.env (t ∷ ss) n d (omega (arith, h))

pub going_after-last : (p : Policy) (b : Bool) (steps : List StepData) (n : ℕ) (d : StepData) → length steps ≡ suc n → going_after p b steps ≡ goes_on p (get_or steps n d).result.status
going_after-last p b [] n d h = absurd (omega (arith, h))
going_after-last p b (s ∷ []) zero d h = refl
going_after-last p b (s ∷ []) (suc n) d h = absurd (omega (arith, h))
going_after-last p b (s ∷ t ∷ ss) zero d h = absurd (omega (arith, h))
going_after-last p b (s ∷ t ∷ ss) (suc n) d h = going_after-last p (goes_on p s.result.status) (t ∷ ss) n d (omega (arith, h))

some_left : (xs : List StepData) → nat_eq (length xs) 0 ≡ false → length xs ≡ suc (length xs - 1)
some_left [] h = cc
some_left (x ∷ xs) h = omega arith

-- the last step's environment, as the code reads it
pub env_at : (xs steps : List StepData) (x : StepData) → nat_eq (length xs) 0 ≡ false → xs ≡ steps → x ≡ get_or xs (length xs - 1) x → env_after empty_env steps ≡ x.env
env_at xs steps x h e is = ap (env_after empty_env) (sym e) ∙ env_after-last empty_env xs (length xs - 1) x (some_left xs h) ∙ ap (λ y. y.env) (sym is)

-- whether the run goes on after the last step, as the code reads it
pub going_at : (p : Policy) (xs steps : List StepData) (x : StepData) → nat_eq (length xs) 0 ≡ false → xs ≡ steps → x ≡ get_or xs (length xs - 1) x → going_after p true steps ≡ goes_on p x.result.status
going_at p xs steps x h e is = ap (going_after p true) (sym e) ∙ going_after-last p true xs (length xs - 1) x (some_left xs h) ∙ ap (λ y. goes_on p y.result.status) (sym is)

-- ---- positions that a run reaches

pub Reaches-more : (p : Policy) (n : ℕ) (ss : List StepData) (d : StepData) → n < length ss → Reaches p n ss → goes_on p (get_or ss n d).result.status ≡ true → Reaches p (suc n) ss
Reaches-more p n [] d h a e = absurd (omega (arith, h))
Reaches-more p zero (s ∷ ss) d h a e = (e, tt)
Reaches-more p (suc n) (s ∷ ss) d h a e = (a.0, Reaches-more p n ss d (omega (arith, h)) a.1 e)

pub Reaches-append : (p : Policy) (n : ℕ) (ss xs : List StepData) → n ≤ length ss → Reaches p n ss → Reaches p n (ss ++ xs)
Reaches-append p zero ss xs le a = tt
Reaches-append p (suc n) [] xs le a = absurd (omega (arith, le))
Reaches-append p (suc n) (s ∷ ss) xs le a = (a.0, Reaches-append p n ss xs (omega (arith, le)) a.1)

-- one step more that goes on, as the code reads it
pub reached_at : (p : Policy) (steps : List StepData) (x : StepData) (n i : ℕ) → n ≡ i → i < length steps → x ≡ get_or steps i x → goes_on p x.result.status ≡ true → Reaches p n steps → Reaches p (n + 1) steps
reached_at p steps x n i same lt is on a =
    let here : goes_on p (get_or steps n x).result.status ≡ true =
    ap (λ k. goes_on p (get_or steps k x).result.status) same ∙ ap (λ y. goes_on p y.result.status) (sym is) ∙ on in
    let more : n + 1 ≡ suc n = omega arith in
    subst (λ k. Reaches p k steps) (sym more) (Reaches-more p n steps x (omega (arith, same, lt)) a here)

-- ---- a run that follows some first cells

-- one step more
pub Follows-more : (m : Cell → (List ℕ → Slot) → CellResult) (p : Policy) (steps more : List StepData) (cells : List Cell) (cell : Cell)
    → length steps < length cells → cell ≡ get_or cells (length steps) cell → more ≡ steps ++ next_of m p steps cell ∷ []
    → Follows m p steps cells → Follows m p more cells
Follows-more m p steps more cells cell lt at is f =
    let n = length steps in
    let len : length (steps ++ next_of m p steps cell ∷ []) ≡ n + 1 = length_push steps _ in
    let cut : take (n + 1) cells ≡ take n cells ++ cell ∷ [] = take_more cells n cell lt ∙ ap (λ c. take n cells ++ c ∷ []) (sym at) in
    let run : run_of m p (take (n + 1) cells) ≡ steps ++ next_of m p steps cell ∷ [] =
    ap (run_of m p) cut ∙ run_from-append m p true empty_env (take n cells) (cell ∷ [])
    ∙ ap (λ (ss : List StepData). ss ++ next_of m p ss cell ∷ []) (sym f.runs) in
    subst (λ ss. Follows m p ss cells) (sym is) (record {
      fits = omega (arith, len, lt);
      runs = sym run ∙ ap (λ k. run_of m p (take k cells)) (sym len);
    })

-- the whole run
pub Follows-all : (m : Cell → (List ℕ → Slot) → CellResult) (p : Policy) (steps : List StepData) (cells : List Cell)
    → length cells ≤ length steps → Follows m p steps cells → steps ≡ run_of m p cells
Follows-all m p steps cells le f = f.runs ∙ ap (run_of m p) (take_all (length steps) cells le)

-- no steps follow any cells
pub Follows-none : (m : Cell → (List ℕ → Slot) → CellResult) (p : Policy) (cells : List Cell) → Follows m p [] cells
Follows-none m p cells = record { fits = omega arith; runs = refl }

-- the first steps of a run, where both lists begin with these cells
pub Follows-front : (m : Cell → (List ℕ → Slot) → CellResult) (p : Policy) (steps front : List StepData) (base cells : List Cell) (n : ℕ)
    → steps ≡ run_of m p base → front ≡ take n steps → n ≤ length cells → take n base ≡ take n cells → Follows m p front cells
Follows-front m p steps front base cells n run is le same =
    let first : front ≡ run_of m p (take n cells) = is ∙ ap (take n) run ∙ take-run_of m p n base ∙ ap (run_of m p) same in
    let len : length front ≡ n = ap (λ (l : List StepData). length l) first ∙ length-run_of m p (take n cells) ∙ length-take-le n cells le in
    record { fits = omega (arith, len, le); runs = first ∙ ap (λ k. run_of m p (take k cells)) (sym len) }

-- the run goes on from the steps that follow its first cells
pub Follows-rest : (m : Cell → (List ℕ → Slot) → CellResult) (p : Policy) (steps : List StepData) (cells : List Cell)
    → Follows m p steps cells → (rest : List StepData) × (run_of m p cells ≡ steps ++ rest)
Follows-rest m p steps cells f =
    let n = length steps in (
      _,
      ap (run_of m p) (sym (take-append-drop n cells)) ∙ run_from-append m p true empty_env (take n cells) (drop n cells)
          ∙ ap (λ (ss : List StepData). ss ++ run_from m p (going_after p true ss) (env_after empty_env ss) (drop n cells)) (sym f.runs),
    )

-- ---- the position of a starved run

-- a position after some first steps that go on, in the whole run
pub reached_in : (m : Cell → (List ℕ → Slot) → CellResult) (p : Policy) (steps : List StepData) (cells : List Cell) (count : ℕ)
    → length steps < length cells → Follows m p steps cells → count ≤ length steps → Reaches p count steps → IsReached p (count + 1) (run_of m p cells)
reached_in m p steps cells count lt f le on =
    let whole = Follows-rest m p steps cells f in
    let back : count ≡ count + 1 - 1 = omega arith in
    record {
      positive = omega arith;
      within = omega (arith, lt, le, length-run_of m p cells);
      reached = subst (λ n. Reaches p n (run_of m p cells)) back (subst (Reaches p count) (sym whole.1) (Reaches-append p count steps whole.0 le on));
    }

-- a position after the steps before the last that go on
pub reached_before_last : (p : Policy) (steps : List StepData) (count : ℕ) → 0 < length steps → count ≤ length (take (length steps - 1) steps) → Reaches p count (take (length steps - 1) steps)
    → IsReached p (count + 1) steps
reached_before_last p steps count some le on =
    let n = length steps - 1 in
    let first : length (take n steps) ≡ n = length-take-le n steps (omega arith) in
    let back : count ≡ count + 1 - 1 = omega arith in
    record {
      positive = omega arith;
      within = omega (arith, le, first, some);
      reached = subst (λ k. Reaches p k steps) back (subst (Reaches p count) (take-append-drop n steps) (Reaches-append p count (take n steps) (drop n steps) le on));
    }

-- the first position of some cells
pub reached_first : (m : Cell → (List ℕ → Slot) → CellResult) (p : Policy) (cells : List Cell) → 0 < length cells → IsReached p 1 (run_of m p cells)
reached_first m p cells some = record { positive = omega arith; within = omega (arith, some, length-run_of m p cells); reached = tt }

pub some_cells : (cells : List Cell) (empty : Bool) → empty ≡ nat_eq (length cells) 0 → empty ≡ false → 0 < length cells
some_cells [] empty is isnt = cc
some_cells (c ∷ cells) empty is isnt = omega arith

-- what settles a run settles its cells
pub settled_run : (answer : RunAll) (m : Cell → (List ℕ → Slot) → CellResult) (p : Policy) (steps : List StepData) (cells : List Cell)
    → steps ≡ run_of m p cells → IsSettledRun answer p (cells_of steps) steps → IsSettledRun answer p cells (run_of m p cells)
settled_run answer m p steps cells is s =
    subst (λ l. IsSettledRun answer p cells l) is (subst (λ cs. IsSettledRun answer p cs steps) (ap cells_of is ∙ cells_of-run_of m p cells) s)

-- ---- environments

blur_slots-false : (slots : List Named) → blur_slots false slots ≡ slots
blur_slots-false [] = refl
blur_slots-false (e ∷ es) = ap (λ l. e ∷ l) (blur_slots-false es)

-- without a blur and writes an environment stays
pub no_writes_stay : (env : EnvData) → after_writes env false [] ≡ env
no_writes_stay env = ap (λ slots. record { slots = slots; blurred = env.blurred }) (blur_slots-false env.slots)
