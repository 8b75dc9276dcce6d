-- Runs under both policies.
use Rattle.std.proofs.Common.{◌≡◌, ℕ, List, [], ◌∷◌, refl, ap, sym, ◌∙◌, subst, Bool, true, false}
use Rattle.dataset_types.specs.declared.slot.Slot.{Slot}
use Rattle.dataset_types.specs.Envs.{EnvData, look}
use Rattle.cell_model.specs.declared.cell.Cell.{Cell}
use Rattle.cell_model.specs.declared.cell_result.CellResult.{CellResult}
use Rattle.cell_model.specs.declared.cell_result.CellStatus.{CellStatus}
use Rattle.cell_model.specs.declared.cell_result.CellStatus.TheVariants as status
use Rattle.cell_model.specs.declared.run.Policy.{Policy}
use Rattle.cell_model.specs.declared.run.Policy.TheVariants as policy
use Rattle.cell_model.specs.Runs.{is_ok, bare, IsBare, goes_on, after_cell, next_result, step, run_from}
use Rattle.cell_model.specs.Laws.{AllBlocked, StopsAtFault, FaultsKeepEnv, IsFreeOfErrors}
use Rattle.cell_model.proofs.RunLemmas.{no_writes_stay}

all_blocked : (m : Cell → (List ℕ → Slot) → CellResult) (env : EnvData) (cells : List Cell) → AllBlocked env (run_from m policy.Stop false env cells)
all_blocked m env [] = tt
all_blocked m env (c ∷ cs) =
    let stays : after_cell env (bare status.Blocked) ≡ env = no_writes_stay env in
    (refl, stays, subst (λ e. AllBlocked env (run_from m policy.Stop false e cs)) (sym stays) (all_blocked m env cs))

-- after a step that isn't ok the others are blocked
pub stops_at_fault : (m : Cell → (List ℕ → Slot) → CellResult) (going : Bool) (env : EnvData) (cells : List Cell) → StopsAtFault (run_from m policy.Stop going env cells)
stops_at_fault m going env [] = tt
stops_at_fault m going env (c ∷ cs) =
    let s = step m going env c in
    (λ h. subst (λ b. AllBlocked s.env (run_from m policy.Stop b s.env cs)) (sym h) (all_blocked m s.env cs), stops_at_fault m (is_ok s.result.status) s.env cs)

next_bare : (m : Cell → (List ℕ → Slot) → CellResult) → ((c : Cell) (look : List ℕ → Slot) → IsBare (m c look)) → (going : Bool) (env : EnvData) (c : Cell) → IsBare (next_result m going env c)
next_bare m b true env c = b c (look env)
next_bare m b false env c = λ h. refl

-- a step that isn't ok leaves the environment as it was
pub faults_keep_env : (m : Cell → (List ℕ → Slot) → CellResult) → ((c : Cell) (look : List ℕ → Slot) → IsBare (m c look)) → (p : Policy) (going : Bool) (env : EnvData) (cells : List Cell)
    → FaultsKeepEnv env (run_from m p going env cells)
faults_keep_env m b p going env [] = tt
faults_keep_env m b p going env (c ∷ cs) =
    let s = step m going env c in
    (λ h. ap (after_cell env) (next_bare m b going env c h) ∙ no_writes_stay env, faults_keep_env m b p (goes_on p s.result.status) s.env cs)

goes_on_ok : (p : Policy) (st : CellStatus) → is_ok st ≡ true → goes_on p st ≡ true
goes_on_ok policy.Stop st h = h
goes_on_ok policy.Carry st h = refl

-- free of errors, a run is the same under another policy
pub same_if_free : (m : Cell → (List ℕ → Slot) → CellResult) (p q : Policy) (env : EnvData) (cells : List Cell) → IsFreeOfErrors (run_from m p true env cells) → run_from m q true env cells ≡ run_from m p true env cells
same_if_free m p q env [] free = refl
same_if_free m p q env (c ∷ cs) free =
    let s = step m true env c in
    let p_on : goes_on p s.result.status ≡ true = goes_on_ok p s.result.status free.0 in
    let q_on : goes_on q s.result.status ≡ true = goes_on_ok q s.result.status free.0 in
    ap (λ l. s ∷ l)
    (ap (λ b. run_from m q b s.env cs) q_on
    ∙ same_if_free m p q s.env cs (subst (λ b. IsFreeOfErrors (run_from m p b s.env cs)) p_on free.1)
    ∙ ap (λ b. run_from m p b s.env cs) (sym p_on))
