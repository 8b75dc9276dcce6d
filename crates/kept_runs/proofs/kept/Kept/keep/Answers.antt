use Rattle.std.proofs.Common.{◌≡◌, ◌∙◌, ◌++◌, ◌∷◌, [], sym, ap, subst, List, length, take, arith}
use Rattle.std.proofs.lemmas.List.{take_all}
use Rattle.cell_model.specs.Runs.{StepData, run_of}
use Rattle.cell_model.specs.Trails.{cells_of}
use Rattle.kept_runs.specs.Kept.{AllRuns, KeptData}
use Rattle.kept_runs.proofs.KeptLemmas.{AllRuns-push}
use Rattle.kept_runs.proofs.kept.Kept.keep.Goals as goal

pub invariant_of-self-2 : goal.invariant_of-self-2
invariant_of-self-2 g c =
    let m = g.W.CellMeaning.meaning in
    let k = c.self.inside in
    let t = c.args.trail.now in
    let kept = c.in_ok-kept.kept in
    let same : kept ≡ t = c.in_ok-kept.ensures ∙ take_all c.len.result t (omega (arith, c.len.ensures)) in
    let run : t ≡ run_of m k.policy (cells_of t) = c.requires ∙ ap (λ (d : KeptData). run_of m d.policy (cells_of t)) (sym c.self.view_is) in
    subst (AllRuns m k.policy) (sym (c.in_ok-push.ensures.ok ∙ ap (λ (x : List StepData). k.trails ++ x ∷ []) same)) (AllRuns-push m k.policy k.trails t c.self.invariant run)
