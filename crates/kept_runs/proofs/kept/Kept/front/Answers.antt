use Rattle.std.proofs.Common.{◌≡◌, ◌≤◌, ◌-◌, ◌∙◌, sym, ap, subst, arith, length, take, get_or, [], List, IfOk}
use Rattle.std.proofs.lemmas.List.{length-map}
use Rattle.cell_model.specs.declared.cell.Cell.{Cell}
use Rattle.cell_model.specs.Runs.{StepData}
use Rattle.cell_model.specs.Trails.{Follows, cells_of}
use Rattle.kept_runs.specs.Kept.{KeptData, cells_at}
use Rattle.kept_runs.proofs.KeptLemmas.{front_at, long_enough}
use Rattle.kept_runs.proofs.kept.Kept.front.Goals as goal

pub front_of-requires : goal.front_of-requires
front_of-requires g c =
    let k = c.self.inside in
    let t = c.index-as_slice-base.result in
    long_enough k.trails t c.args.base c.args.count c.if-base-eq0.false
    (omega (arith, c.requires.base, length-map k.trails cells_of, ap (λ (d : KeptData). length d.versions) c.self.view_is))
    (c.index-as_slice-base.is ∙ ap (λ (ts : List (List StepData)). get_or ts (c.args.base - 1) t) c.as_slice.ensures)
    (subst (λ (d : KeptData). c.args.count ≤ length (cells_at d.versions c.args.base)) (sym c.self.view_is) c.requires.count)

pub returns : goal.returns
returns g c =
    let m = g.W.CellMeaning.meaning in
    let k = c.self.inside in
    let n = c.args.count in
    let b = c.args.base in
    let t = c.index-as_slice-base.result in
    subst (λ (d : KeptData). (cells : List Cell) → n ≤ length cells → take n (cells_at d.versions b) ≡ take n cells → IfOk c.front_of.result (λ t. Follows m d.policy t cells))
    c.self.view_is
    (front_at c.front_of.result m k.policy k.trails t b n c.if-base-eq0.false
    (omega (arith, c.requires.base, length-map k.trails cells_of, ap (λ (d : KeptData). length d.versions) c.self.view_is))
    (c.index-as_slice-base.is ∙ ap (λ (ts : List (List StepData)). get_or ts (b - 1) t) c.as_slice.ensures)
    c.front_of.ensures c.self.invariant)
