use Rattle.std.proofs.Common.{rules, ℕ, List, get_or, ap, sym, ◌∙◌}
use Rattle.std.specs.Str.{chars}
use Rattle.expr_ops.specs.Texts.{matches}
use Rattle.expr_ops.proofs.Following.{begun, went_on, ended}
use Rattle.expr_ops.proofs.pattern.matches.Goals as goal

pub loop-wanted-init : goal.loop-wanted-init
loop-wanted-init c = begun c.as_slice-wanted-items.result.now c.in_ok-letters.letters.items c.in_ok-reached.reached.items (search rules)

pub loop-wanted-preserved : goal.loop-wanted-preserved
loop-wanted-preserved c =
    went_on c.as_slice-wanted-items.result.now c.in_ok-letters.letters.items c.loop-wanted.reached.items c.in_ok-reached-2.reached.items
    c.loop-wanted.wanted-index c.wanted-item.result c.loop-wanted.invariant c.loop-wanted-test.true c.wanted-item.is (search rules)

pub returns : goal.returns
returns c =
    c.index.ensures ∙ ap (λ n. get_or c.loop-wanted.reached.items n c.index.result.now) (search rules)
    ∙ sym (ended c.as_slice-wanted-items.result.now c.in_ok-letters.letters.items c.loop-wanted.reached.items c.loop-wanted.wanted-index c.index.result.now c.loop-wanted.invariant c.loop-wanted-test.false)
    ∙ ap (λ (xs : List ℕ). matches xs c.in_ok-letters.letters.items) (c.as_slice-wanted-items.ensures.value ∙ c.in_ok-parts.ensures)
    ∙ ap (λ (xs : List ℕ). matches (chars c.args.pattern.now) xs) c.in_ok-letters.ensures
