use Rattle.std.proofs.Common.{◌≡◌, ◌∙◌, sym, ap, drop, get_or, Some, None}
use Rattle.std.proofs.Math.ListN.{drop_of_length-le}
use Rattle.notebook_grammar.specs.Forms.{step, class_of}
use Rattle.notebook_grammar.proofs.Munching.{munch}
use Rattle.notebook_grammar.proofs.Munching.{is_longest, stopped_at}
use Rattle.notebook_grammar.proofs.scan.longest.Goals as goal

pub returns-in-None : goal.returns-in-None
returns-in-None c =
    let l = c.loop-byte in
    let none : step l.state (class_of (get_or c.args.text.now l.byte-index 0)) ≡ None = ap (step l.state) (sym c.class_of.ensures) ∙ sym c.step.ensures ∙ c.in-None.is in
    let counted : munch (Some l.state) l.byte-index l.best (drop l.byte-index c.args.text.now) ≡ munch (Some l.state) l.length l.best (drop l.byte-index c.args.text.now) =
    ap (λ n. munch (Some l.state) n l.best (drop l.byte-index c.args.text.now)) (sym l.invariant.1) in
    is_longest c.args.text.now l.best (sym l.invariant.0 ∙ sym counted ∙ stopped_at l.state l.byte-index l.best c.args.text.now c.loop-byte-test.true none)

pub returns : goal.returns
returns c =
    let l = c.loop-byte in
    is_longest c.args.text.now l.best (sym l.invariant.0 ∙ ap (λ x. munch (Some l.state) l.length l.best x) (drop_of_length-le c.args.text.now c.loop-byte-test.false))
