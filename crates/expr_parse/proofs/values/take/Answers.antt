-- The first quote is one byte, so that a character begins behind it.
use Rattle.std.proofs.Common.{◌≡◌, false, ◌∷◌, subst, sym, ap, ◌∙◌, arith}
use Rattle.std.proofs.lemmas.Str.{IsCharBoundary-after_ascii}
use Rattle.expr_parse.specs.Values.{undoubled, value_of, token_text}
use Rattle.expr_parse.specs.Pieces.{put}
use Rattle.expr_parse.specs.declared.piece.Piece.TheVariants as piece
use Rattle.std.specs.Prelude.{OnOk}
use Rattle.expr_parse.proofs.Slices.{inner}
use Rattle.expr_parse.proofs.values.take.Goals as goal

pub range-requires-clause-start_boundary : goal.range-requires-clause-start_boundary
range-requires-clause-start_boundary g c = λ pos.
    let quote = c.requires.opened c.in-Quoted.is in
    let long = c.requires.long c.in-Quoted.is in
    let within = c.requires.within in
    IsCharBoundary-after_ascii c.args.text.now c.args.token.at c.utf8.text (omega (arith, long, within)) (omega (arith, quote))

pub returns-in_ok-inside-in-Quoted : goal.returns-in_ok-inside-in-Quoted
returns-in_ok-inside-in-Quoted g c =
    let long = c.requires.long c.in-Quoted.is in
    let same = inner c.args.text.now c.args.token.at c.args.token.end long c.requires.within in
    let made = c.in_ok-inside-in-Quoted.ensures in
    let range = c.range.ensures.value in
    let pushed = c.push-in-Quoted.ensures in
    subst (λ x. OnOk c.push-in-Quoted.result (c.push-in-Quoted.new.self ≡ x))
    (ap (λ i. piece.Quoted i ∷ c.args.pieces.now) (made ∙ ap (λ x. undoubled false x) (range ∙ same))
    ∙ sym (ap (λ kind. put (value_of kind (token_text c.args.text.now c.args.token) c.args.token.call) c.args.pieces.now) c.in-Quoted.is))
    pushed
