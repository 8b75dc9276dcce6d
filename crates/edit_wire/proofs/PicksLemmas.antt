-- Picks before those of other lines.
use Rattle.std.proofs.Common.{◌≡◌, ◌∙◌, ◌+◌, ℕ, List, [], ◌∷◌, ◌++◌, refl, sym, ap, append_assoc, append-nil, Some, None}
use Rattle.std.specs.Prelude.{Result, Ok, Err}
use Rattle.dataset_types.specs.declared.picks.Pick.{Pick}
use Rattle.line_reader.specs.Cut.{lines_of}
use Rattle.edit_wire.specs.PicksFile.{onto, with_line, line_pick, picks_from, said_number}

-- picks before those that come
abbrev pub before : List Pick → Result (List Pick) ℕ → Result (List Pick) ℕ
before picks (Ok more) = Ok (picks ++ more)
before picks (Err number) = Err number

pub before_none : (given : Result (List Pick) ℕ) → before [] given ≡ given
before_none (Ok more) = refl
before_none (Err number) = refl

before_more : (picks : List Pick) (pick : Pick) (given : Result (List Pick) ℕ) → before picks (onto pick given) ≡ before (picks ++ pick ∷ []) given
before_more picks pick (Ok more) = ap Ok (sym (append_assoc picks (pick ∷ []) more))
before_more picks pick (Err number) = refl

-- a line that is a pick
pub after_pick : (all : Result (List Pick) ℕ) (picks more : List Pick) (pick : Pick) (number next : ℕ) (line rest after : List ℕ) → next ≡ number + 1
    → all ≡ before picks (picks_from next (lines_of rest)) → lines_of rest ≡ line ∷ lines_of after → Some (Some pick) ≡ line_pick line
    → more ≡ picks ++ pick ∷ [] → all ≡ before more (picks_from (next + 1) (lines_of after))
after_pick all picks more pick number next line rest after n so cut says is =
    so ∙ ap (λ ls. before picks (picks_from next ls)) cut
    ∙ ap (λ s. before picks (with_line next s (picks_from (next + 1) (lines_of after)))) (sym says)
    ∙ before_more picks pick (picks_from (next + 1) (lines_of after))
    ∙ ap (λ ps. before ps (picks_from (next + 1) (lines_of after))) (sym is)

-- a blank line
pub after_blank : (all : Result (List Pick) ℕ) (picks : List Pick) (next : ℕ) (line rest after : List ℕ)
    → all ≡ before picks (picks_from next (lines_of rest)) → lines_of rest ≡ line ∷ lines_of after → Some None ≡ line_pick line
    → all ≡ before picks (picks_from (next + 1) (lines_of after))
after_blank all picks next line rest after so cut says =
    so ∙ ap (λ ls. before picks (picks_from next ls)) cut
    ∙ ap (λ s. before picks (with_line next s (picks_from (next + 1) (lines_of after)))) (sym says)

-- a line that is neither
pub at_bad : (all : Result (List Pick) ℕ) (picks : List Pick) (next : ℕ) (line rest after : List ℕ)
    → all ≡ before picks (picks_from next (lines_of rest)) → lines_of rest ≡ line ∷ lines_of after → None ≡ line_pick line
    → all ≡ Err (said_number next)
at_bad all picks next line rest after so cut says =
    so ∙ ap (λ ls. before picks (picks_from next ls)) cut
    ∙ ap (λ s. before picks (with_line next s (picks_from (next + 1) (lines_of after)))) (sym says)

-- no line is left
pub at_end : (all : Result (List Pick) ℕ) (picks : List Pick) (next : ℕ) (rest : List ℕ)
    → all ≡ before picks (picks_from next (lines_of rest)) → rest ≡ [] → all ≡ Ok picks
at_end all picks next rest so none =
    so ∙ ap (λ r. before picks (picks_from next (lines_of r))) none ∙ ap Ok (append-nil picks)
