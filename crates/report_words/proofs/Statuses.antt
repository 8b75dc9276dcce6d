-- What each end of a session covers of one stream, worked by hand: a line that a line feed ends, and a last piece.
use Rattle.std.proofs.Common.{◌≡◌, inl, inr, ◌<◌, ◌-◌, ◌++◌, ◌∷◌, [], ℕ, List, refl, ap, sym, subst, codes, Some, length, take, arith, append-nil}
use Rattle.std.specs.Fmt.{digits}
use Rattle.line_reader.specs.Cut.{ended_lines, limit}
use Rattle.version_tree.specs.Notebook.{start}
use Rattle.version_tree.specs.declared.told.Told.{Told}
use Rattle.version_tree.specs.declared.told.Told.TheVariants as told
use Rattle.report_words.specs.Reports.{report_of, IsStarvedText}
use Rattle.report_words.specs.Says.{Says}
use Rattle.report_words.specs.declared.said.Said.{Said}
use Rattle.report_words.specs.declared.status.SessionStatus.TheVariants as status
use Rattle.report_words.proofs.Examples.{alone, line, appended, it_says, no_edit_is_refused, no_json_is_refused}

abbrev stream : List ℕ
stream = codes "{}\n{"

abbrev one : List (List ℕ × Told)
one = alone (codes "{}") ∷ []

abbrev both : List (List ℕ × Told)
both = alone (codes "{}") ∷ alone (codes "{") ∷ []

abbrev one_text : List ℕ
one_text = codes "line 1 refused E2 BadEdit\n"

abbrev both_text : List ℕ
both_text = codes "line 1 refused E2 BadEdit\n" ++ codes "line 2 refused E1 BadJson\n"

one_report : report_of [] one ≡ one_text
unfolding digits
one_report = simp no_edit_is_refused

both_report : report_of [] both ≡ both_text
unfolding digits
both_report = simp (no_edit_is_refused, no_json_is_refused)

-- at the end of the stream the last piece is a line, and both are answered
done : Says status.Done [] (Some stream) (Some []) (Some []) (Some both_text) both
done = (stream, record { consumed = refl; end = refl; count = omega arith; given = refl }, sym both_report)

-- where a read fails behind the same bytes, the last piece is none
read_fault : Says status.ReadFault [] (Some stream) (Some []) (Some []) (Some one_text) one
read_fault = (stream, refl, omega arith, refl, sym one_report)

-- where a write fails, a first part of what the lines earn is there
write_fault : Says status.WriteFault [] (Some stream) (Some (codes "{")) (Some []) (Some (codes "line 1 ref")) one
write_fault = ((codes "{}\n", [], refl, inl refl), (codes "line 1 ref", codes "used E2 BadEdit\n", one_report, refl))

-- so it is where no memory was found; nothing is a first part too
no_memory : Says status.NoMemory [] (Some stream) (Some (codes "{")) (Some []) (Some []) one
no_memory = ((codes "{}\n", [], refl, inl refl), inl ([], one_text, one_report, refl))

abbrev starved_block : List ℕ
starved_block = codes "version 1 main\n" ++ codes "starved cell 1 #1\n" ++ codes "end 1\n"

at_its_cell : IsStarvedText (start []) (Said.Edits appended) told.NotAsked starved_block
unfolding digits
at_its_cell = (refl, (1, record { positive = omega arith; within = omega arith; reached = tt }, refl))

-- or where none was found at the cell of the line: a starved block ends the report
starved : Says status.NoMemory [] (Some (line ++ codes "\n")) (Some []) (Some []) (Some starved_block) (alone line ∷ [])
starved = (
  (line ++ codes "\n", [], refl, inl refl),
  inr (
    [],
    alone line,
    starved_block,
    refl,
    subst (λ (s : Said). IsStarvedText (start []) s told.NotAsked starved_block) (sym it_says) at_its_cell,
    (starved_block, [], refl, refl),
  ),
)

-- where the stream goes on past its limit in a second line, the first is covered
too_long : (rest : List ℕ) → limit < length (codes "{}\n" ++ rest) → ended_lines (take (limit - 3) rest) ≡ []
    → Says status.StreamTooLong [] (Some (codes "{}\n" ++ rest)) (Some []) (Some []) (Some one_text) one
too_long rest long no_more =
    (codes "{}\n" ++ rest, sym (append-nil (codes "{}\n" ++ rest)), long, ap (λ (lines : List (List ℕ)). codes "{}" ∷ lines) (sym no_more), sym one_report)
