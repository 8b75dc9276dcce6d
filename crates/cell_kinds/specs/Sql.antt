-- SELECT cells, which make a dataset of others.
use Rattle.std.specs.Prelude.{ℕ, List, [], ◌∷◌, Ok, Err}
use Rattle.dataset_types.specs.declared.picks.Pick.{Pick}
use Rattle.dataset_types.specs.declared.slot.Slot.{Slot}
use Rattle.dataset_types.specs.declared.slot.Named.{Named}
use Rattle.cell_errors.specs.Answers.{Answer, and_then}
use Rattle.sql_parse.specs.declared.select.Select.{Select}
use Rattle.sql_meaning.specs.Select.{select_meaning, select_names}
use Rattle.text_answers.specs.Answers.{select_of}

-- what a SELECT gives, under this name
abbrev pub select_writes : ℕ → List Pick → List ℕ → Select → (List ℕ → Slot) → Answer (List Named)
select_writes id picks into select look =
    and_then (select_meaning look select picks id) (λ slot. Ok (record { name = into; slot = slot } ∷ []))

-- what the SELECT of a text gives, under this name, in the cell with an id
abbrev pub text_writes : ℕ → List Pick → List ℕ → Answer Select → (List ℕ → Slot) → Answer (List Named)
text_writes id picks into text look = and_then text (λ select. select_writes id picks into select look)

-- the names that it reads; a text that is no SELECT reads none
abbrev pub text_names : Answer Select → (List ℕ → Slot) → List (List ℕ)
text_names (Ok select) look = select_names look select
text_names (Err e) look = []

-- what the SELECT cell of a text, with an id, gives under this name
abbrev pub sql_writes : ℕ → List Pick → List ℕ → List ℕ → (List ℕ → Slot) → Answer (List Named)
sql_writes id picks text into look = text_writes id picks into (select_of text) look

-- the names that the SELECT cell of a text reads
abbrev pub sql_names : List ℕ → (List ℕ → Slot) → List (List ℕ)
sql_names text look = text_names (select_of text) look
