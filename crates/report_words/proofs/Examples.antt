-- Worked reports of streams, from the bytes of their lines on.
use Rattle.std.proofs.Common.{◌≡◌, ◌++◌, ◌∷◌, [], ℕ, List, refl, ap, ◌∙◌, codes, Option, Some, None, pos, Bool, true, false, ◌<◌, arith}
use Rattle.std.specs.Fmt.{digits}
use Rattle.std.specs.Str.{chars, IsAscii}
use Rattle.std.specs.List.{list_all}
use Rattle.std.specs.Prelude.{nat_lt, nat_le, length, if◌then◌else◌, ok_or}
use Rattle.std.proofs.lemmas.Bool.{and_parts}
use Rattle.std.proofs.lemmas.Bool.Decides.{nat_tests}
use Rattle.std.proofs.lemmas.Str.{IsUtf8-from_ascii, is_utf8-from_IsUtf8}
use Rattle.std.proofs.lemmas.Str.Ascii.{IsAscii-nil, IsAscii-cons}
use lib.Utf8.{encode}
use Rattle.json.specs.Json.{value, items, members}
use Rattle.json.specs.Lex.{lex, punctuate}
use Rattle.json.specs.Text.{content}
use Rattle.json.specs.Word.{word, after_number}
use Rattle.serde_json.specs.Data.{Data, null, number, string, array, object, unsigned, no_items, item, no_members, member}
use Rattle.serde_json.specs.Read.{read, number_of}
use Rattle.fast_float.specs.Text.{scan}
use Rattle.json_glance.specs.Line.{json_of}
use Rattle.value_types.specs.declared.value.ColumnType.TheVariants as kind
use Rattle.value_types.specs.declared.value.Value.TheVariants.{Null, Int, Text}
use Rattle.value_types.specs.declared.row_id.RowId.TheVariants.{Rec}
use Rattle.value_types.proofs.IdTexts.{id-Rec}
use Rattle.value_types.proofs.Weights.{parts-Rec}
use Rattle.dataset_types.specs.Tables.{TableData}
use Rattle.cell_model.specs.declared.cell.CellKind.TheVariants as does
use Rattle.cell_model.specs.declared.refusal.EditRefusal.TheVariants as refusal
use Rattle.cell_kinds.specs.Kinds.{kind_meaning}
use Rattle.edit_wire.specs.declared.edit.Edit.{Edit}
use Rattle.edit_wire.specs.declared.edit.EditCell.TheVariants as cell
use Rattle.edit_wire.specs.declared.edit.EditKind.TheVariants as edit
use Rattle.edit_wire.specs.Make.{make_of, certain}
use Rattle.edit_wire.specs.Wire.{edit_in, edit_or, edit_on}
use Rattle.version_tree.specs.Notebook.{start}
use Rattle.version_tree.specs.declared.told.Told.{Told}
use Rattle.version_tree.specs.declared.told.Told.TheVariants as told
use Rattle.report_words.specs.Reports.{said, said_by, report_of, report_from, text_said, after_said}
use Rattle.report_words.specs.declared.said.Said.{Said}
use Rattle.report_words.specs.declared.said.Said.TheVariants.{Nothing, Refuses, Edits}

-- ---- JSON of ASCII

abbrev is_ascii : ℕ → Bool
is_ascii b = nat_lt b 128

ascii : (bytes : List ℕ) → list_all is_ascii bytes ≡ true → IsAscii bytes
ascii [] h = IsAscii-nil
ascii (b ∷ bs) h =
    let parts = and_parts (is_ascii b) (list_all is_ascii bs) h in
    let small : b < 128 = grind (arith, nat_tests, parts.0) in
    IsAscii-cons b bs small (ascii bs parts.1)

-- a line of ASCII is JSON where `read` reads it
as_json : (bytes : List ℕ) → list_all is_ascii bytes ≡ true → json_of bytes ≡ read bytes
unfolding json_of
as_json bytes h = ap (λ (utf8 : Bool). if utf8 then read bytes else None) (is_utf8-from_IsUtf8 bytes (IsUtf8-from_ascii bytes (ascii bytes h)))

-- ---- an append of a make cell

-- the line of examples/a_version_with_its_dataset
abbrev pub line : List ℕ
line = codes "{\"edit\":\"append\",\"branch\":\"main\",\"cell\":{\"make\":\"t\",\"columns\":[[\"a\",\"int\"],[\"b\",\"text\"]],\"rows\":[[1,\"x\"],[2,null]]}}"

-- the JSON value that it is, the members in the order of their names
abbrev value_read : Data
value_read = object (member (codes "branch") (string (codes "main")) (member (codes "cell") (object (
    member (codes "columns") (array (item (array (item (string (codes "a")) (item (string (codes "int")) no_items))) (item (array (item (string (codes "b")) (item (string (codes "text")) no_items))) no_items)))
    (member (codes "make") (string (codes "t"))
    (member (codes "rows") (array (item (array (item (number (unsigned 1)) (item (string (codes "x")) no_items))) (item (array (item (number (unsigned 2)) (item null no_items))) no_items))) no_members))))
    (member (codes "edit") (string (codes "append")) no_members)))

its_value : read line ≡ Some value_read
unfolding value items members lex punctuate content word after_number number_of scan
its_value = refl

abbrev table : TableData
table = record {
  columns = record { name = codes "a"; kind = kind.Int } ∷ record { name = codes "b"; kind = kind.Text } ∷ [];
  rows = record { id = Rec 1; sure = true; values = certain (Int (pos 1)) ∷ certain (Text (codes "x")) ∷ [] }
      ∷ record { id = Rec 2; sure = true; values = certain (Int (pos 2)) ∷ certain Null ∷ [] }
      ∷ [];
  is_open = false;
  is_loose = false;
}

-- the edit of this value
abbrev pub appended : Edit
appended = edit_on (codes "main") (edit.Append (cell.Other (does.Make (codes "t") table)))

its_edit : edit_in value_read ≡ Some appended
unfolding edit_in make_of digits chars encode
its_edit = simp (id-Rec, parts-Rec)

pub it_says : said line ≡ Edits appended
unfolding said
it_says =
    ap (λ (d : Option Data). said_by (edit_or d)) (as_json line refl ∙ its_value)
    ∙ ap (λ (e : Option Edit). said_by (ok_or e refusal.BadEdit)) its_edit

-- ---- other lines

-- a blank line says nothing
blank : said (codes " ") ≡ Nothing
unfolding said
blank = refl

no_value : read (codes "{") ≡ None
unfolding value items members lex punctuate content word
no_value = refl

no_edit : edit_in (object no_members) ≡ None
unfolding edit_in
no_edit = refl

empty_value : read (codes "{}") ≡ Some (object no_members)
unfolding value items members lex punctuate content word
empty_value = refl

-- no JSON
pub no_json_is_refused : said (codes "{") ≡ Refuses refusal.BadJson
unfolding said
no_json_is_refused = ap (λ (d : Option Data). said_by (edit_or d)) (as_json (codes "{") refl ∙ no_value)

-- JSON that is no edit
pub no_edit_is_refused : said (codes "{}") ≡ Refuses refusal.BadEdit
unfolding said
no_edit_is_refused =
    ap (λ (d : Option Data). said_by (edit_or d)) (as_json (codes "{}") refl ∙ empty_value)
    ∙ ap (λ (e : Option Edit). said_by (ok_or e refusal.BadEdit)) no_edit

-- a line of more than 65,536 bytes, whatever they are
long_is_refused : (bytes : List ℕ) → nat_le (length bytes) 65536 ≡ false → said bytes ≡ Refuses refusal.LineTooLong
unfolding said
long_is_refused bytes h = simp h

-- ---- reports

abbrev pub alone : List ℕ → List ℕ × Told
alone bytes = (bytes, told.NotAsked)

-- the block of the version that the line makes, and a refusal with its number among all lines, the blank one too
whole :
    report_of [] (alone line ∷ alone (codes " ") ∷ alone (codes "{}") ∷ [])
    ≡ codes "version 1 main\n"
    ++ codes "cell 1 #1 ok\n"
    ++ codes "dataset t\n"
    ++ codes "  columns a int, b text\n"
    ++ codes "  #1: 1, \"x\"\n"
    ++ codes "  #2: 2, null\n"
    ++ codes "end 1\n"
    ++ codes "line 3 refused E2 BadEdit\n"
unfolding kind_meaning digits chars encode
whole =
    ap (λ (s : Said). text_said (start []) 1 s told.NotAsked
    ++ report_from (after_said (start []) s told.NotAsked) 2 (alone (codes " ") ∷ alone (codes "{}") ∷ [])) it_says
    ∙ simp (id-Rec, blank, no_edit_is_refused)
