-- A value whose field `edit` is none of the words is no edit.
use Rattle.std.proofs.Common.{◌≡◌, ℕ, List, Bool, true, false, ◌||◌, if◌then◌else◌, codes, bytes_eq, Option, Some, None, option_map, option_and_then, ok_or, Err, true≢false, refl, ap, ◌∙◌}
use Rattle.serde_json.specs.Data.{Data}
use Rattle.serde_json.specs.Find.{as_str}
use Rattle.json_glance.specs.Line.{told, glance_at}
use Rattle.json_glance.specs.declared.look.Glance.TheVariants.{NotJson, NoText, Text}
use Rattle.cell_model.specs.declared.refusal.EditRefusal.TheVariants as refusal
use Rattle.edit_wire.specs.declared.edit.EditKind.{EditKind}
use Rattle.json_fields.specs.Json.{field}
use Rattle.json_fields.specs.Values.{name_in}
use Rattle.edit_wire.specs.EditWords.{is_edit_word}
use Rattle.edit_wire.specs.Wire.{append_of, insert_of, update_of, delete_of, branch_of, kind_named, kind_of, edit_on, edit_in, edit_or}

abbrev word_of : Data → Option (List ℕ)
word_of d = field as_str (codes "edit") d

-- ---- what was told of a field

told_none : (o : Option (List ℕ)) → NoText ≡ told o → o ≡ None
told_none None e = refl
told_none (Some w) e = absurd (cc)

told_word : (o : Option (List ℕ)) (w : List ℕ) → Text w ≡ told o → o ≡ Some w
told_word None w e = absurd (cc)
told_word (Some v) w e = cc

told_something : (o : Option (List ℕ)) → NotJson ≡ told o → ⊥
told_something None e = cc
told_something (Some w) e = cc

-- ---- what no word asks for

no_kind_named : (a b c d e : Bool) (v w x y z : Option EditKind) → (a || (b || (c || (d || e)))) ≡ false
    → (if a then v else (if b then w else (if c then x else (if d then y else (if e then z else None))))) ≡ None
no_kind_named true b c d e v w x y z h = absurd (true≢false h)
no_kind_named false true c d e v w x y z h = absurd (true≢false h)
no_kind_named false false true d e v w x y z h = absurd (true≢false h)
no_kind_named false false false true e v w x y z h = absurd (true≢false h)
no_kind_named false false false false true v w x y z h = absurd (true≢false h)
no_kind_named false false false false false v w x y z h = refl

other_kind : (word : List ℕ) (d : Data) → is_edit_word word ≡ false → kind_named word d ≡ None
other_kind word d h =
    no_kind_named (bytes_eq word (codes "append")) (bytes_eq word (codes "insert")) (bytes_eq word (codes "update")) (bytes_eq word (codes "delete")) (bytes_eq word (codes "branch"))
    (append_of d) (insert_of d) (update_of d) (delete_of d) (branch_of d) h

no_edit_on : (branch : Option (List ℕ)) (kind : Option EditKind) → kind ≡ None → option_and_then (λ b. option_map (edit_on b) kind) branch ≡ None
no_edit_on None kind e = refl
no_edit_on (Some b) kind e = ap (option_map (edit_on b)) e

no_edit : (d : Data) → kind_of d ≡ None → edit_or (Some d) ≡ Err refusal.BadEdit
unfolding edit_in
no_edit d e = ap (λ o. ok_or o refusal.BadEdit) (no_edit_on (field name_in (codes "branch") d) (kind_of d) e)

-- ---- the answers

pub no_json : (o : Option Data) → NotJson ≡ glance_at (codes "edit") o → edit_or o ≡ Err refusal.BadJson
no_json None e = refl
no_json (Some d) e = absurd (told_something (word_of d) e)

pub no_text : (o : Option Data) → NoText ≡ glance_at (codes "edit") o → edit_or o ≡ Err refusal.BadEdit
no_text None e = absurd (cc)
no_text (Some d) e = no_edit d (ap (option_and_then (λ word. kind_named word d)) (told_none (word_of d) e))

pub no_word : (o : Option Data) (word : List ℕ) → Text word ≡ glance_at (codes "edit") o → is_edit_word word ≡ false → edit_or o ≡ Err refusal.BadEdit
no_word None word e h = absurd (cc)
no_word (Some d) word e h = no_edit d (ap (option_and_then (λ w. kind_named w d)) (told_word (word_of d) word e) ∙ other_kind word d h)
