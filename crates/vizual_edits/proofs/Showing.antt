-- What is shown of what a command writes.
use Rattle.std.proofs.Common.{◌≡◌, ℕ, Bool, true, false, Option, Some, None, IfSome, Ok, Err, List, [], ◌∷◌, map, refl, subst, ap, ◌∙◌, sym}
use Rattle.std.specs.Prelude.{if◌then◌else◌, is_some}
use Rattle.cell_errors.specs.Answers.{Answer, and_then}
use Rattle.cell_errors.specs.declared.fault.CellError.TheVariants as error
use Rattle.dataset_types.specs.declared.picks.Pick.{Pick}
use Rattle.dataset_types.specs.declared.slot.Slot.{Slot}
use Rattle.dataset_types.specs.declared.slot.Named.{Named}
use Rattle.dataset_types.specs.Tables.{TableData, IsTable}
use Rattle.caveat_marks.specs.Shown.{ShownTable, ShownSlot, Doubtful, Nothing, Table, shown, shown_slot}
use Rattle.relations.proofs.Gathered.{then_ok, the_same}
use Rattle.expr_lang.specs.declared.expr.Expr.{Expr}
use Rattle.sheet_commands.specs.declared.command.Command.{Command}
use Rattle.sheet_commands.specs.declared.command.Command.TheVariants as command
use Rattle.column_edits.specs.Plans.{insertion, deletion, renaming, moving, keeping}
use Rattle.column_edits.specs.Formula.{formula}
use Rattle.column_edits.proofs.ChangeLaws.{change_keeps_shown}
use Rattle.column_edits.proofs.FormulaLaws.{formula_keeps_shown}
use Rattle.row_edits.proofs.InsertLaws.{insert_keeps}
use Rattle.row_edits.proofs.DeleteLaws.{delete_keeps}
use Rattle.row_edits.proofs.MoveLaws.{move_keeps}
use Rattle.row_edits.proofs.SetLaws.{set_keeps}
use Rattle.row_edits.proofs.SortLaws.{sort_keeps}
use Rattle.text_answers.specs.Answers.{expr_of}
use Rattle.vizual_edits.specs.declared.reading.There.{There}
use Rattle.vizual_edits.specs.Commands.{found, there, filled, gone, edited, there_alone}
use Rattle.vizual_edits.specs.Laws.{shown_write, AreTables, ShowTheSame, KeepsShown}

-- a dataset that was read, as a slot
abbrev slot_of : There → Slot
slot_of s = record { table = Some s.table; doubt = s.doubt }

-- the slot that was read
read_is : (slot : Slot) (s : There) → there slot ≡ Ok s → slot ≡ slot_of s
read_is slot s e = λ i. record { table = at slot.table e i; doubt = doubts slot.table e i }
  where
    at : (o : Option TableData) → and_then (found o) (λ t. Ok (record { table = t; doubt = slot.doubt })) ≡ Ok s → o ≡ Some s.table
    at None k = cc
    at (Some t) k = ap (λ z. Some z) (ap (λ (x : There). x.table) (the_same (record { table = t; doubt = slot.doubt }) s k))

    doubts : (o : Option TableData) → and_then (found o) (λ t. Ok (record { table = t; doubt = slot.doubt })) ≡ Ok s → slot.doubt ≡ s.doubt
    doubts None k = cc
    doubts (Some t) k = ap (λ (x : There). x.doubt) (the_same (record { table = t; doubt = slot.doubt }) s k)

abbrev tables : ShownSlot → Option ShownTable
tables Doubtful = None
tables Nothing = None
tables (Table t) = Some t

same_table : (a b : ShownTable) → Some a ≡ Some b → a ≡ b
same_table a b e = cc

-- slots that show the same, with other datasets that show the same where those do
refilled : (a b x y : TableData) (c d : Bool) → shown_slot (record { table = Some a; doubt = c }) ≡ shown_slot (record { table = Some b; doubt = d }) → (shown a ≡ shown b → shown x ≡ shown y) →
    shown_slot (record { table = Some x; doubt = c }) ≡ shown_slot (record { table = Some y; doubt = d })
refilled a b x y true true e along = refl
refilled a b x y true false e along = let no : None ≡ Some (shown b) = ap tables e in cc
refilled a b x y false true e along = let no : Some (shown a) ≡ None = ap tables e in cc
refilled a b x y false false e along = ap Table (along (same_table (shown a) (shown b) (ap tables e)))

module _ (look other : List ℕ → Slot) (fine : AreTables look) (good : AreTables other) (same : ShowTheSame look other) where
  is_table : (f : List ℕ → Slot) → AreTables f → (name : List ℕ) (s : There) → there (f name) ≡ Ok s → IsTable s.table
  is_table f all name s e = subst (λ (z : Slot). IfSome z.table IsTable) (read_is (f name) s e) (all name)

  read_same : (name : List ℕ) (s t : There) → there (look name) ≡ Ok s → there (other name) ≡ Ok t → shown_slot (slot_of s) ≡ shown_slot (slot_of t)
  read_same name s t e k = ap shown_slot (sym (read_is (look name) s e)) ∙ (same name ∙ ap shown_slot (read_is (other name) t k))

  edited_shown : (name : List ℕ) (change turn : TableData → Answer TableData) →
      ((a b x y : TableData) → IsTable a → IsTable b → shown a ≡ shown b → change a ≡ Ok x → turn b ≡ Ok y → shown x ≡ shown y) →
      (a b : List Named) → edited name change look ≡ Ok a → edited name turn other ≡ Ok b → map shown_write a ≡ map shown_write b
  edited_shown name change turn along a b e k =
      let p = then_ok (there (look name)) (λ s. and_then (change s.table) (λ t. Ok (filled name t s.doubt ∷ []))) a e in
      let q = then_ok (there (other name)) (λ s. and_then (turn s.table) (λ t. Ok (filled name t s.doubt ∷ []))) b k in
      let x = then_ok (change p.0.table) (λ t. Ok (filled name t p.0.doubt ∷ [])) a p.2 in
      let y = then_ok (turn q.0.table) (λ t. Ok (filled name t q.0.doubt ∷ [])) b q.2 in
      ap (map shown_write) (sym (the_same (filled name x.0 p.0.doubt ∷ []) a x.2))
      ∙ (ap (λ s. (name, s) ∷ []) (refilled p.0.table q.0.table x.0 y.0 p.0.doubt q.0.doubt (read_same name p.0 q.0 p.1 q.1)
      (λ h. along p.0.table q.0.table x.0 y.0 (is_table look fine name p.0 p.1) (is_table other good name q.0 q.1) h x.1 y.1))
      ∙ ap (map shown_write) (the_same (filled name y.0 q.0.doubt ∷ []) b y.2))

  alone_ok : (f : List ℕ → Slot) (name to : List ℕ) (s : There) → there_alone name to f ≡ Ok s → there (f name) ≡ Ok s
  alone_ok f name to s e =
      let p = then_ok (there (f name)) (λ t. if is_some (f to).table then Err error.NameTaken else Ok t) s e in
      p.1 ∙ ap (λ z. Ok z) (free (is_some (f to).table) p.0 p.2)
    where
      free : (b : Bool) (t : There) → (if b then Err error.NameTaken else Ok t) ≡ Ok s → t ≡ s
      free true t k = cc
      free false t k = the_same t s k

  alone_shown : (name to : List ℕ) (writes : There → List Named) →
      ((s t : There) → shown_slot (slot_of s) ≡ shown_slot (slot_of t) → map shown_write (writes s) ≡ map shown_write (writes t)) →
      (a b : List Named) → and_then (there_alone name to look) (λ s. Ok (writes s)) ≡ Ok a → and_then (there_alone name to other) (λ s. Ok (writes s)) ≡ Ok b →
      map shown_write a ≡ map shown_write b
  alone_shown name to writes along a b e k =
      let p = then_ok (there_alone name to look) (λ s. Ok (writes s)) a e in
      let q = then_ok (there_alone name to other) (λ s. Ok (writes s)) b k in
      ap (map shown_write) (sym (the_same (writes p.0) a p.2))
      ∙ (along p.0 q.0 (read_same name p.0 q.0 (alone_ok look name to p.0 p.1) (alone_ok other name to q.0 q.1)) ∙ ap (map shown_write) (the_same (writes q.0) b q.2))

  gone_shown : (name : List ℕ) (a b : List Named) → and_then (there (look name)) (λ s. Ok (gone name ∷ [])) ≡ Ok a → and_then (there (other name)) (λ s. Ok (gone name ∷ [])) ≡ Ok b →
      map shown_write a ≡ map shown_write b
  gone_shown name a b e k =
      let p = then_ok (there (look name)) (λ s. Ok (gone name ∷ [])) a e in
      let q = then_ok (there (other name)) (λ s. Ok (gone name ∷ [])) b k in
      ap (map shown_write) (sym (the_same (gone name ∷ []) a p.2) ∙ the_same (gone name ∷ []) b q.2)

pub applied_keeps : (c : Command) (cell : ℕ) (picks others : List Pick) → KeepsShown c cell picks others
applied_keeps (command.InsertColumn d name k at) cell picks others look other a b fine good same =
    edited_shown look other fine good same d _ _ (λ s t x y _ _. change_keeps_shown (insertion name k at) s t x y) a b
applied_keeps (command.DeleteColumn d name) cell picks others look other a b fine good same =
    edited_shown look other fine good same d _ _ (λ s t x y _ _. change_keeps_shown (deletion name) s t x y) a b
applied_keeps (command.RenameColumn d name to) cell picks others look other a b fine good same =
    edited_shown look other fine good same d _ _ (λ s t x y _ _. change_keeps_shown (renaming name to) s t x y) a b
applied_keeps (command.MoveColumn d name at) cell picks others look other a b fine good same =
    edited_shown look other fine good same d _ _ (λ s t x y _ _. change_keeps_shown (moving name at) s t x y) a b
applied_keeps (command.KeepColumns d names) cell picks others look other a b fine good same =
    edited_shown look other fine good same d _ _ (λ s t x y _ _. change_keeps_shown (keeping names) s t x y) a b
applied_keeps (command.InsertRow d row place) cell picks others look other a b fine good same =
    edited_shown look other fine good same d _ _ (insert_keeps row place) a b
applied_keeps (command.DeleteRow d row) cell picks others look other a b fine good same =
    edited_shown look other fine good same d _ _ (delete_keeps row) a b
applied_keeps (command.MoveRow d row place) cell picks others look other a b fine good same =
    edited_shown look other fine good same d _ _ (move_keeps row place) a b
applied_keeps (command.SetValue d row column v) cell picks others look other a b fine good same =
    edited_shown look other fine good same d _ _ (set_keeps row column v) a b
applied_keeps (command.Formula d column words) cell picks others look other a b fine good same = at (expr_of words)
  where
    at : (text : Answer Expr) → and_then text (λ e. edited d (formula column e picks cell) look) ≡ Ok a → and_then text (λ e. edited d (formula column e others cell) other) ≡ Ok b →
        map shown_write a ≡ map shown_write b
    at (Ok e) = edited_shown look other fine good same d (formula column e picks cell) (formula column e others cell) (λ s t x y _ _. formula_keeps_shown column e picks others cell s t x y) a b
    at (Err e) = λ h k. cc
applied_keeps (command.Sort d by) cell picks others look other a b fine good same =
    edited_shown look other fine good same d _ _ (sort_keeps by) a b
applied_keeps (command.RenameDataset d to) cell picks others look other a b fine good same =
    alone_shown look other fine good same d to (λ s. filled to s.table s.doubt ∷ gone d ∷ []) (λ s t h. ap (λ z. (to, z) ∷ shown_write (gone d) ∷ []) h) a b
applied_keeps (command.CopyDataset d to) cell picks others look other a b fine good same =
    alone_shown look other fine good same d to (λ s. filled to s.table s.doubt ∷ []) (λ s t h. ap (λ z. (to, z) ∷ []) h) a b
applied_keeps (command.DropDataset d) cell picks others look other a b fine good same =
    gone_shown look other fine good same d a b
