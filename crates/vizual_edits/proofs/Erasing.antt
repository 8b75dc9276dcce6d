-- Dropping marks, doubt and flags of what a command writes.
use Rattle.std.proofs.Common.{◌≡◌, ℕ, Bool, Option, Some, None, Ok, Err, List, [], ◌∷◌, map, refl, ap, ◌∙◌}
use Rattle.std.specs.Prelude.{if◌then◌else◌, is_some, option_map}
use Rattle.std.specs.Result.{result_map_both}
use Rattle.cell_errors.specs.Answers.{Answer, and_then}
use Rattle.cell_errors.specs.declared.fault.CellError.TheVariants as error
use Rattle.dataset_types.specs.declared.picks.Pick.{Pick}
use Rattle.dataset_types.specs.declared.slot.Slot.{Slot}
use Rattle.dataset_types.specs.declared.slot.Named.{Named}
use Rattle.dataset_types.specs.Tables.{TableData}
use Rattle.dataset_types.specs.Plain.{PlainTable, PlainEnv, erased}
use Rattle.expr_lang.specs.declared.expr.Expr.{Expr}
use Rattle.sheet_commands.specs.declared.command.Command.{Command}
use Rattle.sheet_commands.specs.declared.command.Command.TheVariants as command
use Rattle.column_edits.specs.Plans.{insertion, deletion, renaming, moving, keeping}
use Rattle.column_edits.specs.Formula.{formula, plain_formula}
use Rattle.column_edits.proofs.ChangeLaws.{change_erases}
use Rattle.column_edits.proofs.FormulaLaws.{formula_erases}
use Rattle.row_edits.proofs.InsertLaws.{insert_erases}
use Rattle.row_edits.proofs.DeleteLaws.{delete_erases}
use Rattle.row_edits.proofs.MoveLaws.{move_erases}
use Rattle.row_edits.proofs.SetLaws.{set_erases}
use Rattle.row_edits.proofs.SortLaws.{sort_erases}
use Rattle.text_answers.specs.Answers.{expr_of}
use Rattle.vizual_edits.specs.declared.reading.There.{There}
use Rattle.vizual_edits.specs.Commands.{found, there, filled, gone, edited, there_alone}
use Rattle.vizual_edits.specs.Plain.{PlainNamed, plain_entry, erased_write, plain_edited, plain_alone}
use Rattle.vizual_edits.specs.Laws.{Erases}

abbrev plain_look : (List ℕ → Slot) → PlainEnv
plain_look look name = option_map erased (look name).table

abbrev bare : Answer (List Named) → Answer (List PlainNamed)
bare a = result_map_both (map erased_write) (λ e. e) a

-- a change that erases
edited_erased : (name : List ℕ) (change : TableData → Answer TableData) (plain : PlainTable → Answer PlainTable)
    (along : (t : TableData) → result_map_both erased (λ e. e) (change t) ≡ plain (erased t)) (look : List ℕ → Slot) →
    bare (edited name change look) ≡ plain_edited name plain (plain_look look)
edited_erased name change plain along look = at (look name).table
  where
    given : (a : Answer TableData) (d : Bool) →
        bare (and_then a (λ t. Ok (filled name t d ∷ []))) ≡ and_then (result_map_both erased (λ e. e) a) (λ t. Ok (plain_entry name (Some t) ∷ []))
    given (Ok t) d = refl
    given (Err e) d = refl

    at : (o : Option TableData) →
        bare (and_then (and_then (found o) (λ t. Ok (record { table = t; doubt = (look name).doubt }))) (λ (s : There). and_then (change s.table) (λ t. Ok (filled name t s.doubt ∷ []))))
        ≡ and_then (found (option_map erased o)) (λ t. and_then (plain t) (λ u. Ok (plain_entry name (Some u) ∷ [])))
    at None = refl
    at (Some t) = given (change t) (look name).doubt ∙ ap (λ a. and_then a (λ u. Ok (plain_entry name (Some u) ∷ []))) (along t)

-- writes of a dataset that is there alone
alone_erased : (name to : List ℕ) (writes : There → List Named) (plain : PlainTable → List PlainNamed) (look : List ℕ → Slot) →
    ((s : There) → map erased_write (writes s) ≡ plain (erased s.table)) →
    bare (and_then (there_alone name to look) (λ s. Ok (writes s))) ≡ and_then (plain_alone name to (plain_look look)) (λ t. Ok (plain t))
alone_erased name to writes plain look along = at (look name).table (look to).table
  where
    at : (o p : Option TableData) →
        bare (and_then (and_then (and_then (found o) (λ t. Ok (record { table = t; doubt = (look name).doubt }))) (λ (s : There). if is_some p then Err error.NameTaken else Ok s)) (λ s. Ok (writes s)))
        ≡ and_then (and_then (found (option_map erased o)) (λ t. if is_some (option_map erased p) then Err error.NameTaken else Ok t)) (λ t. Ok (plain t))
    at None p = refl
    at (Some t) None = ap (λ z. Ok z) (along (record { table = t; doubt = (look name).doubt }))
    at (Some t) (Some u) = refl

-- writes that don't tell of the dataset
gone_erased : (name : List ℕ) (look : List ℕ → Slot) →
    bare (and_then (there (look name)) (λ s. Ok (gone name ∷ []))) ≡ and_then (found (plain_look look name)) (λ t. Ok (plain_entry name None ∷ []))
gone_erased name look = at (look name).table
  where
    at : (o : Option TableData) →
        bare (and_then (and_then (found o) (λ t. Ok (record { table = t; doubt = (look name).doubt }))) (λ (s : There). Ok (gone name ∷ [])))
        ≡ and_then (found (option_map erased o)) (λ t. Ok (plain_entry name None ∷ []))
    at None = refl
    at (Some t) = refl

pub applied_erases : (c : Command) (cell : ℕ) (picks : List Pick) → Erases c cell picks
applied_erases (command.InsertColumn d name k at) cell picks look = edited_erased d _ _ (change_erases (insertion name k at)) look
applied_erases (command.DeleteColumn d name) cell picks look = edited_erased d _ _ (change_erases (deletion name)) look
applied_erases (command.RenameColumn d name to) cell picks look = edited_erased d _ _ (change_erases (renaming name to)) look
applied_erases (command.MoveColumn d name at) cell picks look = edited_erased d _ _ (change_erases (moving name at)) look
applied_erases (command.KeepColumns d names) cell picks look = edited_erased d _ _ (change_erases (keeping names)) look
applied_erases (command.InsertRow d row place) cell picks look = edited_erased d _ _ (insert_erases row place) look
applied_erases (command.DeleteRow d row) cell picks look = edited_erased d _ _ (delete_erases row) look
applied_erases (command.MoveRow d row place) cell picks look = edited_erased d _ _ (move_erases row place) look
applied_erases (command.SetValue d row column v) cell picks look = edited_erased d _ _ (set_erases row column v) look
applied_erases (command.Formula d column words) cell picks look = at (expr_of words)
  where
    at : (text : Answer Expr) → bare (and_then text (λ e. edited d (formula column e picks cell) look)) ≡ and_then text (λ e. plain_edited d (plain_formula column e picks cell) (plain_look look))
    at (Ok e) = edited_erased d (formula column e picks cell) (plain_formula column e picks cell) (formula_erases column e picks cell) look
    at (Err e) = refl
applied_erases (command.Sort d by) cell picks look = edited_erased d _ _ (sort_erases by) look
applied_erases (command.RenameDataset d to) cell picks look =
    alone_erased d to (λ s. filled to s.table s.doubt ∷ gone d ∷ []) (λ t. plain_entry to (Some t) ∷ plain_entry d None ∷ []) look (λ s. refl)
applied_erases (command.CopyDataset d to) cell picks look =
    alone_erased d to (λ s. filled to s.table s.doubt ∷ []) (λ t. plain_entry to (Some t) ∷ []) look (λ s. refl)
applied_erases (command.DropDataset d) cell picks look = gone_erased d look
