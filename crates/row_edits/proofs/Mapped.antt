-- Rows that are read otherwise, with the same ids: what the commands make of them is what they make of the rows, read otherwise.
use Rattle.std.proofs.Common.{◌≡◌, ℕ, suc, Bool, true, false, not, ◌&&◌, ◌||◌, Ok, Err, List, [], ◌∷◌, length, map, refl, ap, ◌∙◌, sym}
use Rattle.std.specs.Prelude.{if◌then◌else◌, ◌==◌, Option, Some, None}
use Rattle.std.specs.Result.{result_map_both}
use Rattle.std.proofs.lemmas.List.{length-map}
use Rattle.value_types.specs.SameIds.{same_id}
use Rattle.value_types.specs.declared.row_id.RowId.{RowId}
use Rattle.cell_errors.specs.declared.fault.CellError.TheVariants as error
use Rattle.row_edits.specs.ByText.{is_text, put_in, only, without, is_there, is_place, is_taken, up_to, place_of, after, changed_at}
use Rattle.row_edits.specs.Rows.{is_itself, inserted, deleted, put, moved}
use Rattle.row_edits.proofs.PutIn.{map_put, filter_map}

module _ {R S : Type 0} (id_r : R → RowId) (id_s : S → RowId) (f : R → S) (same : (r : R) → id_s (f r) ≡ id_r r) where
  pub only_map : (text : List ℕ) (rows : List R) → only id_s text (map f rows) ≡ map f (only id_r text rows)
  only_map text rows = filter_map (λ r. is_text text (id_r r)) (λ r. is_text text (id_s r)) f (λ r. ap (is_text text) (same r)) rows

  pub without_map : (text : List ℕ) (rows : List R) → without id_s text (map f rows) ≡ map f (without id_r text rows)
  without_map text rows = filter_map (λ r. not (is_text text (id_r r))) (λ r. not (is_text text (id_s r))) f (λ r. ap (λ i. not (is_text text i)) (same r)) rows

  pub there_map : (text : List ℕ) (rows : List R) → is_there id_s text (map f rows) ≡ is_there id_r text rows
  there_map text rows = ap (λ n. n == 1) (ap length (only_map text rows) ∙ length-map (only id_r text rows) f)

  pub is_place_map : (place : Option (List ℕ)) (rows : List R) → is_place id_s place (map f rows) ≡ is_place id_r place rows
  is_place_map None rows = refl
  is_place_map (Some text) rows = there_map text rows

  taken_map : (i : RowId) (rows : List R) → is_taken id_s i (map f rows) ≡ is_taken id_r i rows
  taken_map i [] = refl
  taken_map i (r ∷ rs) = ap (λ j. same_id j i || is_taken id_s i (map f rs)) (same r) ∙ ap (λ b. same_id (id_r r) i || b) (taken_map i rs)

  up_to_map : (text : List ℕ) (rows : List R) → up_to id_s text (map f rows) ≡ up_to id_r text rows
  up_to_map text [] = refl
  up_to_map text (r ∷ rs) =
      ap (λ i. if is_text text i then 1 else suc (up_to id_s text (map f rs))) (same r)
      ∙ ap (λ n. if is_text text (id_r r) then 1 else suc n) (up_to_map text rs)

  place_of_map : (place : Option (List ℕ)) (rows : List R) → place_of id_s place (map f rows) ≡ place_of id_r place rows
  place_of_map None rows = refl
  place_of_map (Some text) rows = up_to_map text rows

  pub after_map : (place : Option (List ℕ)) (more rows : List R) → after id_s place (map f more) (map f rows) ≡ map f (after id_r place more rows)
  after_map place more rows =
      ap (λ n. put_in n (map f more) (map f rows)) (place_of_map place rows) ∙ sym (map_put f (place_of id_r place rows) more rows)

  pub inserted_map : (new : R) (place : Option (List ℕ)) (rows : List R) →
      result_map_both (map f) (λ e. e) (inserted id_r new place rows) ≡ inserted id_s (f new) place (map f rows)
  inserted_map new place rows =
      rw (is_place_map place rows, same new, taken_map (id_r new) rows, after_map place (new ∷ []) rows)
      (on (is_place id_r place rows) (is_taken id_r (id_r new) rows))
    where
      on : (b c : Bool) →
          result_map_both (map f) (λ e. e) (if not b then Err error.NoRow else (if c then Err error.RowTaken else Ok (after id_r place (new ∷ []) rows)))
          ≡ (if not b then Err error.NoRow else (if c then Err error.RowTaken else Ok (map f (after id_r place (new ∷ []) rows))))
      on true true = refl
      on true false = refl
      on false c = refl

  pub deleted_map : (row : List ℕ) (rows : List R) → result_map_both (map f) (λ e. e) (deleted id_r row rows) ≡ deleted id_s row (map f rows)
  deleted_map row rows = rw (there_map row rows, without_map row rows) (on (is_there id_r row rows))
    where
      on : (b : Bool) → result_map_both (map f) (λ e. e) (if b then Ok (without id_r row rows) else Err error.NoRow) ≡ (if b then Ok (map f (without id_r row rows)) else Err error.NoRow)
      on true = refl
      on false = refl

  pub put_map : (row : List ℕ) (place : Option (List ℕ)) (rows : List R) → put id_s row place (map f rows) ≡ map f (put id_r row place rows)
  put_map row place rows = on (is_itself row place)
    where
      on : (b : Bool) → (if b then map f rows else after id_s place (only id_s row (map f rows)) (without id_s row (map f rows)))
          ≡ map f (if b then rows else after id_r place (only id_r row rows) (without id_r row rows))
      on true = refl
      on false = rw (only_map row rows, without_map row rows) (after_map place (only id_r row rows) (without id_r row rows))

  pub moved_map : (row : List ℕ) (place : Option (List ℕ)) (rows : List R) →
      result_map_both (map f) (λ e. e) (moved id_r row place rows) ≡ moved id_s row place (map f rows)
  moved_map row place rows =
      rw (there_map row rows, is_place_map place rows, put_map row place rows) (on (is_there id_r row rows && is_place id_r place rows))
    where
      on : (b : Bool) → result_map_both (map f) (λ e. e) (if b then Ok (put id_r row place rows) else Err error.NoRow) ≡ (if b then Ok (map f (put id_r row place rows)) else Err error.NoRow)
      on true = refl
      on false = refl

  -- a change that goes along
  module _ (change : R → R) (other : S → S) (along : (r : R) → other (f r) ≡ f (change r)) where
    pub changed_map : (row : List ℕ) (rows : List R) → changed_at id_s row other (map f rows) ≡ map f (changed_at id_r row change rows)
    changed_map row [] = refl
    changed_map row (r ∷ rs) = λ i. first i ∷ changed_map row rs i
      where
        first : (if is_text row (id_s (f r)) then other (f r) else f r) ≡ f (if is_text row (id_r r) then change r else r)
        first = rw (same r) (on (is_text row (id_r r)))
          where
            on : (b : Bool) → (if b then other (f r) else f r) ≡ f (if b then change r else r)
            on true = along r
            on false = refl
