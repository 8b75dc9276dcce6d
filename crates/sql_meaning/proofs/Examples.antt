-- Worked examples: what is read, and what is made of it.
use Rattle.std.proofs.Common.{◌≡◌, refl, true, false, Some, None, Ok, Err, List, [], ◌∷◌, ℕ}
use Rattle.std.specs.Prelude.{codes, if◌then◌else◌}
use Rattle.std.specs.Str.{bytes_eq}
use Rattle.dataset_types.specs.Tables.{TableData}
use Rattle.dataset_types.specs.declared.slot.Slot.{Slot}
use Rattle.cell_errors.specs.declared.fault.CellError.TheVariants as error
use Rattle.relations.specs.Rels.{rel_of}
use Rattle.rel_join.specs.declared.kind.Kind.TheVariants.{Outer}
use Rattle.sql_meaning.specs.Steps.{kind_of, table_of, all_united}
use Rattle.sql_meaning.specs.Inputs.{inputs_in, names_read, any_doubt}
use Rattle.sql_meaning.specs.Select.{marked_steps}

-- no columns and no rows
abbrev empty : TableData
empty = record { columns = []; rows = []; is_open = false; is_loose = false }

-- `a` is there, `d` is there in doubt, and no other name is
abbrev look : List ℕ → Slot
look name =
    if bytes_eq name (codes "a") then record { table = Some empty; doubt = false }
    else (if bytes_eq name (codes "d") then record { table = Some empty; doubt = true } else record { table = None; doubt = false })

-- ---- what is read

both_are_there : inputs_in look (codes "a" ∷ codes "d" ∷ []) ≡
    Ok (record { name = codes "a"; table = empty; doubt = false } ∷ record { name = codes "d"; table = empty; doubt = true } ∷ [])
both_are_there = refl

both_are_read : names_read look (codes "a" ∷ codes "d" ∷ []) ≡ codes "a" ∷ codes "d" ∷ []
both_are_read = refl

-- nothing is read after a name that is absent
none_is_absent : inputs_in look (codes "none" ∷ codes "a" ∷ []) ≡ Err error.NoDataset
none_is_absent = refl

none_is_the_last : names_read look (codes "a" ∷ codes "none" ∷ codes "d" ∷ []) ≡ codes "a" ∷ codes "none" ∷ []
none_is_the_last = refl

one_is_in_doubt : any_doubt (record { name = codes "a"; table = empty; doubt = false } ∷ record { name = codes "d"; table = empty; doubt = true } ∷ []) ≡ true
one_is_in_doubt = refl

-- ---- the steps

left_is_outer : kind_of true ≡ Outer
left_is_outer = refl

-- the first table of a name counts
first_counts : table_of ((codes "a", empty) ∷ (codes "b", empty) ∷ []) (codes "b") ≡ Some empty
first_counts = refl

no_sides : all_united (marked_steps [] 1) [] ≡ Ok (rel_of [] [] false false)
no_sides = refl
