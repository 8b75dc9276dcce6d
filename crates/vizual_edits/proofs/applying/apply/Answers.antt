use Rattle.std.proofs.Common.{inl, inr}
use Rattle.vizual_edits.proofs.applying.apply.Goals as goal

pub returns-in-Formula-clause-works : goal.returns-in-Formula-clause-works
returns-in-Formula-clause-works g c = rw c.in-Formula.is c.apply_formula.ensures.works

pub returns-in-DropDataset-clause-works : goal.returns-in-DropDataset-clause-works
returns-in-DropDataset-clause-works g c = rw c.in-DropDataset.is c.drop_dataset.ensures.works

pub returns-in-InsertColumn-clause-works : goal.returns-in-InsertColumn-clause-works
returns-in-InsertColumn-clause-works g c =
    elim c.in-InsertColumn.is [
      | inl w ↦ rw w.3 (rw w.3 at c.edit_dataset.ensures.works)
      | inr a0 ↦ elim a0 [
        | inl w ↦ rw w.1 (rw w.1 at c.edit_dataset.ensures.works)
        | inr a1 ↦ elim a1 [
          | inl w ↦ rw w.2 (rw w.2 at c.edit_dataset.ensures.works)
          | inr a2 ↦ elim a2 [
            | inl w ↦ rw w.2 (rw w.2 at c.edit_dataset.ensures.works)
            | inr a3 ↦ elim a3 [
              | inl w ↦ rw w.1 (rw w.1 at c.edit_dataset.ensures.works)
              | inr a4 ↦ elim a4 [
                | inl w ↦ rw w.2 (rw w.2 at c.edit_dataset.ensures.works)
                | inr a5 ↦ elim a5 [
                  | inl w ↦ rw w.1 (rw w.1 at c.edit_dataset.ensures.works)
                  | inr a6 ↦ elim a6 [
                    | inl w ↦ rw w.2 (rw w.2 at c.edit_dataset.ensures.works)
                    | inr a7 ↦ elim a7 [
                      | inl w ↦ rw w.3 (rw w.3 at c.edit_dataset.ensures.works)
                      | inr a8 ↦ rw a8.1 (rw a8.1 at c.edit_dataset.ensures.works)
                    ]
                  ]
                ]
              ]
            ]
          ]
        ]
      ]
    ]
