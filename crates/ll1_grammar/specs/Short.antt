-- Short sentences that nest nothing, found by computing.
use Rattle.std.specs.Prelude.{◌≡◌, ℕ, zero, suc, Bool, true, false, not, ◌&&◌, List, [], ◌∷◌, ◌++◌, Option, Some, None}
use Rattle.ll1_grammar.specs.declared.item.Item.{Item}
use Rattle.ll1_grammar.specs.declared.item.Item.TheVariants.{Here, Inside, Do}
use Rattle.ll1_grammar.specs.Table.{Table, entry, nests}

-- go on with the other side, if there is one and nothing nests in it
abbrev pub if_flat : {R A : Type 0} → Option (List (Item R A)) → (List (Item R A) → Bool) → Bool
if_flat None go = false
if_flat (Some d) go = not (nests d) && go d

-- go on with the entry for the token, or else with the other side
abbrev pub if_flat_or : {R A : Type 0} → Option (List (Item R A)) → (List (Item R A) → Bool) → Bool → Bool
if_flat_or None go otherwise = otherwise
if_flat_or (Some a) go otherwise = not (nests a) && go a

-- whether a reader takes the whole text in fewer than this many steps, and nests nothing
abbrev pub reads : {R T A : Type 0} → Table R A → (T → ℕ) → ℕ → List (Item R A) → List T → Bool
reads table kind zero s w = false
reads table kind (suc n) [] [] = true
reads table kind (suc n) [] (t ∷ w) = false
reads table kind (suc n) (Do a ∷ s) w = reads table kind n s w
reads table kind (suc n) (Inside r ∷ s) w = false
reads table kind (suc n) (Here r ∷ s) [] = if_flat (table.otherwise r) (λ d. reads table kind n (d ++ s) [])
reads table kind (suc n) (Here r ∷ s) (t ∷ w) =
    if_flat_or (entry (kind t) (table.alternatives r)) (λ a. reads table kind n (a ++ s) w) (if_flat (table.otherwise r) (λ d. reads table kind n (d ++ s) (t ∷ w)))

-- these are short sentences of the rules
abbrev pub AreShort : {R T A : Type 0} → Table R A → (T → ℕ) → ℕ → (R → List T) → Type 0
AreShort {R = R} table kind n short = (r : R) → reads table kind n (Here r ∷ []) (short r) ≡ true
