-- The columns of a table, heading by heading.
use Rattle.std.proofs.Common.{◌≡◌, ℕ, ◌+◌, ◌<◌, ◌≤◌, true, false, Some, List, [], ◌∷◌, map, length, drop, get_or, refl, sym, ap, ◌∙◌}
use Rattle.std.specs.Str.{bytes_eq}
use Rattle.std.proofs.lemmas.List.{drop_more, drop_all}
use Rattle.relations.specs.Rels.{qualified}
use Rattle.sql_parse.specs.declared.tables.TableRef.{TableRef}
use Rattle.sql_plan.specs.declared.heading.Heading.{Heading}
use Rattle.sql_plan.specs.Headings.{table_columns}

next_is : (hs : List Heading) (i : ℕ) (h : Heading) → i < length hs → h ≡ get_or hs i h → drop i hs ≡ h ∷ drop (i + 1) hs
next_is hs i h below is = drop_more hs i h below ∙ ap (λ z. z ∷ drop (i + 1) hs) (sym is)

-- the first heading of the name counts
pub found_here : (hs : List Heading) (i : ℕ) (h : Heading) (t : TableRef) → i < length hs → h ≡ get_or hs i h → bytes_eq h.dataset t.dataset ≡ true →
    table_columns (drop i hs) t ≡ map (qualified (Some t.qualifier)) h.columns
found_here hs i h t below is same = rw (next_is hs i h below is, same) refl

pub not_here : (hs : List Heading) (i : ℕ) (h : Heading) (t : TableRef) → i < length hs → h ≡ get_or hs i h → bytes_eq h.dataset t.dataset ≡ false →
    table_columns (drop i hs) t ≡ table_columns (drop (i + 1) hs) t
not_here hs i h t below is other = rw (next_is hs i h below is, other) refl

pub nowhere : (hs : List Heading) (i : ℕ) (t : TableRef) → length hs ≤ i → table_columns (drop i hs) t ≡ []
nowhere hs i t past = rw (drop_all i hs past) refl

-- what the proof of the loop uses
pub ruleset heads = (found_here, not_here, nowhere)
