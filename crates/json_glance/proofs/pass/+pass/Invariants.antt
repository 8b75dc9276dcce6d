use Rattle.std.proofs.Common.{◌≡◌, ℕ, ◌+◌, ◌*◌, ◌≤◌, length, option_map, option_and_then}
use Rattle.json.specs.Json.{items, members, value}
use Rattle.serde_json.specs.Data.{Members, no_members}
use Rattle.serde_json.specs.Find.{get_member, as_str}
use Rattle.serde_json.specs.Read.{of_items, of_members, converted}
use Rattle.json_glance.specs.Passed.{rest}
use Rattle.json_glance.proofs.pass.+pass.Given as goal

abbrev pub decreases-pass : goal.decreases-pass
decreases-pass l = 2 * l.depth

abbrev pub decreases-pass_items : goal.decreases-pass_items
decreases-pass_items l = 2 * l.depth + 1

abbrev pub decreases-pass_members : goal.decreases-pass_members
decreases-pass_members l = 2 * l.depth + 1

-- what the items leave is what those that are still to come leave
abbrev pub invariant-pass_items-loop-reader : goal.invariant-pass_items-loop-reader
invariant-pass_items-loop-reader l =
    (n : ℕ) × (length l.reader ≤ n)
    × (rest (converted of_items (items (value l.depth) (length l.initial.reader) l.initial.reader)) ≡ rest (converted of_items (items (value l.depth) n l.reader)))
    × (length l.reader ≤ length l.initial.reader)

abbrev pub decreases-pass_items-loop-reader : goal.decreases-pass_items-loop-reader
decreases-pass_items-loop-reader l = length l.reader

-- the members are those that were passed, whose text at the name is found, and those that are still to come
abbrev pub invariant-pass_members-loop-key : goal.invariant-pass_members-loop-key
invariant-pass_members-loop-key l =
    (n : ℕ) × (passed : Members) × (length l.reader ≤ n)
    × (converted (λ ms. of_members ms no_members) (members (value l.depth) (length l.initial.reader) l.initial.reader) ≡ converted (λ ms. of_members ms passed) (members (value l.depth) n l.reader))
    × (option_map (λ t. t.now) l.found ≡ option_and_then as_str (get_member l.name passed))
    × (length l.reader ≤ length l.initial.reader)

abbrev pub decreases-pass_members-loop-key : goal.decreases-pass_members-loop-key
decreases-pass_members-loop-key l = length l.reader
