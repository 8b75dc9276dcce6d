-- What is passed over, as `serde_json` would read it.
use Rattle.std.specs.Prelude.{◌≡◌, ℕ, List, length, Option, Some, option_map, option_and_then}
use Rattle.json.specs.Token.{Token}
use Rattle.json.specs.Json.{value, members}
use Rattle.serde_json.specs.Data.{Data, Members, no_members}
use Rattle.serde_json.specs.Find.{get, get_member, as_str}
use Rattle.serde_json.specs.Read.{of_json, of_members, converted}
use Rattle.json_glance.specs.declared.pass.Seen.{Seen}

-- the tokens behind what was read
abbrev pub rest : {A : Type 0} → Option (A × List Token) → Option (List Token)
rest read = option_map (λ p. p.1) read

-- the texts that were seen are that of the data, and that at its field of the name
abbrev pub Shows : List ℕ → Data → Seen → Type 0
Shows name d seen = (option_map (λ t. t.now) seen.text ≡ as_str d) × (option_map (λ t. t.now) seen.field ≡ option_and_then as_str (get name d))

-- the tokens `old` begin with a value that is data, of which this was seen, and go on with `new`
abbrev pub Passes : ℕ → List ℕ → List Token → Seen → List Token → Type 0
Passes depth name old seen new = (d : Data) × (converted of_json (value depth old) ≡ Some (d, new)) × Shows name d seen

-- the tokens `old` begin with members that are data, where `found` is the text at the name, and go on with `new`
abbrev pub PassesMembers : ℕ → List ℕ → List Token → Option (List ℕ) → List Token → Type 0
PassesMembers depth name old found new =
    (ds : Members) × (converted (λ ms. of_members ms no_members) (members (value depth) (length old) old) ≡ Some (ds, new)) × (found ≡ option_and_then as_str (get_member name ds))
