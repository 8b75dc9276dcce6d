use Rattle.std.proofs.Common.{◌≡◌, suc, List, [], ◌∷◌, length, refl, ap, ◌∙◌, sym, nat_eq, String, option_map, unwrap_or, false}
use Rattle.std.specs.declared.alloc.Global.{Global}
use Rattle.serde_json.specs.View.{members_view}
use Rattle.serde_json.specs.declared.value.Value.{Value}
use Rattle.json_fields.specs.Json.{member_count}
use Rattle.json_fields.proofs.from_json.has_members.Goals as goal

-- a map has as many entries as its data has members
counted : (ms : List (String Global × Value)) → member_count (members_view ms) ≡ length ms
counted [] = refl
counted (m ∷ ms) = ap suc (counted ms)

pub returns-in-Some : goal.returns-in-Some
returns-in-Some c =
    ap (λ n. nat_eq n c.args.count) (c.len.ensures.len ∙ sym (counted c.in-Some.members.now.entries))
    ∙ ap (λ o. unwrap_or (option_map (λ ms. nat_eq (member_count ms) c.args.count) o) false) c.in-Some.ensures
