-- Worked examples of what a first look tells.
use Rattle.std.proofs.Common.{◌≡◌, Some, None, codes, refl}
use Rattle.serde_json.specs.Data.{string, unsigned, number, array, item, no_items, object, member, no_members}
use Rattle.json_glance.specs.Line.{glance_at}
use Rattle.json_glance.specs.declared.look.Glance.TheVariants.{NotJson, NoText, Text}

no_json : glance_at (codes "edit") None ≡ NotJson
no_json = refl

-- {"branch":"main","edit":"append"}
its_text : glance_at (codes "edit") (Some (object (member (codes "branch") (string (codes "main")) (member (codes "edit") (string (codes "append")) no_members)))) ≡ Text (codes "append")
its_text = refl

-- {"edit":7}
a_number : glance_at (codes "edit") (Some (object (member (codes "edit") (number (unsigned 7)) no_members))) ≡ NoText
a_number = refl

-- {"cell":{"edit":"append"}}
further_in : glance_at (codes "edit") (Some (object (member (codes "cell") (object (member (codes "edit") (string (codes "append")) no_members)) no_members))) ≡ NoText
further_in = refl

-- ["edit"]
no_object : glance_at (codes "edit") (Some (array (item (string (codes "edit")) no_items))) ≡ NoText
no_object = refl
