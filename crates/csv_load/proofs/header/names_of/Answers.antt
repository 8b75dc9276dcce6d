use Rattle.std.proofs.Common.{◌≡◌, ◌∙◌, ◌++◌, ◌∷◌, [], sym, ap, length, arith, length-append}
use Rattle.csv.specs.Records.{fields_of}
use Rattle.csv_load.specs.Names.{free_name, base_name}
use Rattle.csv_load.proofs.FreeNames.{named_next, named_all, there}
use Rattle.csv_load.proofs.header.names_of.Goals as goal

pub loop-field-preserved : goal.loop-field-preserved
loop-field-preserved c =
    let at = sym (rw c.len.ensures at c.in-Some.ensures) in
    let within = there (fields_of c.args.header.now) (length c.loop-field.names) c.in-Some.field.now at in
    let pushed = c.in_ok-push.ensures.ok in
    let name = c.in_ok-name.ensures ∙ ap (λ names. free_name names (base_name c.in-Some.field.now)) c.as_slice.ensures in
    rw pushed (record {
      within = omega (arith, within, length-append c.loop-field.names (c.in_ok-name.name ∷ []));
      named = named_next _ c.loop-field.names (fields_of c.args.header.now) c.in-Some.field.now c.in_ok-name.name c.loop-field.invariant.named at name;
    })

pub returns : goal.returns
returns c =
    named_all _ c.loop-field.names (fields_of c.args.header.now) c.loop-field.invariant.named (sym (rw c.len.ensures at c.in_default.ensures))
