use Rattle.value_types.proofs.Ascii.{is_text, read}
use Rattle.value_types.proofs.name.Name.as_text.Goals as goal

pub unwrap-requires : goal.unwrap-requires
unwrap-requires c = read c.from_utf8.result _ _ _ (is_text _ c.as_slice.ensures.name) c.from_utf8.ensures.cases
