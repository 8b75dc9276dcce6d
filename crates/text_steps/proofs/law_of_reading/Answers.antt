use Rattle.text_steps.proofs.EachText.{each_text_is_read}
use Rattle.text_steps.proofs.law_of_reading.Goals as goal

pub returns : goal.returns
returns c = each_text_is_read
