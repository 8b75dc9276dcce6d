-- Each text has steps, or errs at a place.
use Rattle.std.proofs.Common.{refl, inl, inr, length}
use Rattle.notebook_grammar.specs.Texts.{place_of}
use Rattle.text_steps.specs.Laws.{IsCut, AreRead, IsRead, EachTextIsRead}
use Rattle.text_steps.proofs.Lexed.{lexed}
use Rattle.text_steps.proofs.Reading.{reads}

pub each_text_is_read : EachTextIsRead
each_text_is_read start text = of_lexemes (lexed text)
  where
    by_end : (ls : IsCut text) → AreRead start ls.0 → IsRead start text
    by_end ls (inl s) = inl (s.0, (ls.0, ls.1, s.1))
    by_end ls (inr w) = inr (place_of ls.0 w.0 (length text), (ls.0, w.0, ls.1, w.1, refl))

    of_lexemes : IsCut text → IsRead start text
    of_lexemes ls = by_end ls (reads start ls.0)
