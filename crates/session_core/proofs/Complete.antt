-- When a session is complete.
use Rattle.std.proofs.Common.{◌≡◌, ◌≤◌, ◌<◌, ◌+◌, ◌++◌, ◌∙◌, ℕ, List, length, Option, Some, None, inl, inr, refl, ap, sym, arith, length-append}
use Rattle.std.specs.Io.KnownBytes.{Consumes}
use Rattle.line_reader.specs.Cut.{limit}
use Rattle.dataset_types.specs.declared.picks.Pick.{Pick}
use Rattle.version_tree.specs.declared.told.Told.{Told}
use Rattle.report_words.specs.Says.{Says, Blames, Completes}
use Rattle.report_words.specs.declared.status.SessionStatus.{SessionStatus}
use Rattle.report_words.specs.declared.status.SessionStatus.TheVariants as status

-- no more can be taken than there is
taken_within : (first left : Option (List ℕ)) (taken bytes : List ℕ) → Consumes first left taken → first ≡ Some bytes → length bytes ≤ limit → limit < length taken → ⊥
taken_within None left taken bytes c e le lt = let no : None ≡ Some bytes = e in cc
taken_within (Some xs) None taken bytes c e le lt = absurd c
taken_within (Some xs) (Some ys) taken bytes c e le lt =
    let same : xs ≡ bytes = cc in
    omega (arith, le, lt, ap (λ (l : List ℕ). length l) (sym same ∙ c), length-append taken ys)

-- without a fault and within the limit a session is done, or memory was wanting
pub completes : (s : SessionStatus) (picks : List Pick) (first left start written : Option (List ℕ)) (hs : List (List ℕ × Told)) (a a' b b' : ℕ)
    → Says s picks first left start written hs → Blames s a a' b b' → Completes s first a a' b b'
completes status.Done picks first left start written hs a a' b b' says blames = λ source sink bytes e le. inl refl
completes status.ReadFault picks first left start written hs a a' b b' says blames = λ source sink bytes e le. absurd (source blames.0)
completes status.WriteFault picks first left start written hs a a' b b' says blames = λ source sink bytes e le. absurd (sink blames.1)
completes status.NoMemory picks first left start written hs a a' b b' says blames = λ source sink bytes e le. inr refl
completes status.StreamTooLong picks first left start written hs a a' b b' says blames =
    λ source sink bytes e le. absurd (taken_within first left says.0 bytes says.1 e le says.2)
