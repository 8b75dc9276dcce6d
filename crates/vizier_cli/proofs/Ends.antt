-- How a session's end stands for the program's.
use Rattle.std.proofs.Common.{◌≡◌, ◌⊎◌, ◌≤◌, ◌<◌, ◌+◌, ◌∙◌, ◌++◌, ℕ, List, length, Option, Some, None, option_map, inl, inr, refl, ap, sym, arith, length-append, subst}
use Rattle.std.specs.Io.KnownBytes.{Consumes}
use Rattle.outside_io.specs.Causes.{Rose}
use Rattle.line_reader.specs.Cut.{limit}
use Rattle.dataset_types.specs.declared.picks.Pick.{Pick}
use Rattle.version_tree.specs.declared.told.Told.{Told}
use Rattle.report_words.specs.Says.{Says, Blames}
use Rattle.report_words.specs.declared.status.SessionStatus.{SessionStatus}
use Rattle.report_words.specs.declared.status.SessionStatus.TheVariants as session
use Rattle.vizier_cli.specs.Statuses.{status_of}
use Rattle.vizier_cli.specs.Top.{Causes, Completes}
use Rattle.vizier_cli.specs.Words.{Serial}

-- the same count rose
pub causes_of : (s : SessionStatus) (a a' b b' : ℕ) → Blames s a a' b b' → Causes (status_of s) a a' b b'
causes_of session.Done a a' b b' h = h
causes_of session.ReadFault a a' b b' h = h
causes_of session.WriteFault a a' b b' h = h
causes_of session.NoMemory a a' b b' h = h
causes_of session.StreamTooLong a a' b b' h = h

-- no more can be taken than there is
taken_within : (first left : Option (List ℕ)) (taken bytes : List ℕ) → Consumes first left taken → first ≡ Some bytes → length bytes ≤ limit → limit < length taken → ⊥
taken_within None left taken bytes c e le lt = let no : None ≡ Some bytes = e in cc
taken_within (Some xs) None taken bytes c e le lt = absurd c
taken_within (Some xs) (Some ys) taken bytes c e le lt =
    let same : xs ≡ bytes = cc in
    omega (arith, le, lt, ap (λ (l : List ℕ). length l) (sym same ∙ c), length-append taken ys)

-- without a fault and within the limit a session is done, or memory was wanting
pub completes_of : (s : SessionStatus) (file : Option (List ℕ)) (files : Option (List (List ℕ × List ℕ))) (picks : List Pick)
    (first left start written : Option (List ℕ)) (hs : List (List ℕ × Told)) (a a' b b' : ℕ)
    → Says s picks first left start written hs → Blames s a a' b b' → Completes (status_of s) file files first a a' b b'
completes_of session.Done file files picks first left start written hs a a' b b' says blames = λ can source sink bytes e le. inl refl
completes_of session.ReadFault file files picks first left start written hs a a' b b' says blames = λ can source sink bytes e le. absurd (source blames.0)
completes_of session.WriteFault file files picks first left start written hs a a' b b' says blames = λ can source sink bytes e le. absurd (sink blames.1)
completes_of session.NoMemory file files picks first left start written hs a a' b b' says blames = λ can source sink bytes e le. inr (inl refl)
completes_of session.StreamTooLong file files picks first left start written hs a a' b b' says blames =
    λ can source sink bytes e le. absurd (taken_within first left says.0 bytes says.1 e le says.2)

-- the picks file of the words is the one that the command names
pub same_file : (found : Option (Option (List ℕ))) (here file : Option (List ℕ)) → Some here ≡ found → option_map Serial found ≡ Some (Serial file) → here ≡ file
same_file None here file is e = cc
same_file (Some other) here file is e = let one : here ≡ other = cc in let two : other ≡ file = cc in one ∙ two
