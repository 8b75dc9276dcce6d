-- Texts that are written one after another.
use Rattle.std.proofs.Common.{◌++◌, [], ℕ, List, refl, ap, sym, ◌∙◌, append_assoc, append-nil, Option, Some, None}
use Rattle.std.specs.Io.KnownBytes.{Appends, Keeps}
use Rattle.outside_io.specs.Texts.{AppendsFront}

-- the empty text
pub appends_none : (old : Option (List ℕ)) → Appends old old []
appends_none None = tt
appends_none (Some xs) = sym (append-nil xs)

-- a whole text, and then another
pub appends_more : (old mid new : Option (List ℕ)) (a b : List ℕ) → Appends old mid a → Appends mid new b → Appends old new (a ++ b)
appends_more None mid new a b p q = tt
appends_more (Some xs) None new a b p q = absurd p
appends_more (Some xs) (Some ys) None a b p q = absurd q
appends_more (Some xs) (Some ys) (Some zs) a b p q = q ∙ ap (λ (l : List ℕ). l ++ b) p ∙ append_assoc xs a b

-- a whole text, and then nothing
pub appends_kept : (old mid new : Option (List ℕ)) (a : List ℕ) → Appends old mid a → Keeps mid new → Appends old new a
appends_kept None mid new a p q = tt
appends_kept (Some xs) None new a p q = absurd p
appends_kept (Some xs) (Some ys) None a p q = absurd q
appends_kept (Some xs) (Some ys) (Some zs) a p q = q ∙ p

-- a whole text, and then some first bytes of the next
pub front_after : (old mid new : Option (List ℕ)) (a b : List ℕ) → Appends old mid a → AppendsFront mid new b → AppendsFront old new (a ++ b)
front_after old mid new a b p (front, rest, is, q) =
    (a ++ front, rest, ap (λ (l : List ℕ). a ++ l) is ∙ sym (append_assoc a front rest), appends_more old mid new a front p q)

-- some first bytes of a text that goes on
pub front_of_more : (old new : Option (List ℕ)) (a b : List ℕ) → AppendsFront old new a → AppendsFront old new (a ++ b)
front_of_more old new a b (front, rest, is, q) = (front, rest ++ b, ap (λ (l : List ℕ). l ++ b) is ∙ append_assoc front rest b, q)

-- a whole text is a front of one that goes on
pub front_of_whole : (old new : Option (List ℕ)) (a b : List ℕ) → Appends old new a → AppendsFront old new (a ++ b)
front_of_whole old new a b p = (a, b, refl, p)

-- nothing is a front of each text
pub front_none : (old new : Option (List ℕ)) (a : List ℕ) → Keeps old new → AppendsFront old new a
front_none old new a k = ([], a, refl, appends_kept old old new [] (appends_none old) k)
