-- A call that is made again after calls that moved nothing.
use Rattle.std.proofs.Common.{◌++◌, ℕ, List, ap, ◌∙◌, sym, Option, Some, None}
use Rattle.std.specs.Io.KnownBytes.{Appends, Consumes, Keeps}

-- bytes that stayed, and then some of them are consumed
pub consumes_after : (old mid new : Option (List ℕ)) (a : List ℕ) → Keeps old mid → Consumes mid new a → Consumes old new a
consumes_after None mid new a p q = tt
consumes_after (Some xs) None new a p q = absurd p
consumes_after (Some xs) (Some ys) None a p q = absurd q
consumes_after (Some xs) (Some ys) (Some zs) a p q = sym p ∙ q

-- bytes that stayed, and then some more
pub appends_after : (old mid new : Option (List ℕ)) (a : List ℕ) → Keeps old mid → Appends mid new a → Appends old new a
appends_after None mid new a p q = tt
appends_after (Some xs) None new a p q = absurd p
appends_after (Some xs) (Some ys) None a p q = absurd q
appends_after (Some xs) (Some ys) (Some zs) a p q = q ∙ ap (λ (l : List ℕ). l ++ a) p
