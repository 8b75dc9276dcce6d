-- What an answer that is there says of the answers that it was made from.
use Rattle.std.proofs.Common.{◌≡◌, List, ◌∷◌, Bool, true, false, refl, Option, Some, None, option_map}
use Rattle.std.specs.Prelude.{option_and_then, if◌then◌else◌}
use Rattle.std.specs.Option.{option_or}

-- what was mapped
pub mapped : {A B : Type 0} (f : A → B) (o : Option A) (y : B) → option_map f o ≡ Some y → (x : A) × (o ≡ Some x) × (y ≡ f x)
mapped f None y e = absurd (cc)
mapped f (Some x) y e = (x, refl, cc)

-- what came first
pub chained : {A B : Type 0} (f : A → Option B) (o : Option A) (y : B) → option_and_then f o ≡ Some y → (x : A) × (o ≡ Some x) × (f x ≡ Some y)
chained f None y e = absurd (cc)
chained f (Some x) y e = (x, refl, e)

-- the first of a list and the others
pub first_and_rest : {A B : Type 0} (f : A → B) (o : Option A) (rest : Option (List B)) (all : List B)
    → option_and_then (λ x. option_map (λ xs. f x ∷ xs) rest) o ≡ Some all
    → (x : A) × (xs : List B) × (o ≡ Some x) × (rest ≡ Some xs) × (all ≡ f x ∷ xs)
first_and_rest f None rest all e = absurd (cc)
first_and_rest f (Some x) None all e = absurd (cc)
first_and_rest f (Some x) (Some xs) all e = (x, xs, refl, refl, cc)

-- what passed a test
pub taken : {A : Type 0} (b : Bool) (x y : A) → (if b then Some x else None) ≡ Some y → (b ≡ true) × (x ≡ y)
taken true x y e = (refl, cc)
taken false x y e = absurd (cc)

-- what passed a test, and what it then is
pub tested : {A : Type 0} (b : Bool) (o : Option A) (y : A) → (if b then o else None) ≡ Some y → (b ≡ true) × (o ≡ Some y)
tested true o y e = (refl, e)
tested false o y e = absurd (cc)

-- ---- what an answer that is there passed

pub within : {A : Type 0} (b : Bool) (o : Option A) (x : A) → (if b then o else None) ≡ Some x → o ≡ Some x
within true o x e = e
within false o x e = absurd (cc)

pub which : {A P : Type 0} (b : Bool) (o p : Option A) (x : A) → (if b then o else p) ≡ Some x → (o ≡ Some x → P) → (p ≡ Some x → P) → P
which true o p x e first second = first e
which false o p x e first second = second e

pub first_of_two : {A P : Type 0} (o p : Option A) (x : A) → option_or o p ≡ Some x → (o ≡ Some x → P) → (p ≡ Some x → P) → P
first_of_two None p x e first second = second e
first_of_two (Some y) p x e first second = first e
