-- What a name stands for in two lists that are alike item by item.
use Rattle.std.proofs.Common.{◌≡◌, Bool, true, false, cond, Option, Some, None, Ok, Err, List, [], ◌∷◌, filter, refl}
use Rattle.std.specs.Bool.{⊤}
use Rattle.cell_errors.specs.Answers.{Answer, and_then}
use Rattle.expr_meaning.specs.Names.{Name, is_match, at_most_one, matching, or_no_column, meant}

module _ (X Y : Type 0) (q : X → Option Name) (n : X → Name) (q' : Y → Option Name) (n' : Y → Name) (S : X → Y → Type 0)
    (same_q : (a : X) (b : Y) → S a b → q a ≡ q' b) (same_n : (a : X) (b : Y) → S a b → n a ≡ n' b) where
  abbrev pub Each : List X → List Y → Type 0
  Each [] [] = ⊤
  Each (a ∷ xs) (b ∷ ys) = S a b × Each xs ys
  Each _ _ = ⊥

  kept : (c : Bool) (a : X) (b : Y) (xs : List X) (ys : List Y) → S a b → Each xs ys → Each (cond c (a ∷ xs) xs) (cond c (b ∷ ys) ys)
  kept true a b xs ys s e = (s, e)
  kept false a b xs ys s e = e

  filtered : (t : Option Name → Name → Bool) (xs : List X) (ys : List Y) → Each xs ys → Each (filter (λ a. t (q a) (n a)) xs) (filter (λ b. t (q' b) (n' b)) ys)
  filtered t [] [] e = tt
  filtered t (a ∷ xs) [] e = absurd e
  filtered t [] (b ∷ ys) e = absurd e
  filtered t (a ∷ xs) (b ∷ ys) e = rw (same_q a b e.0, same_n a b e.0) (kept (t (q' b) (n' b)) a b _ _ e.0 (filtered t xs ys e.1))

  -- the same error, or alike
  abbrev pub BothMay : Answer (Option X) → Answer (Option Y) → Type 0
  BothMay (Ok None) (Ok None) = ⊤
  BothMay (Ok (Some a)) (Ok (Some b)) = S a b
  BothMay (Err e) (Err d) = e ≡ d
  BothMay _ _ = ⊥

  abbrev pub Both : Answer X → Answer Y → Type 0
  Both (Ok a) (Ok b) = S a b
  Both (Err e) (Err d) = e ≡ d
  Both _ _ = ⊥

  one_each : (xs : List X) (ys : List Y) → Each xs ys → BothMay (at_most_one xs) (at_most_one ys)
  one_each [] [] e = tt
  one_each (a ∷ []) (b ∷ []) e = e.0
  one_each (a ∷ c ∷ xs) (b ∷ d ∷ ys) e = refl
  one_each [] (b ∷ ys) e = absurd e
  one_each (a ∷ xs) [] e = absurd e
  one_each (a ∷ []) (b ∷ d ∷ ys) e = absurd e.1
  one_each (a ∷ c ∷ xs) (b ∷ []) e = absurd e.1

  matching_each : (free : Bool) (p : Option Name) (name : Name) (xs : List X) (ys : List Y) → Each xs ys →
      BothMay (matching q n free p name xs) (matching q' n' free p name ys)
  matching_each free p name xs ys e = one_each _ _ (filtered (λ r m. is_match free p name r m) xs ys e)

  then_each : (x : Answer (Option X)) (y : Answer (Option Y)) (f : Option X → Answer X) (g : Option Y → Answer Y) → BothMay x y →
      Both (f None) (g None) → ((a : X) (b : Y) → S a b → Both (f (Some a)) (g (Some b))) → Both (and_then x f) (and_then y g)
  then_each (Ok None) (Ok None) f g m h k = h
  then_each (Ok (Some a)) (Ok (Some b)) f g m h k = k a b m
  then_each (Err e) (Err d) f g m h k = m
  then_each (Ok None) (Ok (Some b)) f g m h k = absurd m
  then_each (Ok (Some a)) (Ok None) f g m h k = absurd m
  then_each (Ok None) (Err d) f g m h k = absurd m
  then_each (Ok (Some a)) (Err d) f g m h k = absurd m
  then_each (Err e) (Ok None) f g m h k = absurd m
  then_each (Err e) (Ok (Some b)) f g m h k = absurd m

  none_each : (x : Answer (Option X)) (y : Answer (Option Y)) → BothMay x y → Both (and_then x (or_no_column q n)) (and_then y (or_no_column q' n'))
  none_each x y m = then_each x y _ _ m refl (λ a b s. s)

  pub meant_each : (p : Option Name) (name : Name) (xs : List X) (ys : List Y) → Each xs ys → Both (meant q n p name xs) (meant q' n' p name ys)
  meant_each None name xs ys e =
      then_each _ _ _ _ (matching_each true None name xs ys e) (none_each _ _ (matching_each false None name xs ys e)) (λ a b s. s)
  meant_each (Some p) name xs ys e = none_each _ _ (matching_each false (Some p) name xs ys e)
