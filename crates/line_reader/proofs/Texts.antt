-- The first line of bytes that are all there.
use Rattle.std.proofs.Common.{◌≡◌, ◌∙◌, ◌<◌, ◌+◌, ◌≤◌, ◌-◌, ℕ, zero, suc, List, [], ◌∷◌, ◌++◌, length, take, drop, get_or, refl, sym, ap, Bool, true, false, cond, nat_eq, arith, subst}
use Rattle.std.proofs.lemmas.Bool.{eqb-true}
use Rattle.std.proofs.lemmas.List.{take_all, length-drop}
use Rattle.line_reader.specs.Cut.{ended_lines, unended, onto_first, onto_rest, lines_of, last_line}
use Rattle.line_reader.proofs.Feeds.{Lacks, ended_piece, unended_piece}

both_same : {A : Type 0} (t : Bool) (x : A) → cond t x x ≡ x
both_same true x = refl
both_same false x = refl

ended_first : (line rest : List ℕ) → Lacks line → ended_lines (line ++ 10 ∷ rest) ≡ line ∷ ended_lines rest
ended_first [] rest none = refl
ended_first (b ∷ line) rest (other, none) =
    ap (λ l. cond (nat_eq b 10) ([] ∷ l) (onto_first b l)) (ended_first line rest none)
    ∙ ap (λ t. cond t ([] ∷ line ∷ ended_lines rest) ((b ∷ line) ∷ ended_lines rest)) other

unended_first : (line rest : List ℕ) → Lacks line → unended (line ++ 10 ∷ rest) ≡ unended rest
unended_first [] rest none = refl
unended_first (b ∷ line) rest (other, none) =
    ap (λ l. cond (nat_eq b 10) (unended (line ++ 10 ∷ rest)) (onto_rest b l (unended (line ++ 10 ∷ rest)))) (ended_first line rest none)
    ∙ both_same (nat_eq b 10) (unended (line ++ 10 ∷ rest)) ∙ unended_first line rest none

lines_first : (line rest : List ℕ) → Lacks line → lines_of (line ++ 10 ∷ rest) ≡ line ∷ lines_of rest
lines_first line rest none =
    ap (λ l. l ++ last_line (unended (line ++ 10 ∷ rest))) (ended_first line rest none)
    ∙ ap (λ r. line ∷ (ended_lines rest ++ last_line r)) (unended_first line rest none)

at_feed : (bs : List ℕ) (n : ℕ) → n < length bs → nat_eq (get_or bs n 0) 10 ≡ true → bs ≡ take n bs ++ 10 ∷ drop (suc n) bs
at_feed [] n inside feed = absurd (omega (arith, inside))
at_feed (b ∷ bs) zero inside feed = ap (λ x. x ∷ bs) (eqb-true _ _ feed)
at_feed (b ∷ bs) (suc n) inside feed = ap (λ l. b ∷ l) (at_feed bs n (omega (arith, inside)) feed)

-- the bytes after a place, as a slice has them
rest_is : (bs : List ℕ) (n : ℕ) → take (length bs - n) (drop n bs) ≡ drop n bs
rest_is bs n = let size = length-drop n bs in take_all (length bs - n) (drop n bs) (omega (arith, size))

-- the bytes before the first line feed are the first line
pub first_is : (bs : List ℕ) (n : ℕ) → n < length bs → Lacks (take n bs) → nat_eq (get_or bs n 0) 10 ≡ true
    → lines_of bs ≡ take n bs ∷ lines_of (take (length bs - (n + 1)) (drop (n + 1) bs))
first_is bs n inside none feed =
    let next : suc n ≡ n + 1 = omega arith in
    ap lines_of (at_feed bs n inside feed) ∙ lines_first (take n bs) (drop (suc n) bs) none
    ∙ ap (λ m. take n bs ∷ lines_of (drop m bs)) next
    ∙ ap (λ l. take n bs ∷ lines_of l) (sym (rest_is bs (n + 1)))

-- bytes without a line feed are one line
only_line : (bs : List ℕ) → Lacks bs → (length bs ≡ 0 → ⊥) → lines_of bs ≡ bs ∷ []
only_line [] none some = absurd (some refl)
only_line (b ∷ bs) none some =
    ap (λ l. l ++ last_line (unended (b ∷ bs))) (ended_piece [] (b ∷ bs) none) ∙ ap last_line (unended_piece [] (b ∷ bs) none)

pub only_is : (bs : List ℕ) → Lacks (take (length bs) bs) → (length bs ≡ 0 → ⊥) → lines_of bs ≡ bs ∷ []
only_is bs none some = only_line bs (subst Lacks (take_all (length bs) bs (omega arith)) none) some

pub is_empty : (n : ℕ) → n ≡ 0 → (t : Bool) → t ≡ nat_eq n 0 → t ≡ false → ⊥
is_empty n none t is not = let yes : nat_eq n 0 ≡ true = ap (λ m. nat_eq m 0) none in let both : true ≡ false = sym yes ∙ sym is ∙ not in cc
