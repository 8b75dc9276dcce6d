-- The lines of a stream, one byte and one piece on.
use Rattle.std.proofs.Common.{sym, ◌≤◌, ◌<◌, zero, suc, length, take, get_or, append-nil, append_assoc, inl, inr, arith, ◌≡◌, ℕ, List, [], ◌∷◌, ◌++◌, refl, ap, ◌∙◌, Bool, true, false, cond, nat_eq}
use Rattle.std.proofs.lemmas.Bool.Decides.{eqb_tells}
use Rattle.line_reader.specs.Cut.{ended_lines, unended, onto_first, onto_rest}

pub ended_other : (bs : List ℕ) (b : ℕ) → nat_eq b 10 ≡ false → ended_lines (bs ++ b ∷ []) ≡ ended_lines bs
ended_other [] b e = ap (λ t. cond t ([] ∷ []) []) e
ended_other (x ∷ bs) b e = ap (λ l. cond (nat_eq x 10) ([] ∷ l) (onto_first x l)) (ended_other bs b e)

rest_append : (t : Bool) (x : ℕ) (lines : List (List ℕ)) (rest more : List ℕ) → cond t (rest ++ more) (onto_rest x lines (rest ++ more)) ≡ cond t rest (onto_rest x lines rest) ++ more
rest_append true x lines rest more = refl
rest_append false x [] rest more = refl
rest_append false x (l ∷ ls) rest more = refl

pub unended_other : (bs : List ℕ) (b : ℕ) → nat_eq b 10 ≡ false → unended (bs ++ b ∷ []) ≡ unended bs ++ b ∷ []
unended_other [] b e = ap (λ t. cond t [] (b ∷ [])) e
unended_other (x ∷ bs) b e =
    ap (λ l. cond (nat_eq x 10) (unended (bs ++ b ∷ [])) (onto_rest x l (unended (bs ++ b ∷ [])))) (ended_other bs b e)
    ∙ ap (λ r. cond (nat_eq x 10) r (onto_rest x (ended_lines bs) r)) (unended_other bs b e)
    ∙ rest_append (nat_eq x 10) x (ended_lines bs) (unended bs) (b ∷ [])

first_push : (t : Bool) (x : ℕ) (lines : List (List ℕ)) (rest : List ℕ)
    → cond t ([] ∷ (lines ++ rest ∷ [])) (onto_first x (lines ++ rest ∷ [])) ≡ cond t ([] ∷ lines) (onto_first x lines) ++ cond t rest (onto_rest x lines rest) ∷ []
first_push true x lines rest = refl
first_push false x [] rest = refl
first_push false x (l ∷ ls) rest = refl

pub ended_feed : (bs : List ℕ) → ended_lines (bs ++ 10 ∷ []) ≡ ended_lines bs ++ unended bs ∷ []
ended_feed [] = refl
ended_feed (x ∷ bs) = ap (λ l. cond (nat_eq x 10) ([] ∷ l) (onto_first x l)) (ended_feed bs) ∙ first_push (nat_eq x 10) x (ended_lines bs) (unended bs)

nothing_left : (t : Bool) (x : ℕ) (lines : List (List ℕ)) (rest : List ℕ) → cond t [] (onto_rest x (lines ++ rest ∷ []) []) ≡ []
nothing_left true x lines rest = refl
nothing_left false x [] rest = refl
nothing_left false x (l ∷ ls) rest = refl

pub unended_feed : (bs : List ℕ) → unended (bs ++ 10 ∷ []) ≡ []
unended_feed [] = refl
unended_feed (x ∷ bs) =
    ap (λ r. cond (nat_eq x 10) r (onto_rest x (ended_lines (bs ++ 10 ∷ [])) r)) (unended_feed bs)
    ∙ ap (λ l. cond (nat_eq x 10) [] (onto_rest x l [])) (ended_feed bs)
    ∙ nothing_left (nat_eq x 10) x (ended_lines bs) (unended bs)

-- none of the bytes is a line feed
abbrev pub Lacks : List ℕ → Type 0
Lacks [] = Unit {0}
Lacks (b ∷ bs) = (nat_eq b 10 ≡ false) × Lacks bs

-- the bytes before the first line feed have none
pub lacks_front : (bs : List ℕ) (n : ℕ) → n ≤ length bs → ((k : ℕ) → 0 ≤ k → k < n → nat_eq (get_or bs k 0) 10 ≡ true → ⊥) → Lacks (take n bs)
lacks_front bs zero le none = tt
lacks_front [] (suc n) le none = absurd (omega (arith, le))
lacks_front (b ∷ bs) (suc n) le none = (
  elim (eqb_tells b 10) [
    | inl e ↦ absurd (none 0 (omega arith) (omega arith) e.0)
    | inr e ↦ e.0
  ],
  lacks_front bs n (omega (arith, le)) (λ k low lt is. none (suc k) (omega arith) (omega (arith, lt)) is),
)

-- a piece with no line feed ends no line
pub ended_piece : (bs piece : List ℕ) → Lacks piece → ended_lines (bs ++ piece) ≡ ended_lines bs
ended_piece bs [] none = ap ended_lines (append-nil bs)
ended_piece bs (b ∷ piece) (other, none) =
    ap ended_lines (sym (append_assoc bs (b ∷ []) piece)) ∙ ended_piece (bs ++ b ∷ []) piece none ∙ ended_other bs b other

-- a piece with no line feed goes to the line in hand
pub unended_piece : (bs piece : List ℕ) → Lacks piece → unended (bs ++ piece) ≡ unended bs ++ piece
unended_piece bs [] none = ap unended (append-nil bs) ∙ sym (append-nil (unended bs))
unended_piece bs (b ∷ piece) (other, none) =
    ap unended (sym (append_assoc bs (b ∷ []) piece)) ∙ unended_piece (bs ++ b ∷ []) piece none
    ∙ ap (λ (l : List ℕ). l ++ piece) (unended_other bs b other) ∙ append_assoc (unended bs) (b ∷ []) piece
