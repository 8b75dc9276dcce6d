-- Reading on gives the longest token.
use Rattle.std.proofs.Common.{◌≡◌, ℕ, zero, suc, ◌+◌, ◌<◌, ◌≤◌, List, [], ◌∷◌, Option, Some, None, take, drop, length, get_or, refl, sym, ap, ◌∙◌, subst, arith}
use Rattle.std.proofs.Math.Seq.{drop-cons}
use Rattle.notebook_grammar.specs.declared.scan.Form.{Form}
use Rattle.notebook_grammar.specs.declared.scan.State.{State}
use Rattle.notebook_grammar.specs.declared.scan.State.TheVariants as state
use Rattle.notebook_grammar.specs.declared.scan.Found.{Found}
use Rattle.notebook_grammar.specs.Forms.{better, step, class_of}
use Rattle.notebook_grammar.specs.Longest.{step_in, form_in, ends_in, token_of, IsLongest}

-- reading on, and keeping the last front that is a token
abbrev pub munch : Option State → ℕ → Option Found → List ℕ → Option Found
munch o n best [] = best
munch o n best (b ∷ bs) = munch (step_in o b) (n + 1) (better (form_in (step_in o b)) best (n + 1)) bs

data Munched (o : Option State) (n : ℕ) (best : Option Found) (bs : List ℕ) (r : Option Found) : Type 0 where
  stays : ((m : ℕ) → 0 < m → m ≤ length bs → ends_in o (take m bs) ≡ None) → r ≡ best → Munched o n best bs r
  finds : (k : Form) (m : ℕ) → 0 < m → m ≤ length bs → ends_in o (take m bs) ≡ Some k → ((j : ℕ) → m < j → j ≤ length bs → ends_in o (take j bs) ≡ None)
      → r ≡ Some (record { form = k; length = n + m }) → Munched o n best bs r

munched : (o : Option State) (n : ℕ) (best : Option Found) (bs : List ℕ) → Munched o n best bs (munch o n best bs)
munched o n best [] = stays (λ m p h. absurd (omega arith)) refl
munched o n best (b ∷ bs) = elim (munched (step_in o b) (n + 1) (better (form_in (step_in o b)) best (n + 1)) bs) [
  | stays f e ↦ last f e (form_in (step_in o b)) refl
  | finds k m p h is f e ↦ finds k (suc m) (omega arith) (omega (arith, h)) is (later m f) (e ∙ ap (λ x. Some (record { form = k; length = x })) (omega arith))
]
  where
    later : (m : ℕ) → ((j : ℕ) → m < j → j ≤ length bs → ends_in (step_in o b) (take j bs) ≡ None) → (j : ℕ) → suc m < j → j ≤ length (b ∷ bs) → ends_in o (take j (b ∷ bs)) ≡ None
    later m f zero h i = absurd (omega arith)
    later m f (suc j) h i = f j (omega arith) (omega arith)

    all : ((m : ℕ) → 0 < m → m ≤ length bs → ends_in (step_in o b) (take m bs) ≡ None) → form_in (step_in o b) ≡ None → (m : ℕ) → 0 < m → m ≤ length (b ∷ bs) → ends_in o (take m (b ∷ bs)) ≡ None
    all f k zero p h = absurd (omega arith)
    all f k (suc zero) p h = k
    all f k (suc (suc m)) p h = f (suc m) (omega arith) (omega arith)

    more : ((m : ℕ) → 0 < m → m ≤ length bs → ends_in (step_in o b) (take m bs) ≡ None) → (j : ℕ) → 1 < j → j ≤ length (b ∷ bs) → ends_in o (take j (b ∷ bs)) ≡ None
    more f zero h i = absurd (omega arith)
    more f (suc j) h i = f j (omega arith) (omega arith)

    last : ((m : ℕ) → 0 < m → m ≤ length bs → ends_in (step_in o b) (take m bs) ≡ None) → {r : Option Found} → r ≡ better (form_in (step_in o b)) best (n + 1)
        → (k : Option Form) → form_in (step_in o b) ≡ k → Munched o n best (b ∷ bs) r
    last f e None i = stays (all f i) (e ∙ ap (λ x. better x best (n + 1)) i)
    last f e (Some k) i = finds k 1 (omega arith) (omega arith) i (more f) (e ∙ ap (λ x. better x best (n + 1)) i)

pub longest_is : (text : List ℕ) → IsLongest text (munch (Some state.Start) 0 None text)
longest_is text = elim (munched (Some state.Start) 0 None text) [
  | stays f e ↦ subst (λ r. IsLongest text r) (sym e) (none f)
  | finds k m p h is f e ↦ let zero_more : 0 + m ≡ m = omega arith in subst (λ r. IsLongest text r) (sym (e ∙ ap (λ x. Some (record { form = k; length = x })) zero_more)) (p, h, is, f)
]
  where
    none : ((m : ℕ) → 0 < m → m ≤ length text → token_of (take m text) ≡ None) → (m : ℕ) → m ≤ length text → token_of (take m text) ≡ None
    none f zero h = refl
    none f (suc m) h = f (suc m) (omega arith) h

-- after the last state nothing is found
pub munch_none : (n : ℕ) (best : Option Found) (bs : List ℕ) → munch None n best bs ≡ best
munch_none n best [] = refl
munch_none n best (b ∷ bs) = munch_none (n + 1) best bs

pub munch_next : (o : Option State) (n : ℕ) (best : Option Found) (text : List ℕ) → n < length text
    → munch o n best (drop n text) ≡ munch (step_in o (get_or text n 0)) (n + 1) (better (form_in (step_in o (get_or text n 0))) best (n + 1)) (drop (n + 1) text)
munch_next o n best text below =
    let one : suc n ≡ n + 1 = omega arith in let b = get_or text n 0 in
    ap (munch o n best) (drop-cons text n 0 below) ∙ ap (λ i. munch (step_in o b) (n + 1) (better (form_in (step_in o b)) best (n + 1)) (drop i text)) one

pub stopped_at : (s : State) (n : ℕ) (best : Option Found) (text : List ℕ) → n < length text → step s (class_of (get_or text n 0)) ≡ None → munch (Some s) n best (drop n text) ≡ best
stopped_at s n best text below none =
    munch_next (Some s) n best text below ∙ ap (λ x. munch x (n + 1) (better (form_in x) best (n + 1)) (drop (n + 1) text)) none ∙ munch_none (n + 1) best (drop (n + 1) text)

pub is_longest : (text : List ℕ) (r : Option Found) → munch (Some state.Start) 0 None text ≡ r → IsLongest text r
is_longest text r e = subst (λ x. IsLongest text x) e (longest_is text)
