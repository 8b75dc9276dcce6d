-- The reader, one step on.
use Rattle.std.proofs.Common.{drop, get_or, ◌≡◌, ◌<◌, ◌≤◌, ◌+◌, ◌-◌, min, ℕ, List, [], ◌∷◌, ◌++◌, length, take, refl, ap, sym, ◌∙◌, subst, inl, inr, append_assoc, append-nil, length-append, arith, Bool, true, false, nat_eq, Option, Some, None}
use Rattle.std.proofs.lemmas.Bool.Decides.{eqb_tells}
use Rattle.std.proofs.lemmas.Bool.{eqb-true, cases_lt}
use Rattle.std.proofs.lemmas.List.{take-append-drop, drop_more, take_all, take-take, take-append-le, length-take, length-take-le}
use Rattle.std.proofs.Math.Seq.{take-append-add}
use Rattle.std.specs.Io.KnownBytes.{Consumes, Keeps, IsAtEnd}
use Rattle.line_reader.specs.Cut.{ended_lines, unended, lines_of, last_line, limit, kept_most, kept_with}
use Rattle.line_reader.specs.Reading.{State, Stands, Ended, Cuts, CutsBy, CutsOn, Heard}
use Rattle.line_reader.proofs.Feeds.{Lacks, ended_other, ended_feed, unended_feed, ended_piece, unended_piece}

-- what is kept of a line that goes on with a piece
pub keep_more : (most : ℕ) (line piece : List ℕ) → take most (line ++ piece) ≡ take most line ++ take (most - length (take most line)) piece
keep_more most line piece =
    elim (cases_lt (length line) most) [
      | inl lt ↦
          let all : take most line ≡ line = take_all most line (omega (arith, lt)) in
          let room : most ≡ length line + (most - length line) = omega (arith, lt) in
          ap (λ k. take k (line ++ piece)) room ∙ take-append-add line piece (most - length line)
          ∙ ap (λ (l : List ℕ). l ++ take (most - length l) piece) (sym all)
      | inr le ↦
          let none : most - length (take most line) ≡ 0 = omega (arith, length-take-le most line le) in
          take-append-le most line piece le ∙ sym (append-nil (take most line)) ∙ ap (λ k. take most line ++ take k piece) (sym none)
    ]

-- a piece with no line feed on
pub cuts_piece : (first left : Option (List ℕ)) (lines : List (List ℕ)) (s t : State) (n : ℕ) → s.ended ≡ false → Lacks (take n s.unread)
    → t ≡ record s { unread = drop n s.unread; pending = kept_with s.pending (take n s.unread) }
    → Cuts first left lines s → Cuts first left lines t
cuts_piece first left lines s t n going none same c =
    let c' : (taken seen : List ℕ) × Stands first left taken seen lines s = subst (λ e. CutsBy e first left lines s) going c in
    let taken = c'.0 in
    let seen = c'.1 in
    let st = c'.2 in
    let piece = take n s.unread in
    let still : t.ended ≡ false = ap (λ (x : State). x.ended) same ∙ going in
    subst (λ e. CutsBy e first left lines t) (sym still) (
      taken,
      seen ++ piece,
      subst (Stands first left taken (seen ++ piece) lines) (sym same) (record {
        consumed = st.consumed;
        count = st.count;
        cut = st.cut ∙ ap (λ (l : List ℕ). seen ++ l) (sym (take-append-drop n s.unread)) ∙ sym (append_assoc seen piece (drop n s.unread));
        given = st.given ∙ sym (ended_piece seen piece none);
        pending =
            ap (λ (p : List ℕ). kept_with p piece) st.pending ∙ sym (keep_more kept_most (unended seen) piece)
            ∙ ap (take kept_most) (sym (unended_piece seen piece none));
      }),
    )

-- a line feed on
pub cuts_feed : (first left : Option (List ℕ)) (lines : List (List ℕ)) (s t : State) (rest kept : List ℕ) → s.ended ≡ false → t.ended ≡ false
    → s.unread ≡ 10 ∷ rest → t ≡ record s { unread = rest; pending = [] } → kept ≡ s.pending
    → Cuts first left lines s → (line : List ℕ) × (kept ≡ take kept_most line) × Cuts first left (lines ++ line ∷ []) t
cuts_feed first left lines s t rest kept going still is same own c =
    let c' : (taken seen : List ℕ) × Stands first left taken seen lines s = subst (λ e. CutsBy e first left lines s) going c in
    let taken = c'.0 in
    let seen = c'.1 in
    let st = c'.2 in
    let next = lines ++ unended seen ∷ [] in (
      unended seen,
      own ∙ st.pending,
      subst (λ e. CutsBy e first left next t) (sym still) (
        taken,
        seen ++ 10 ∷ [],
        subst (Stands first left taken (seen ++ 10 ∷ []) next) (sym same) (record {
          consumed = st.consumed;
          count = st.count;
          cut = st.cut ∙ ap (λ (l : List ℕ). seen ++ l) is ∙ sym (append_assoc seen (10 ∷ []) rest);
          given = ap (λ (l : List (List ℕ)). l ++ unended seen ∷ []) st.given ∙ sym (ended_feed seen);
          pending = sym (ap (take kept_most) (unended_feed seen));
        }),
      ),
    )

-- ---- one read on

consumes_more : (first left next : Option (List ℕ)) (a b : List ℕ) → Consumes first left a → Consumes left next b → Consumes first next (a ++ b)
consumes_more None left next a b p q = tt
consumes_more (Some xs) None next a b p q = absurd p
consumes_more (Some xs) (Some ys) None a b p q = absurd q
consumes_more (Some xs) (Some ys) (Some zs) a b p q = p ∙ ap (λ l. a ++ l) q ∙ sym (append_assoc a b zs)

consumes_kept : (first left next : Option (List ℕ)) (a : List ℕ) → Consumes first left a → Keeps left next → Consumes first next a
consumes_kept None left next a p q = tt
consumes_kept (Some xs) None next a p q = absurd p
consumes_kept (Some xs) (Some ys) None a p q = absurd q
consumes_kept (Some xs) (Some ys) (Some zs) a p q = p ∙ ap (λ l. a ++ l) (sym q)

consumes_none : (first left next : Option (List ℕ)) (a buffer : List ℕ) (n : ℕ) → n ≡ 0 → Consumes first left a → Consumes left next (take n buffer) → Consumes first next a
consumes_none first left next a buffer n e p q =
    subst (λ l. Consumes first next l) (append-nil a) (consumes_more first left next a [] p (subst (λ k. Consumes left next (take k buffer)) e q))

take_both : (k n : ℕ) (xs : List ℕ) → take k (take n xs) ≡ take (min n k) xs
take_both k n xs =
    elim (cases_lt n k) [
      | inl le ↦ let m : min n k ≡ n = omega arith in
          take_all k (take n xs) (omega (arith, length-take n xs)) ∙ sym (ap (λ i. take i xs) m)
      | inr le ↦ let m : min n k ≡ k = omega arith in take-take k n xs le ∙ sym (ap (λ i. take i xs) m)
    ]

-- the first bytes within a limit, one read on
taken_more : (most : ℕ) (taken buffer : List ℕ) (n : ℕ) → length taken ≤ most → take most (taken ++ take n buffer) ≡ taken ++ take (min n (most - length taken)) buffer
taken_more most taken buffer n le =
    let e : most ≡ length taken + (most - length taken) = omega arith in
    ap (λ m. take m (taken ++ take n buffer)) e ∙ take-append-add taken (take n buffer) (most - length taken) ∙ ap (λ l. taken ++ l) (take_both (most - length taken) n buffer)

cut_more : (most : ℕ) (taken seen unread more buffer : List ℕ) (total n : ℕ) → length taken ≡ total → total ≤ most → take most taken ≡ seen ++ unread → unread ≡ [] → more ≡ take (min n (most - total)) buffer
    → take most (taken ++ take n buffer) ≡ seen ++ more
cut_more most taken seen unread more buffer total n count le cut none is =
    let all : taken ≡ seen = sym (take_all most taken (omega (arith, count))) ∙ cut ∙ ap (λ (l : List ℕ). seen ++ l) none ∙ append-nil seen in
    taken_more most taken buffer n (omega (arith, count)) ∙ ap (λ (l : List ℕ). l ++ take (min n (most - length taken)) buffer) all
    ∙ ap (λ k. seen ++ take (min n (most - k)) buffer) count ∙ ap (λ (l : List ℕ). seen ++ l) (sym is)

pub cuts_more : (first left next : Option (List ℕ)) (lines : List (List ℕ)) (s t : State) (buffer : List ℕ) (n : ℕ) → s.ended ≡ false → t.ended ≡ false → s.unread ≡ [] → s.total ≤ limit
    → n ≤ length buffer → t.total ≡ s.total + n → t.pending ≡ s.pending → t.unread ≡ take (min n (limit - s.total)) buffer → Consumes left next (take n buffer)
    → Cuts first left lines s → Cuts first next lines t
cuts_more first left next lines s t buffer n going still none le fits total pending unread got c =
    let c' : (taken seen : List ℕ) × Stands first left taken seen lines s = subst (λ e. CutsBy e first left lines s) going c in
    let taken = c'.0 in
    let seen = c'.1 in
    let st = c'.2 in
    subst (λ e. CutsBy e first next lines t) (sym still) (
      taken ++ take n buffer,
      seen,
      record {
        consumed = consumes_more first left next taken (take n buffer) st.consumed got;
        count = length-append taken (take n buffer) ∙ omega (arith, st.count, length-take-le n buffer fits, total);
        cut = cut_more limit taken seen s.unread t.unread buffer s.total n st.count le st.cut none unread;
        given = st.given;
        pending = pending ∙ st.pending;
      },
    )

-- ---- ends

-- all that was taken is cut
all_seen : (most : ℕ) (taken seen unread : List ℕ) (total : ℕ) → length taken ≡ total → total ≤ most → take most taken ≡ seen ++ unread → unread ≡ [] → seen ≡ taken
all_seen most taken seen unread total count le cut none =
    sym (append-nil seen) ∙ ap (λ (l : List ℕ). seen ++ l) (sym none) ∙ sym cut ∙ take_all most taken (omega (arith, count))

pub at_read_fault : (first left next : Option (List ℕ)) (lines : List (List ℕ)) (s : State) → s.ended ≡ false → s.unread ≡ [] → s.total ≤ limit → Keeps left next → Cuts first left lines s
    → (taken : List ℕ) × Consumes first next taken × (length taken ≤ limit) × (lines ≡ ended_lines taken)
at_read_fault first left next lines s going none le k c =
    let c' : (taken seen : List ℕ) × Stands first left taken seen lines s = subst (λ e. CutsBy e first left lines s) going c in
    let st = c'.2 in
    (c'.0, consumes_kept first left next c'.0 st.consumed k, omega (arith, st.count, le), st.given ∙ ap ended_lines (all_seen limit c'.0 c'.1 s.unread s.total st.count le st.cut none))

pub at_limit : (first left : Option (List ℕ)) (lines : List (List ℕ)) (s : State) → s.ended ≡ false → s.unread ≡ [] → limit < s.total → Cuts first left lines s
    → (taken : List ℕ) × Consumes first left taken × (limit < length taken) × (lines ≡ ended_lines (take limit taken))
at_limit first left lines s going none lt c =
    let c' : (taken seen : List ℕ) × Stands first left taken seen lines s = subst (λ e. CutsBy e first left lines s) going c in
    let st = c'.2 in
    let cut : take limit c'.0 ≡ c'.1 = st.cut ∙ ap (λ (l : List ℕ). c'.1 ++ l) none ∙ append-nil c'.1 in
    (c'.0, st.consumed, omega (arith, st.count, lt), st.given ∙ ap ended_lines (sym cut))

-- no piece of a line is left
last_none : (p : List ℕ) → length p ≡ 0 → last_line p ≡ []
last_none [] h = refl
last_none (b ∷ bs) h = absurd (omega (arith, h))

last_some : (p : List ℕ) → (length p ≡ 0 → ⊥) → last_line p ≡ p ∷ []
last_some [] h = absurd (h refl)
last_some (b ∷ bs) h = refl

kept_none : (most : ℕ) (p kept : List ℕ) → 0 < most → kept ≡ take most p → length kept ≡ 0 → length p ≡ 0
kept_none most p kept some is none = omega (arith, ap (λ (l : List ℕ). length l) is, length-take most p, none, some)

pub at_end : (first left : Option (List ℕ)) (lines : List (List ℕ)) (s : State) → s.ended ≡ false → s.unread ≡ [] → s.total ≤ limit → length s.pending ≡ 0 → IsAtEnd left → Cuts first left lines s
    → (taken : List ℕ) × Ended first left taken lines
at_end first left lines s going none le empty end c =
    let c' : (taken seen : List ℕ) × Stands first left taken seen lines s = subst (λ e. CutsBy e first left lines s) going c in
    let st = c'.2 in
    let all : c'.1 ≡ c'.0 = all_seen limit c'.0 c'.1 s.unread s.total st.count le st.cut none in
    let no_line : last_line (unended c'.1) ≡ [] = last_none (unended c'.1) (kept_none kept_most (unended c'.1) s.pending (omega arith) st.pending empty) in (
      c'.0,
      record {
        consumed = st.consumed;
        end = end;
        count = omega (arith, st.count, le);
        given = st.given ∙ sym (append-nil (ended_lines c'.1)) ∙ ap (λ (l : List (List ℕ)). ended_lines c'.1 ++ l) (sym no_line) ∙ ap lines_of all;
      },
    )

pub at_last : (first left : Option (List ℕ)) (lines : List (List ℕ)) (s t : State) (kept : List ℕ) → s.ended ≡ false → t.ended ≡ true → s.unread ≡ [] → s.total ≤ limit → (length s.pending ≡ 0 → ⊥) → kept ≡ s.pending → IsAtEnd left
    → Cuts first left lines s → (line : List ℕ) × (kept ≡ take kept_most line) × Cuts first left (lines ++ line ∷ []) t
at_last first left lines s t kept going over none le some own end c =
    let c' : (taken seen : List ℕ) × Stands first left taken seen lines s = subst (λ e. CutsBy e first left lines s) going c in
    let st = c'.2 in
    let line = unended c'.1 in
    let all : c'.1 ≡ c'.0 = all_seen limit c'.0 c'.1 s.unread s.total st.count le st.cut none in
    let one : last_line line ≡ line ∷ [] = last_some line (λ e. some (omega (arith, ap (λ (l : List ℕ). length l) st.pending, length-take kept_most line, e))) in (
      line,
      own ∙ st.pending,
      subst (λ e. CutsBy e first left (lines ++ line ∷ []) t) (sym over) (
        c'.0,
        record {
          consumed = st.consumed;
          end = end;
          count = omega (arith, st.count, le);
          given = ap (λ (l : List (List ℕ)). l ++ line ∷ []) st.given ∙ ap (λ (l : List (List ℕ)). ended_lines c'.1 ++ l) (sym one) ∙ ap lines_of all;
        },
      ),
    )

lines_more : (bs more : List ℕ) → (rest : List (List ℕ)) × (ended_lines (bs ++ more) ≡ ended_lines bs ++ rest)
lines_more bs [] = ([], ap ended_lines (append-nil bs) ∙ sym (append-nil (ended_lines bs)))
lines_more bs (b ∷ more) =
    let on = lines_more (bs ++ b ∷ []) more in
    let all : ended_lines (bs ++ b ∷ more) ≡ ended_lines (bs ++ b ∷ []) ++ on.0 = ap ended_lines (sym (append_assoc bs (b ∷ []) more)) ∙ on.1 in
    elim (eqb_tells b 10) [
      | inl e ↦ (
        unended bs ∷ on.0,
        all ∙ ap (λ k. ended_lines (bs ++ k ∷ []) ++ on.0) e.1 ∙ ap (λ (l : List (List ℕ)). l ++ on.0) (ended_feed bs) ∙ append_assoc (ended_lines bs) (unended bs ∷ []) on.0,
      )
      | inr e ↦ (on.0, all ∙ ap (λ (l : List (List ℕ)). l ++ on.0) (ended_other bs b e.0))
    ]

heard_by : (e : Bool) (first left : Option (List ℕ)) (lines : List (List ℕ)) (s : State) → CutsBy e first left lines s → Heard first left lines
heard_by true first left lines s (taken, en) =
    (taken, [], en.consumed, inr (en.end, en.count, append-nil lines ∙ en.given))
heard_by false first left lines s (taken, seen, st) =
    let on = lines_more seen s.unread in
    (taken, on.0, st.consumed, inl (ap (λ (l : List (List ℕ)). l ++ on.0) st.given ∙ sym on.1 ∙ ap ended_lines (sym st.cut)))

-- what was given so far is covered
pub heard_of : (first left : Option (List ℕ)) (lines : List (List ℕ)) (s : State) → Cuts first left lines s → Heard first left lines
heard_of first left lines s c = heard_by s.ended first left lines s c

-- ---- as the code has them

-- a piece, its line feed and the line in hand given
pub fed : (first left : Option (List ℕ)) (lines : List (List ℕ)) (s a b t : State) (n : ℕ) (kept : List ℕ) → s.ended ≡ false → n < length s.unread
    → Lacks (take n s.unread) → nat_eq (get_or s.unread n 0) 10 ≡ true
    → a ≡ record s { unread = drop n s.unread; pending = kept_with s.pending (take n s.unread) }
    → b ≡ record a { unread = drop 1 a.unread } → t ≡ record b { pending = [] } → kept ≡ b.pending
    → Cuts first left lines s → (line : List ℕ) × (kept ≡ take kept_most line) × Cuts first left (lines ++ line ∷ []) t
fed first left lines s a b t n kept going inside none feed to_a to_b to_t own c =
    let rest = drop (n + 1) s.unread in
    let is_feed : get_or s.unread n 0 ≡ 10 = eqb-true _ _ feed in
    let is : a.unread ≡ 10 ∷ rest = ap (λ (x : State). x.unread) to_a ∙ drop_more s.unread n 0 inside ∙ ap (λ k. k ∷ rest) is_feed in
    let still : t.ended ≡ false =
    ap (λ (x : State). x.ended) to_t ∙ ap (λ (x : State). x.ended) to_b ∙ ap (λ (x : State). x.ended) to_a ∙ going in
    let same : t ≡ record a { unread = rest; pending = [] } =
    to_t ∙ ap (λ (x : State). record x { pending = [] }) to_b ∙ ap (λ (l : List ℕ). record a { unread = drop 1 l; pending = [] }) is in
    cuts_feed first left lines a t rest kept (ap (λ (x : State). x.ended) to_a ∙ going) still is same (own ∙ ap (λ (x : State). x.pending) to_b)
    (cuts_piece first left lines s a n going none to_a c)

pub on_none : (o : Option (List ℕ)) (first left : Option (List ℕ)) (lines : List (List ℕ)) (s : State) → o ≡ None → CutsOn o first left lines s → Cuts first left lines s
on_none None first left lines s e c = c
on_none (Some x) first left lines s e c = cc

pub on_some : (o : Option (List ℕ)) (kept : List ℕ) (first left : Option (List ℕ)) (lines : List (List ℕ)) (s : State) → o ≡ Some kept → CutsOn o first left lines s
    → (line : List ℕ) × (kept ≡ take kept_most line) × Cuts first left (lines ++ line ∷ []) s
on_some None kept first left lines s e c = cc
on_some (Some x) kept first left lines s e c = let same : x ≡ kept = cc in (c.0, sym same ∙ c.1, c.2)

pub over : (first left : Option (List ℕ)) (lines : List (List ℕ)) (s : State) → s.ended ≡ true → Cuts first left lines s → (taken : List ℕ) × Ended first left taken lines
over first left lines s e c = subst (λ b. CutsBy b first left lines s) e c
