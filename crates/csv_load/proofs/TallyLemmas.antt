-- Counts of texts: kept column by column, they are those of each column's texts.
use Rattle.std.proofs.Common.{◌≡◌, ◌≤◌, ◌<◌, ◌+◌, ◌-◌, ◌^◌, min, ℕ, zero, suc, List, [], ◌∷◌, length, map, Bool, true, false, Option, Some, None, refl, sym, ◌∙◌, ap, arith, add-zero, zero-add}
use Rattle.std.specs.Prelude.{cond, if◌then◌else◌, fold, replicate, unwrap_or, option_map, is_some, slice_get, filter, filter_map, count_by, ◌&&◌}
use Rattle.std.specs.List.{enumerate_from, range_with_len, list_all, cons_option}
use Rattle.std.proofs.lemmas.List.Sums.{sum_by-cons, count_by-le-length}
use Rattle.value_types.specs.declared.value.ColumnType.{ColumnType}
use Rattle.value_types.specs.declared.value.ColumnType.TheVariants as kind
use Rattle.csv_load.specs.declared.guess.Tally.{Tally}
use Rattle.csv_load.specs.Ends.{stripped}
use Rattle.csv_load.specs.Guess.{is_readable, is_filled, column_texts, declared, guess, guess_by, kind_of}
use Rattle.csv_load.specs.Tallies.{no_texts, more_if, with_text, with_field, with_record, guess_of, all_declared, tallies_of}

-- the last value of u64
abbrev last : ℕ
last = 2 ^ 64 - 1

-- the counts with those of further texts
abbrev pub with_texts : Tally → List (List ℕ) → Tally
with_texts t texts = record {
  filled = min (t.filled + length texts) last;
  ints = min (t.ints + count_by (is_readable kind.Int) texts) last;
  fixeds = min (t.fixeds + count_by (is_readable kind.Fixed) texts) last;
  truths = min (t.truths + count_by (is_readable kind.Bool) texts) last;
}

pub record Within (t : Tally) : Type 0 where
  pub filled : t.filled ≤ last
  pub ints : t.ints ≤ last
  pub fixeds : t.fixeds ≤ last
  pub truths : t.truths ≤ last

tally_eq : (s t : Tally) → s.filled ≡ t.filled → s.ints ≡ t.ints → s.fixeds ≡ t.fixeds → s.truths ≡ t.truths → s ≡ t
tally_eq s t a b c d = λ i. record { filled = a i; ints = b i; fixeds = c i; truths = d i }

no_more : (n : ℕ) → n ≤ last → n ≡ min (n + 0) last
no_more n h = omega arith

one_more : (n m : ℕ) → min (min (n + 1) last + m) last ≡ min (n + suc m) last
one_more n m = omega arith

count_by_bool : (b : Bool) (n m : ℕ) → min (more_if b n + m) last ≡ min (n + (cond b 1 0 + m)) last
count_by_bool true n m = omega arith
count_by_bool false n m = omega arith

count_more : (p : List ℕ → Bool) (n : ℕ) (text : List ℕ) (texts : List (List ℕ)) →
    min (more_if (p text) n + count_by p texts) last ≡ min (n + count_by p (text ∷ texts)) last
count_more p n text texts =
    count_by_bool (p text) n (count_by p texts)
    ∙ ap (λ m. min (n + m) last) (sym (sum_by-cons (λ x. cond (p x) 1 0) text texts))

more_within : (b : Bool) (n : ℕ) → more_if b n ≤ last
more_within b n = omega arith

with_nothing : (t : Tally) → Within t → t ≡ with_texts t []
with_nothing t w = tally_eq t (with_texts t []) (no_more _ w.filled) (no_more _ w.ints) (no_more _ w.fixeds) (no_more _ w.truths)

text_within : (t : Tally) (b : ℕ) (bs : List ℕ) → Within (with_text t (b ∷ bs))
text_within t b bs = record { filled = omega arith; ints = more_within _ _; fixeds = more_within _ _; truths = more_within _ _ }

with_one : (t : Tally) (b : ℕ) (bs : List ℕ) (texts : List (List ℕ)) → with_texts (with_text t (b ∷ bs)) texts ≡ with_texts t ((b ∷ bs) ∷ texts)
with_one t b bs texts =
    tally_eq (with_texts (with_text t (b ∷ bs)) texts) (with_texts t ((b ∷ bs) ∷ texts)) (one_more t.filled (length texts))
    (count_more (is_readable kind.Int) t.ints (b ∷ bs) texts)
    (count_more (is_readable kind.Fixed) t.fixeds (b ∷ bs) texts)
    (count_more (is_readable kind.Bool) t.truths (b ∷ bs) texts)

-- one text or field more, before further texts
text_counted : (text : List ℕ) (t : Tally) (texts : List (List ℕ)) (k : Tally → Tally) → Within t →
    ((s : Tally) → Within s → k s ≡ with_texts s (filter is_filled texts)) → k (with_text t text) ≡ with_texts t (filter is_filled (text ∷ texts))
text_counted [] t texts k w rest = rest t w
text_counted (b ∷ bs) t texts k w rest = rest (with_text t (b ∷ bs)) (text_within t b bs) ∙ with_one t b bs (filter is_filled texts)

field_counted : (field : Option (List ℕ)) (t : Tally) (texts : List (List ℕ)) (k : Tally → Tally) → Within t →
    ((s : Tally) → Within s → k s ≡ with_texts s (filter is_filled texts)) →
    k (with_field t field) ≡ with_texts t (filter is_filled (cons_option (option_map stripped field) texts))
field_counted None t texts k w rest = rest t w
field_counted (Some field) t texts k w rest = text_counted (stripped field) t texts k w rest

-- the counts of one column, record by record
column_counted : (j : ℕ) (records : List (List (List ℕ))) (t : Tally) → Within t →
    fold (λ s r. with_field s (slice_get r j)) t records ≡ with_texts t (column_texts j records)
column_counted j [] t w = with_nothing t w
column_counted j (r ∷ rs) t w =
    field_counted (slice_get r j) t (filter_map (λ q. option_map stripped (slice_get q j)) rs)
    (λ s. fold (λ u q. with_field u (slice_get q j)) s rs) w (column_counted j rs)

-- a column has at most a text for each record
some_text : (field : Option (List ℕ)) (texts : List (List ℕ)) (n : ℕ) → length (filter is_filled texts) ≤ n →
    length (filter is_filled (cons_option (option_map stripped field) texts)) ≤ suc n
some_text None texts n h = omega arith
some_text (Some field) texts n h = by_text (stripped field)
  where
    by_text : (text : List ℕ) → length (filter is_filled (text ∷ texts)) ≤ suc n
    by_text [] = omega arith
    by_text (b ∷ bs) = omega (arith, h)

column_short : (j : ℕ) (records : List (List (List ℕ))) → length (column_texts j records) ≤ length records
column_short j [] = omega arith
column_short j (r ∷ rs) = some_text (slice_get r j) (filter_map (λ q. option_map stripped (slice_get q j)) rs) (length rs) (column_short j rs)

-- counts from nothing on are those of the texts, where they fit
fits : (n : ℕ) → n ≤ last → min (0 + n) last ≡ n
fits n h = omega arith

guess_counted : (texts : List (List ℕ)) → length texts ≤ last → guess_of (with_texts no_texts texts) ≡ guess texts
guess_counted texts few =
    let count = λ (p : List ℕ → Bool). fits (count_by p texts) (omega (arith, count_by-le-length p texts)) in
    rw (fits (length texts) few, count (is_readable kind.Int), count (is_readable kind.Fixed), count (is_readable kind.Bool)) refl

column_guessed : (j : ℕ) (records : List (List (List ℕ))) → length records < 2 ^ 64 →
    guess_of (fold (λ s r. with_field s (slice_get r j)) no_texts records) ≡ guess (column_texts j records)
column_guessed j records few =
    let short = column_short j records in
    ap guess_of (column_counted j records no_texts (record { filled = omega arith; ints = omega arith; fixeds = omega arith; truths = omega arith }))
    ∙ guess_counted (column_texts j records) (omega arith)

-- all columns at once are each for itself
abbrev each : ℕ → List Tally → List (List ℕ) → List Tally
each n ts fields = map (λ p. with_field p.1 (slice_get fields p.0)) (enumerate_from n ts)

first_apart : (n : ℕ) (t : Tally) (ts : List Tally) (records : List (List (List ℕ))) →
    fold (each n) (t ∷ ts) records ≡ fold (λ s r. with_field s (slice_get r n)) t records ∷ fold (each (n + 1)) ts records
first_apart n t ts [] = refl
first_apart n t ts (r ∷ rs) = first_apart n (with_field t (slice_get r n)) (each (n + 1) ts r) rs

none_apart : (n : ℕ) (records : List (List (List ℕ))) → fold (each n) [] records ≡ []
none_apart n [] = refl
none_apart n (r ∷ rs) = none_apart n rs

module _ (types : List (Option ColumnType)) (records : List (List (List ℕ))) (few : length records < 2 ^ 64) where
  abbrev kinds_from : ℕ → List Tally → List ColumnType
  kinds_from n ts = map (λ p. unwrap_or (declared types p.0) (guess_of p.1)) (enumerate_from n ts)

  all_counted : (n width : ℕ) → kinds_from n (fold (each n) (replicate width no_texts) records) ≡ map (kind_of types records) (range_with_len n width)
  all_counted n zero = rw (none_apart n records) refl
  all_counted n (suc width) =
      rw (first_apart n no_texts (replicate width no_texts) records, column_guessed n records few, all_counted (n + 1) width) refl

  known : (n width : ℕ) → list_all (λ j. is_some (declared types j)) (range_with_len n width) ≡ true →
      kinds_from n (replicate width no_texts) ≡ map (kind_of types records) (range_with_len n width)
  known n zero h = refl
  known n (suc width) h = by (declared types n) refl (known (n + 1) width)
    where
      by : (o : Option ColumnType) → declared types n ≡ o →
          (list_all (λ j. is_some (declared types j)) (range_with_len (n + 1) width) ≡ true → kinds_from (n + 1) (replicate width no_texts) ≡ map (kind_of types records) (range_with_len (n + 1) width)) →
          kinds_from n (no_texts ∷ replicate width no_texts) ≡ map (kind_of types records) (n ∷ range_with_len (n + 1) width)
      by None e rest = cc (rw e at h)
      by (Some k) e rest = rw e (ap (λ ks. k ∷ ks) (rest (rw e at h)))

  pub kinds_are : (width : ℕ) → kinds_from 0 (tallies_of types width records) ≡ map (kind_of types records) (range_with_len 0 width)
  kinds_are width = by (all_declared types width) refl
    where
      by : (b : Bool) → all_declared types width ≡ b → kinds_from 0 (tallies_of types width records) ≡ map (kind_of types records) (range_with_len 0 width)
      by true e = rw e (known 0 width e)
      by false e = rw e (all_counted 0 width)
