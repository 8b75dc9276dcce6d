-- The records of a text: each takes a byte at least, and how many are asked for makes no difference.
use Rattle.std.proofs.Common.{◌≡◌, ◌≤◌, ◌<◌, ◌+◌, ◌-◌, ℕ, zero, suc, List, [], ◌∷◌, ◌++◌, length, Bool, true, false, Option, Some, None, refl, sym, ◌∙◌, ap, subst, arith, add-one, inl}
use Rattle.std.specs.Prelude.{if◌then◌else◌, ◌==◌, ◌||◌, IsSome}
use Rattle.csv.specs.Machine.{Read, next_record, step, is_end, ends_at_end, in_field, start_field, start_record, fields_after, field_after}
use Rattle.csv.specs.Reading.{default_config, records_from, records_next, NextIs, ReadsNext, ReadRecord, source_of, pending_of, took_first, is_flexible, has_failed}
use Rattle.csv.specs.declared.reader.Reader.{Reader}
use Rattle.csv_load.specs.Reading.{records_in, IsNext, IsReading, left_of}
use Rattle.csv.specs.declared.parser.Config.{Config}
use Rattle.csv.specs.declared.parser.State.{State}
use Rattle.csv.specs.declared.parser.State.TheVariants as st
use Rattle.csv.specs.declared.parser.Action.{Action}
use Rattle.csv.specs.declared.parser.Action.TheVariants as act

-- what ends a record leaves a state between records
abbrev pub Between : State × Action → Type 0
Between x = is_end x.1 ≡ true → ends_at_end x.0 ≡ false

skip_or : (b : Bool) (s : State) (x : State × Action) → Between x → Between (if b then (s, act.Skip) else x)
skip_or true s x h = λ e. cc e
skip_or false s x h = h

ends_or : (comma ends return : Bool) → Between (if comma then (st.StartField, act.EndField) else if ends then ((if return then st.AfterCr else st.StartRecord), act.EndRecord) else (st.InField, act.Copy))
ends_or true ends return = λ e. cc e
ends_or false true true = λ e. refl
ends_or false true false = λ e. refl
ends_or false false return = λ e. cc e

in_field_ends : (c : ℕ) → Between (in_field default_config c)
in_field_ends c = ends_or (c == 44) ((c == 13) || (c == 10)) (c == 13)

start_field_ends : (c : ℕ) → Between (start_field default_config c)
start_field_ends c = skip_or (c == 34) st.InQuoted _ (in_field_ends c)

start_record_ends : (c : ℕ) → Between (start_record default_config c)
start_record_ends c = skip_or ((c == 13) || (c == 10)) st.StartRecord _ (start_field_ends c)

quoted_or : (b : Bool) (x : State × Action) → Between x → Between (if b then (st.InQuoted, act.Copy) else x)
quoted_or true x h = λ e. cc e
quoted_or false x h = h

in_quotes : (b : Bool) → Between (if b then (st.AfterQuote, act.Skip) else (st.InQuoted, act.Copy))
in_quotes true = λ e. cc e
in_quotes false = λ e. cc e

in_comment : (b : Bool) → Between (if b then (st.StartRecord, act.Skip) else (st.InComment, act.Skip))
in_comment true = λ e. cc e
in_comment false = λ e. cc e

step_ends : (s : State) (c : ℕ) → Between (step default_config s c)
step_ends st.StartRecord c = start_record_ends c
step_ends st.StartField c = start_field_ends c
step_ends st.InField c = in_field_ends c
step_ends st.InQuoted c = in_quotes (c == 34)
step_ends st.InEscape c = λ e. cc e
step_ends st.AfterQuote c = quoted_or (c == 34) _ (in_field_ends c)
step_ends st.InComment c = in_comment (c == 10)
step_ends st.AfterCr c = skip_or (c == 10) st.StartRecord _ (start_record_ends c)

-- what is left after a record, and the state
pub record Goes (xs : List ℕ) (p : Read) : Type 0 where
  pub shorter : length p.2 ≤ length xs - 1
  pub between : ends_at_end p.1 ≡ false

last_goes : (b : Bool) (fields : List (List ℕ)) (p : Read) → (if b then Some (fields, st.StartRecord, []) else None) ≡ Some p → Goes [] p
last_goes true fields p e =
    let q : (fields, st.StartRecord, []) ≡ p = cc e in subst (Goes []) q (record { shorter = omega arith; between = refl })
last_goes false fields p e = cc e

end_goes : (b : Bool) (fields : List (List ℕ)) (x : State × Action) (c : ℕ) (rest : List ℕ) (more : Option Read) (p : Read) → is_end x.1 ≡ b → Between x →
    (more ≡ Some p → Goes rest p) → (if b then Some (fields, x.0, rest) else more) ≡ Some p → Goes (c ∷ rest) p
end_goes true fields x c rest more p is between go e =
    let q : (fields, x.0, rest) ≡ p = cc e in subst (Goes (c ∷ rest)) q (record { shorter = omega arith; between = between is })
end_goes false fields x c rest more p is between go e =
    let g = go e in record { shorter = omega arith; between = g.between }

pub goes : (s : State) (fields : List (List ℕ)) (field xs : List ℕ) (p : Read) → next_record default_config s fields field xs ≡ Some p → Goes xs p
unfolding next_record
goes s fields field [] p e = last_goes (ends_at_end s) (fields ++ (field ∷ [])) p e
goes s fields field (c ∷ rest) p e =
    end_goes (is_end (step default_config s c).1) _ (step default_config s c) c rest _ p refl (step_ends s c)
    (goes (step default_config s c).0 _ _ rest p) e

-- between records, the end of the text is the end
nothing_left : (s : State) → ends_at_end s ≡ false → next_record default_config s [] [] [] ≡ None
unfolding next_record
nothing_left s e = rw e refl

-- two ways to go on that agree after the record that comes next
same_next : (f g : State → List ℕ → List (List (List ℕ))) (o : Option Read) → ((p : Read) → o ≡ Some p → f p.1 p.2 ≡ g p.1 p.2) → records_next f o ≡ records_next g o
same_next f g None same = refl
same_next f g (Some p) same = ap (λ rs. p.0 ∷ rs) (same p refl)

few_next : (f : State → List ℕ → List (List (List ℕ))) (n : ℕ) (o : Option Read) → ((p : Read) → o ≡ Some p → length (f p.1 p.2) ≤ n) → length (records_next f o) ≤ suc n
few_next f n None few = omega arith
few_next f n (Some p) few = let h = few p refl in omega (arith, h)

-- how many records are asked for makes no difference, where they are more than the bytes
pub same_records : (n m : ℕ) (s : State) (xs : List ℕ) → ends_at_end s ≡ false → length xs < n → length xs < m →
    records_from default_config n s xs ≡ records_from default_config m s xs
unfolding records_from
same_records zero m s xs between a b = absurd (omega arith)
same_records (suc n) zero s xs between a b = absurd (omega arith)
same_records (suc n) (suc m) s [] between a b = rw (nothing_left s between) refl
same_records (suc n) (suc m) s (c ∷ rest) between a b =
    same_next (records_from default_config n) (records_from default_config m) (next_record default_config s [] [] (c ∷ rest))
    (λ p e. let g = goes s [] [] (c ∷ rest) p e in same_records n m p.1 p.2 g.between (omega (arith, g.shorter)) (omega (arith, g.shorter)))

-- a text has no more records than bytes
pub few_records : (n : ℕ) (s : State) (xs : List ℕ) → ends_at_end s ≡ false → length (records_from default_config n s xs) ≤ length xs
unfolding records_from
few_records zero s xs between = omega arith
few_records (suc n) s [] between = rw (nothing_left s between) (omega arith)
few_records (suc n) s (c ∷ rest) between =
    few_next (records_from default_config n) (length rest) (next_record default_config s [] [] (c ∷ rest))
    (λ p e. let g = goes s [] [] (c ∷ rest) p e in let h = few_records n p.1 p.2 g.between in omega (arith, g.shorter, h))

-- what a read of a record leaves, where it found one
pub record Leaves (k : Option (List ℕ)) (s : State) : Type 0 where
  pub known : IsSome k
  pub between : ends_at_end s ≡ false

-- a record that was read, by what is left after it
found_is : (s s2 : State) (y z : List ℕ) (fields : List (List ℕ)) (p : Read) → next_record default_config s [] [] y ≡ Some p → ends_at_end s ≡ false →
    fields ≡ p.0 → s2 ≡ p.1 → z ≡ p.2 → (records_in (Some y) s ≡ fields ∷ records_in (Some z) s2) × Leaves (Some z) s2
unfolding records_from
found_is s s2 [] z fields p e between f t r = cc (e, nothing_left s between)
found_is s s2 (c ∷ y) z fields p e between f t r =
    let g = goes s [] [] (c ∷ y) p e in
    let rest : records_from default_config (length (c ∷ y)) p.1 p.2 ≡ records_from default_config (length p.2 + 1) p.1 p.2 =
    same_records (length (c ∷ y)) (length p.2 + 1) p.1 p.2 g.between (omega (arith, g.shorter)) (omega arith) in
    rw (f, t, r) (rw (add-one, e, rest) refl, record { known = refl; between = g.between })

next_is : (s s2 : State) (y z : List ℕ) (found : Bool) (fields : List (List ℕ)) (o : Option Read) → next_record default_config s [] [] y ≡ o → ends_at_end s ≡ false →
    NextIs o found fields s2 z → IsNext (records_in (Some y) s) found fields (records_in (Some z) s2) × (found ≡ true → Leaves (Some z) s2)
unfolding records_from
next_is s s2 y z true fields None e between h = cc h
next_is s s2 y z false fields None e between h = (rw (add-one, e) refl, λ t. cc t)
next_is s s2 y z true fields (Some p) e between h =
    let d = found_is s s2 y z fields p e between h.1 h.2 h.3 in (d.0, λ t. d.1)
next_is s s2 y z false fields (Some p) e between h = cc h.0

pub read_is_next : (s s2 : State) (y : List ℕ) (k : Option (List ℕ)) (found : Bool) (fields : List (List ℕ)) → ends_at_end s ≡ false →
    ReadsNext default_config s (Some y) k found fields s2 → IsNext (records_in (Some y) s) found fields (records_in k s2) × (found ≡ true → Leaves k s2)
read_is_next s s2 y None found fields between h = absurd h
read_is_next s s2 y (Some z) found fields between h = next_is s s2 y z found fields _ refl between h

-- what a reader has left after a read
pub read_on : {R : Type 0} (rem : R → Option (List ℕ)) (old new : Reader R) (found : Bool) (fields : List (List ℕ)) → IsReading rem old →
    ReadRecord rem old new found fields → took_first new ≡ true → is_flexible new ≡ is_flexible old → has_failed new ≡ has_failed old →
    IsNext (left_of rem old) found fields (left_of rem new) × (found ≡ true → IsReading rem new)
read_on rem old new found fields was r took flexible goes_on = by_source (source_of rem old) refl was.known
  where
    by_source : (o : Option (List ℕ)) → source_of rem old ≡ o → IsSome o → IsNext (left_of rem old) found fields (left_of rem new) × (found ≡ true → IsReading rem new)
    by_source None e known = cc known
    by_source (Some y) e known =
        let same : source_of rem new ≡ pending_of (rem new.rdr) new = rw r.1 refl in
        let h = read_is_next old.state new.state y (pending_of (rem new.rdr) new) found fields was.between (rw (was.config, e) at r.0) in
        rw (e, same) (
          h.0,
          λ t. record {
            config = r.2 ∙ was.config;
            trim = r.3 ∙ was.trim;
            flexible = flexible ∙ was.flexible;
            ready = inl took;
            working = goes_on ∙ was.working;
            between = (h.1 t).between;
            known = rw same (h.1 t).known;
          },
        )
