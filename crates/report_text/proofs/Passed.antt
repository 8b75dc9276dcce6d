-- Texts that go to a sink by way of words, one after another.
use Rattle.std.proofs.Common.{◌≡◌, ◌<◌, ◌+◌, ◌++◌, [], ◌∷◌, ℕ, List, refl, ap, sym, ◌∙◌, subst, append_assoc, append-nil, Option, Result, Ok, Err, length, get_or, drop, add-one, drop-cons}
use Rattle.std.specs.List.{flat_map}
use Rattle.std.specs.Io.KnownBytes.{Appends}
use Rattle.outside_io.specs.Texts.{AppendsFront, WritesText}
use Rattle.outside_io.proofs.Appended.{appends_none, appends_more, front_of_more}
use Rattle.report_text.specs.Passing.{Sent, Passes}

-- nothing is written, and all is held
pub sent_none : (old : Option (List ℕ)) (text : List ℕ) → Sent old old text text
sent_none old text = record { front = []; is = refl; went = appends_none old }

-- all is written, and nothing is held
pub sent_all : (old new : Option (List ℕ)) (text : List ℕ) → Appends old new text → Sent old new text []
sent_all old new text went = record { front = text; is = sym (append-nil text); went = went }

-- more is held
pub sent_held : (old new : Option (List ℕ)) (text held more : List ℕ) → Sent old new text held → Sent old new (text ++ more) (held ++ more)
sent_held old new text held more s = record {
  front = s.front;
  is = ap (λ (l : List ℕ). l ++ more) s.is ∙ append_assoc s.front held more;
  went = s.went;
}

-- what was held is sent in turn
pub sent_more : (old mid new : Option (List ℕ)) (text held now : List ℕ) → Sent old mid text held → Sent mid new held now → Sent old new text now
sent_more old mid new text held now s t = record {
  front = s.front ++ t.front;
  is = s.is ∙ ap (λ (l : List ℕ). s.front ++ l) t.is ∙ sym (append_assoc s.front t.front now);
  went = appends_more old mid new s.front t.front s.went t.went;
}

-- what was held is sent in part, and a fault comes
pub front_later : (old mid new : Option (List ℕ)) (text held : List ℕ) → Sent old mid text held → AppendsFront mid new held → AppendsFront old new text
front_later old mid new text held s (front, rest, is, went) = (
  s.front ++ front,
  rest,
  s.is ∙ ap (λ (l : List ℕ). s.front ++ l) is ∙ sym (append_assoc s.front front rest),
  appends_more old mid new s.front front s.went went,
)

-- what was sent is some first bytes of the text
pub front_sent : (old new : Option (List ℕ)) (text held : List ℕ) → Sent old new text held → AppendsFront old new text
front_sent old new text held s = (s.front, held, s.is, s.went)

-- a text before the rest is sent, after others
pub sent_step : (old mid new : Option (List ℕ)) (all held text rest now : List ℕ)
    → Sent old mid all (held ++ (text ++ rest)) → Sent mid new (held ++ text) now → Sent old new all (now ++ rest)
sent_step old mid new all held text rest now s t =
    sent_more old mid new all (held ++ (text ++ rest)) (now ++ rest) s
    (subst (λ (l : List ℕ). Sent mid new l (now ++ rest)) (append_assoc held text rest) (sent_held mid new (held ++ text) now rest t))

-- a fault comes in a text before the rest, after others
pub front_step : (old mid new : Option (List ℕ)) (all held text rest : List ℕ)
    → Sent old mid all (held ++ (text ++ rest)) → AppendsFront mid new (held ++ text) → AppendsFront old new all
front_step old mid new all held text rest s t =
    front_later old mid new all (held ++ (text ++ rest)) s
    (subst (λ (l : List ℕ). AppendsFront mid new l) (append_assoc held text rest) (front_of_more mid new (held ++ text) rest t))

-- the items from a place on: the one there, and those after it
pub drop_at : {A : Type 0} (xs : List A) (i : ℕ) (x : A) → i < length xs → x ≡ get_or xs i x → drop i xs ≡ x ∷ drop (i + 1) xs
drop_at xs i x inside is = rw (add-one, drop-cons xs i x, ← is) refl

-- the texts from a place on: that of the item there, and those after it
texts_from : {A : Type 0} (text : A → List ℕ) (xs : List A) (i : ℕ) (x : A)
    → i < length xs → x ≡ get_or xs i x → flat_map text (drop i xs) ≡ text x ++ flat_map text (drop (i + 1) xs)
texts_from text xs i x inside is = ap (flat_map text) (drop_at xs i x inside is)

-- an item's text is sent, after those before it
pub sent_next : {A : Type 0} (old mid new : Option (List ℕ)) (all held now : List ℕ) (text : A → List ℕ) (xs : List A) (i : ℕ) (x : A)
    → i < length xs → x ≡ get_or xs i x → Sent old mid all (held ++ flat_map text (drop i xs)) → Sent mid new (held ++ text x) now
    → Sent old new all (now ++ flat_map text (drop (i + 1) xs))
sent_next old mid new all held now text xs i x inside is s t =
    let from = texts_from text xs i x inside is in
    let so_far = subst (λ (l : List ℕ). Sent old mid all (held ++ l)) from s in
    sent_step old mid new all held (text x) (flat_map text (drop (i + 1) xs)) now so_far t

-- a fault comes in an item's text, after those before it
pub front_next : {A : Type 0} (old mid new : Option (List ℕ)) (all held : List ℕ) (text : A → List ℕ) (xs : List A) (i : ℕ) (x : A)
    → i < length xs → x ≡ get_or xs i x → Sent old mid all (held ++ flat_map text (drop i xs)) → AppendsFront mid new (held ++ text x)
    → AppendsFront old new all
front_next old mid new all held text xs i x inside is s t =
    let from = texts_from text xs i x inside is in
    let so_far = subst (λ (l : List ℕ). Sent old mid all (held ++ l)) from s in
    front_step old mid new all held (text x) (flat_map text (drop (i + 1) xs)) so_far t

-- a text is sent, and then another
pub sent_then : (old mid new : Option (List ℕ)) (held first second mid_held now : List ℕ)
    → Sent old mid (held ++ first) mid_held → Sent mid new (mid_held ++ second) now → Sent old new (held ++ (first ++ second)) now
sent_then old mid new held first second mid_held now s t =
    sent_more old mid new (held ++ (first ++ second)) (mid_held ++ second) now
    (subst (λ (l : List ℕ). Sent old mid l (mid_held ++ second)) (append_assoc held first second) (sent_held old mid (held ++ first) mid_held second s)) t

-- a text is sent, and a fault comes in the next
pub front_then : (old mid new : Option (List ℕ)) (held first second mid_held : List ℕ)
    → Sent old mid (held ++ first) mid_held → AppendsFront mid new (mid_held ++ second) → AppendsFront old new (held ++ (first ++ second))
front_then old mid new held first second mid_held s t =
    front_later old mid new (held ++ (first ++ second)) (mid_held ++ second)
    (subst (λ (l : List ℕ). Sent old mid l (mid_held ++ second)) (append_assoc held first second) (sent_held old mid (held ++ first) mid_held second s)) t

-- a fault comes before the next text
pub front_first : (old new : Option (List ℕ)) (held first second : List ℕ) → AppendsFront old new (held ++ first) → AppendsFront old new (held ++ (first ++ second))
front_first old new held first second t = subst (λ (l : List ℕ). AppendsFront old new l) (append_assoc held first second) (front_of_more old new (held ++ first) second t)

-- a text is passed on, and then another
pub passes_then : {T E : Type 0} (old mid new : Option (List ℕ)) (result : Result T E) (held first second mid_held now : List ℕ)
    → Sent old mid (held ++ first) mid_held → Passes mid new result mid_held now second → Passes old new result held now (first ++ second)
passes_then old mid new (Ok x) held first second mid_held now s t = sent_then old mid new held first second mid_held now s t
passes_then old mid new (Err e) held first second mid_held now s t = front_then old mid new held first second mid_held s t

-- a text is passed on, and all that is held then is written with another
pub written_then : {T E : Type 0} (old mid new : Option (List ℕ)) (result : Result T E) (all held last : List ℕ)
    → Sent old mid all held → WritesText mid new result (held ++ last) → WritesText old new result (all ++ last)
written_then old mid new (Ok x) all held last s t =
    let whole = sent_held old mid all held last s in
    subst (λ (l : List ℕ). Appends old new l) (sym whole.is) (appends_more old mid new whole.front (held ++ last) whole.went t)
written_then old mid new (Err e) all held last s t = front_later old mid new (all ++ last) (held ++ last) (sent_held old mid all held last s) t
