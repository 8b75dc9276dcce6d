-- What one token ahead decides: a text has one derivation, and a reader stops exactly at the error place.
use Rattle.std.proofs.Common.{◌≡◌, true, false, List, [], ◌∷◌, ◌++◌, Option, Some, None, refl, sym, ap, ◌∙◌, subst, inl, inr, ⊎_elim, append_assoc, ◌⊎◌}
use Rattle.std.specs.Prelude.{◌||◌, ◌&&◌}
use Rattle.ll1_grammar.specs.declared.symbol.Symbol.{Symbol}
use Rattle.ll1_grammar.specs.declared.symbol.Symbol.TheVariants.{Nonterminal, Action}
use Rattle.ll1_grammar.specs.declared.symbol.Step.{Step}
use Rattle.ll1_grammar.specs.declared.symbol.Step.TheVariants.{Took, Did}
use Rattle.ll1_grammar.specs.Grammar.{Grammar, Derives, ends, acts, takes, expands, IsUnambiguous}
use Rattle.ll1_grammar.specs.Places.{BeginsSentence, NoSentenceGoesOn}
use Rattle.ll1_grammar.specs.Reader.{look, chosen, Stops, past, stuck, skips, reads, moves}
use Rattle.ll1_grammar.specs.Ahead.{Lookahead, begins, vanishes, IsFollowed, IsLL1, IsProductive}
use Rattle.ll1_grammar.proofs.Booleans.{or_left, or_right, or_cases, and_both, and_left, and_right, no_both}

module _ {N T A : Type 0} (g : Grammar N T A) (k : Lookahead N T) (ll : IsLL1 g k) where
  -- ---- a list of symbols that is joined

  begins_joined : (r s : List (Symbol N A)) (t : T) → begins k (r ++ s) t ≡ true → (begins k r t ≡ true) ⊎ ((vanishes k r ≡ true) × (begins k s t ≡ true))
  begins_joined [] s t e = inr (refl, e)
  begins_joined (Action a ∷ r) s t e = begins_joined r s t e
  begins_joined (Nonterminal n ∷ r) s t e =
      ⊎_elim
      (λ f. inl (or_left (k.first n t) (k.nullable n && begins k r t) f))
      (λ f. ⊎_elim
      (λ h. inl (or_right (k.first n t) (k.nullable n && begins k r t) (and_both (k.nullable n) (begins k r t) (and_left (k.nullable n) _ f) h)))
      (λ h. inr (and_both (k.nullable n) (vanishes k r) (and_left (k.nullable n) _ f) h.0, h.1))
      (begins_joined r s t (and_right (k.nullable n) _ f)))
      (or_cases (k.first n t) (k.nullable n && begins k (r ++ s) t) e)

  abbrev pub BeginsWith : List (Symbol N A) → List T → Type 0
  BeginsWith s [] = Unit {0}
  BeginsWith s (t ∷ w) = begins k s t ≡ true

  past_action : (a : A) (s : List (Symbol N A)) (w : List T) → BeginsWith s w → BeginsWith (Action a ∷ s) w
  past_action a s [] h = tt
  past_action a s (t ∷ w) h = h

  past_other : (n : N) (r s : List (Symbol N A)) (w : List T) → g.otherwise n ≡ Some r → BeginsWith (r ++ s) w → BeginsWith (Nonterminal n ∷ s) w
  past_other n r s [] e h = tt
  past_other n r s (t ∷ w) e h =
      ⊎_elim
      (λ f. or_left (k.first n t) _ (ll.first_otherwise n t r e f))
      (λ f. or_right (k.first n t) _ (and_both (k.nullable n) (begins k s t) (ll.nullable_otherwise n r e f.0) f.1))
      (begins_joined r s t h)

  pub first_word : {s : List (Symbol N A)} {w : List T} {m : List (Step T A)} → Derives g s w m → BeginsWith s w
  first_word ends = tt
  first_word (acts {a = a} {s = s} {w = w} d) = past_action a s w (first_word d)
  first_word (takes {n = n} {t = t} {r = r} e d) = or_left (k.first n t) _ (ll.first_after n t r e)
  first_word (expands {n = n} {r = r} {s = s} {w = w} e d) = past_other n r s w e (first_word d)

  -- ---- what may follow

  abbrev Follows : N → List (Symbol N A) → Type 0
  Follows n s = (t : T) → begins k s t ≡ true → k.follow n t ≡ true

  abbrev pub Good : List (Symbol N A) → Type 0
  Good [] = Unit {0}
  Good (Action a ∷ s) = Good s
  Good (Nonterminal n ∷ s) = Follows n s × Good s

  good_joined : (n : N) (r s : List (Symbol N A)) → IsFollowed k n r → Follows n s → Good s → Good (r ++ s)
  good_joined n [] s c f h = h
  good_joined n (Action a ∷ r) s c f h = good_joined n r s c f h
  good_joined n (Nonterminal m ∷ r) s c f h = (
    (λ t e. c.0 t (⊎_elim
        (λ b. or_left (begins k r t) _ b)
        (λ b. or_right (begins k r t) _ (and_both (vanishes k r) (k.follow n t) b.0 (f t b.1)))
        (begins_joined r s t e))),
    good_joined n r s c.1 f h,
  )

  pub good_after : (n : N) (t : T) (r s : List (Symbol N A)) → g.after n t ≡ Some r → Good (Nonterminal n ∷ s) → Good (r ++ s)
  good_after n t r s e h = good_joined n r s (ll.followed_after n t r e) h.0 h.1

  pub good_other : (n : N) (r s : List (Symbol N A)) → g.otherwise n ≡ Some r → Good (Nonterminal n ∷ s) → Good (r ++ s)
  good_other n r s e h = good_joined n r s (ll.followed_otherwise n r e) h.0 h.1

  pub clash : (n : N) (t : T) (r d s : List (Symbol N A)) → g.after n t ≡ Some r → g.otherwise n ≡ Some d → Good (Nonterminal n ∷ s) → begins k (d ++ s) t ≡ true → ⊥
  clash n t r d s e f h b =
      no_both (begins k d t || (vanishes k d && k.follow n t))
      (⊎_elim
      (λ x. or_left (begins k d t) _ x)
      (λ x. or_right (begins k d t) _ (and_both (vanishes k d) (k.follow n t) x.0 (h.0 t x.1)))
      (begins_joined d s t b))
      (ll.apart n t r d e f)

-- ---- how a derivation begins

pub data ByPart {N T A : Type 0} (g : Grammar N T A) (n : N) (s : List (Symbol N A)) (w : List T) (m : List (Step T A)) : Type 0 where
  by_token : (t : T) (v : List T) (r : List (Symbol N A)) → (m' : List (Step T A)) → w ≡ t ∷ v → m ≡ Took t ∷ m' → g.after n t ≡ Some r → Derives g (r ++ s) v m' → ByPart g n s w m
  by_other : (r : List (Symbol N A)) → g.otherwise n ≡ Some r → Derives g (r ++ s) w m → ByPart g n s w m

pub by_part : {N T A : Type 0} {g : Grammar N T A} {n : N} {s : List (Symbol N A)} {w : List T} {m : List (Step T A)} → Derives g (Nonterminal n ∷ s) w m → ByPart g n s w m
by_part (takes {t = t} {r = r} {w = w} {steps = m} e d) = by_token t w r m refl refl e d
by_part (expands {r = r} e d) = by_other r e d

pub by_act : {N T A : Type 0} {g : Grammar N T A} {a : A} {s : List (Symbol N A)} {w : List T} {m : List (Step T A)} → Derives g (Action a ∷ s) w m → (m' : List (Step T A)) × (m ≡ Did a ∷ m') × Derives g s w m'
by_act (acts {steps = steps} d) = (steps, refl, d)

pub by_end : {N T A : Type 0} {g : Grammar N T A} {w : List T} {m : List (Step T A)} → Derives g [] w m → (w ≡ []) × (m ≡ [])
by_end ends = (refl, refl)

-- ---- where the machine stops

abbrev rest_of : {T : Type 0} → Option T → List T → List T
rest_of None v = []
rest_of (Some t) v = t ∷ v

look_head : {T : Type 0} (u : List T) (o : Option T) (v w : List T) (t : T) → u ++ rest_of o v ≡ t ∷ w → look u o ≡ Some t
look_head [] None v w t e = cc
look_head [] (Some x) v w t e = cc
look_head (x ∷ u) o v w t e = cc

module _ {N T A : Type 0} (g : Grammar N T A) (k : Lookahead N T) (ll : IsLL1 g k) where
  not_chosen : (n : N) (o : Option T) (t : T) (r : List (Symbol N A)) → chosen g n o ≡ None → o ≡ Some t → g.after n t ≡ Some r → ⊥
  not_chosen n None t r c e f = cc
  not_chosen n (Some x) t r c e f = cc

  refuses : {s : List (Symbol N A)} {u : List T} {o : Option T} → Stops g s u o → Good g k ll s → (v : List T) (m : List (Step T A)) → Derives g s (u ++ rest_of o v) m → ⊥
  refuses (past {t = t}) h v m d = let e = (by_end d).0 in cc
  refuses (stuck {n = n} {s = s} {o = o} c f) h v m d = elim (by_part d) [
    | by_token t w r m' e em a d' ↦ not_chosen n o t r c (look_head [] o v w t e) a
    | by_other r a d' ↦ cc
  ]
  refuses (skips st) h v m d = let i = by_act d in refuses st h v i.0 i.2
  refuses (reads {n = n} {t = t} {r = r} {s = s} {u = u} {o = o} e st) h v m d = elim (by_part d) [
    | by_token t' w r' m' e' em a d' ↦
        let same_t : t' ≡ t = cc in
        let same_w : w ≡ u ++ rest_of o v = cc in
        let a' : g.after n t ≡ Some r' = subst (λ x. g.after n x ≡ Some r') same_t a in
        let same_r : r' ≡ r = cc in
        refuses st (good_after g k ll n t r s e h) v m' (subst (λ x. Derives g (x ++ s) (u ++ rest_of o v) m') same_r (subst (λ x. Derives g (r' ++ s) x m') same_w d'))
    | by_other r' a d' ↦ clash g k ll n t r r' s e a h (first_word g k ll d')
  ]
  refuses (moves {n = n} {r = r} {s = s} {u = u} {o = o} c e st) h v m d = elim (by_part d) [
    | by_token t w r' m' e' em a d' ↦ not_chosen n (look u o) t r' c (look_head u o v w t e') a
    | by_other r' a d' ↦
        let same_r : r' ≡ r = cc in
        refuses st (good_other g k ll n r s e h) v m (subst (λ x. Derives g (x ++ s) (u ++ rest_of o v) m) same_r d')
  ]

  unique : {s : List (Symbol N A)} {w : List T} {a : List (Step T A)} → Derives g s w a → Good g k ll s → (b : List (Step T A)) → Derives g s w b → a ≡ b
  unique ends h b d = sym (by_end d).1
  unique (acts {a = x} p) h b d = let i = by_act d in ap (λ l. Did x ∷ l) (unique p h i.0 i.2) ∙ sym i.1
  unique (takes {n = n} {t = t} {r = r} {s = s} {w = w} e p) h b d = elim (by_part d) [
    | by_token t' w' r' m' e' em a d' ↦
        let same_t : t' ≡ t = cc in
        let same_w : w' ≡ w = cc in
        let a' : g.after n t ≡ Some r' = subst (λ x. g.after n x ≡ Some r') same_t a in
        let same_r : r' ≡ r = cc in
        let tail = unique p (good_after g k ll n t r s e h) m' (subst (λ x. Derives g (x ++ s) w m') same_r (subst (λ x. Derives g (r' ++ s) x m') same_w d')) in
        cc
    | by_other r' a d' ↦ absurd (clash g k ll n t r r' s e a h (first_word g k ll d'))
  ]
  unique (expands {n = n} {r = r} {s = s} {w = w} e p) h b d = elim (by_part d) [
    | by_token t w' r' m' e' em a d' ↦ absurd (clash g k ll n t r' r s a e h (first_at t w' w e' (first_word g k ll p)))
    | by_other r' a d' ↦
        let same_r : r' ≡ r = cc in
        unique p (good_other g k ll n r s e h) b (subst (λ x. Derives g (x ++ s) w b) same_r d')
  ]
    where
      first_at : (t : T) (w' w : List T) → w ≡ t ∷ w' → BeginsWith g k ll (r ++ s) w → begins k (r ++ s) t ≡ true
      first_at t w' w e b = let P : List T → Type 0 = BeginsWith g k ll (r ++ s) in subst P e b

-- ---- some sentence goes on

moved : {N T A : Type 0} {g : Grammar N T A} {a b : List (Symbol N A)} {w : List T} {m : List (Step T A)} → a ≡ b → Derives g a w m → Derives g b w m
moved {g = g} {w = w} {m = m} e d = subst (λ x. Derives g x w m) e d

join : {N T A : Type 0} {g : Grammar N T A} {a b : List (Symbol N A)} {w v : List T} {m l : List (Step T A)} → Derives g a w m → Derives g b v l → Derives g (a ++ b) (w ++ v) (m ++ l)
join ends q = q
join (acts p) q = acts (join p q)
join {b = b} (takes {r = r} {s = s} e p) q = takes e (moved (append_assoc r s b) (join p q))
join {b = b} (expands {r = r} {s = s} e p) q = expands e (moved (append_assoc r s b) (join p q))

module _ {N T A : Type 0} (g : Grammar N T A) (p : IsProductive g) where
  pub any : (s : List (Symbol N A)) → (v : List T) × (m : List (Step T A)) × Derives g s v m
  any [] = ([], [], ends)
  any (Action a ∷ s) = let i = any s in (i.0, Did a ∷ i.1, acts i.2)
  any (Nonterminal n ∷ s) = let i = any s in (p.word n ++ i.0, p.path n ++ i.1, join (p.has n) i.2)

  goes_on : {s : List (Symbol N A)} {u : List T} {o : Option T} → Stops g s u o → BeginsSentence g s u
  goes_on past = ([], [], ends)
  goes_on (stuck {n = n} {s = s} c f) = any (Nonterminal n ∷ s)
  goes_on (skips {a = a} st) = let i = goes_on st in (i.0, Did a ∷ i.1, acts i.2)
  goes_on (reads {t = t} e st) = let i = goes_on st in (i.0, Took t ∷ i.1, takes e i.2)
  goes_on (moves c e st) = let i = goes_on st in (i.0, i.1, expands e i.2)

append_nil : {T : Type 0} (u : List T) → u ++ [] ≡ u
append_nil [] = refl
append_nil (t ∷ u) = ap (λ l. t ∷ l) (append_nil u)

module _ {N T A : Type 0} (g : Grammar N T A) (k : Lookahead N T) (ll : IsLL1 g k) where
  not_going_on : (s : List (Symbol N A)) (u : List T) (o : Option T) → Stops g s u o → Good g k ll s → NoSentenceGoesOn g s u o
  not_going_on s u None st h = λ m d. refuses g k ll st h [] m (subst (λ w. Derives g s w m) (sym (append_nil u)) d)
  not_going_on s u (Some t) st h = λ v m d. refuses g k ll st h v m d

  pub alone : (n : N) → Good g k ll (Nonterminal n ∷ [])
  alone n = ((λ t e. absurd (no_both false e refl)), tt)

  pub place_is_exact : IsProductive g → (n : N) → (u : List T) (o : Option T) → Stops g (Nonterminal n ∷ []) u o → BeginsSentence g (Nonterminal n ∷ []) u × NoSentenceGoesOn g (Nonterminal n ∷ []) u o
  place_is_exact p n u o st = (goes_on g p st, not_going_on _ u o st (alone n))

  pub is_unambiguous : (n : N) → IsUnambiguous g n
  is_unambiguous n w a b p q = unique g k ll p (alone n) b q
