-- The steps up to a token depend on the tokens up to there alone.
use Rattle.std.proofs.Common.{◌≡◌, List, [], ◌∷◌, ◌++◌, Some, refl, sym, ap, ◌∙◌, subst, true}
use Rattle.ll1_grammar.specs.declared.symbol.Symbol.{Symbol}
use Rattle.ll1_grammar.specs.declared.symbol.Symbol.TheVariants.{Nonterminal}
use Rattle.ll1_grammar.specs.declared.symbol.Step.{Step}
use Rattle.ll1_grammar.specs.declared.symbol.Step.TheVariants.{Took, Did}
use Rattle.ll1_grammar.specs.Grammar.{Grammar, Derives, ends, acts, takes, expands, taken}
use Rattle.ll1_grammar.specs.Ahead.{Lookahead, IsLL1, begins}
use Rattle.ll1_grammar.proofs.OneAhead.{BeginsWith, first_word, Good, good_after, good_other, clash, alone, by_part, by_token, by_other, by_act}

pub steps_take_the_text : {N T A : Type 0} (g : Grammar N T A) {s : List (Symbol N A)} {w : List T} {steps : List (Step T A)} → Derives g s w steps → taken steps ≡ w
steps_take_the_text g ends = refl
steps_take_the_text g (acts d) = steps_take_the_text g d
steps_take_the_text g (takes {t = t} e d) = ap (λ l. t ∷ l) (steps_take_the_text g d)
steps_take_the_text g (expands e d) = steps_take_the_text g d

taken_joined : {T A : Type 0} (front : List (Step T A)) (t : T) (rest : List (Step T A)) → taken (front ++ Took t ∷ rest) ≡ taken front ++ t ∷ taken rest
taken_joined [] t rest = refl
taken_joined (Took x ∷ front) t rest = ap (λ l. x ∷ l) (taken_joined front t rest)
taken_joined (Did a ∷ front) t rest = taken_joined front t rest

same_head : {T : Type 0} (u v w : List T) (t t' : T) (w' : List T) → u ++ t ∷ w ≡ t' ∷ w' → (v' : List T) × (u ++ t ∷ v ≡ t' ∷ v')
same_head [] v w t t' w' e = let h : t ≡ t' = cc in (v, ap (λ x. x ∷ v) h)
same_head (x ∷ u) v w t t' w' e = let h : x ≡ t' = cc in (u ++ t ∷ v, ap (λ y. y ∷ (u ++ t ∷ v)) h)

module _ {N T A : Type 0} (g : Grammar N T A) (k : Lookahead N T) (ll : IsLL1 g k) where
  begins_at : (s : List (Symbol N A)) (x : List T) (t : T) (v : List T) → x ≡ t ∷ v → BeginsWith g k ll s x → begins k s t ≡ true
  begins_at s x t v e b = let P : List T → Type 0 = BeginsWith g k ll s in subst P e b

  shared : {s : List (Symbol N A)} {x : List T} {a : List (Step T A)} → Derives g s x a → Good g k ll s → (front rest : List (Step T A)) (t : T) → a ≡ front ++ Took t ∷ rest
      → (w : List T) (b : List (Step T A)) → Derives g s (taken front ++ t ∷ w) b → (more : List (Step T A)) × (b ≡ front ++ Took t ∷ more)
  shared ends h [] rest t e w b d = cc
  shared ends h (y ∷ front) rest t e w b d = cc
  shared (acts p) h [] rest t e w b d = cc
  shared (acts p) h (Took y ∷ front) rest t e w b d = cc
  shared (acts {a = a} {steps = m} p) h (Did y ∷ front) rest t e w b d =
      let i = by_act d in
      let tail : m ≡ front ++ Took t ∷ rest = cc in
      let same : a ≡ y = cc in
      let j = shared p h front rest t tail w i.0 i.2 in
      let made = i.1 in
      let more = j.1 in
      (j.0, cc)
  shared (takes {n = n} {t = x} {r = r} {s = s} e p) h [] rest t ea w b d = elim (by_part d) [
    | by_token t' w' r' m' e' em a d' ↦ let same : t' ≡ t = cc in (m', em ∙ ap (λ z. Took z ∷ m') same)
    | by_other r' a d' ↦ let same : x ≡ t = cc in absurd (clash g k ll n x r r' s e a h (subst (λ z. begins k (r' ++ s) z ≡ true) (sym same) (first_word g k ll d')))
  ]
  shared (takes e p) h (Did y ∷ front) rest t ea w b d = cc
  shared (takes {n = n} {t = x} {r = r} {s = s} {steps = m} e p) h (Took y ∷ front) rest t ea w b d =
      let same : x ≡ y = cc in
      let tail : m ≡ front ++ Took t ∷ rest = cc in
      elim (by_part d) [
        | by_token t' w' r' m' e' em a d' ↦
            let same_t : t' ≡ x = cc in
            let same_w : w' ≡ taken front ++ t ∷ w = cc in
            let a' : g.after n x ≡ Some r' = subst (λ z. g.after n z ≡ Some r') same_t a in
            let same_r : r' ≡ r = cc in
            let j = shared p (good_after g k ll n x r s e h) front rest t tail w m' (subst (λ z. Derives g (z ++ s) (taken front ++ t ∷ w) m') same_r (subst (λ z. Derives g (r' ++ s) z m') same_w d')) in
            let more = j.1 in
            (j.0, cc)
        | by_other r' a d' ↦ absurd (clash g k ll n x r r' s e a h (subst (λ z. begins k (r' ++ s) z ≡ true) (sym same) (first_word g k ll d')))
      ]
  shared (expands {n = n} {r = r} {s = s} {w = x} {steps = m} e p) h front rest t ea w b d = elim (by_part d) [
    | by_token t' w' r' m' e' em a d' ↦
        let whole : x ≡ taken front ++ t ∷ taken rest = sym (steps_take_the_text g p) ∙ ap taken ea ∙ taken_joined front t rest in
        let first = same_head (taken front) (taken rest) w t t' w' e' in
        absurd (clash g k ll n t' r' r s a e h (begins_at (r ++ s) x t' first.0 (whole ∙ first.1) (first_word g k ll p)))
    | by_other r' a d' ↦
        let same_r : r' ≡ r = cc in
        shared p (good_other g k ll n r s e h) front rest t ea w b (subst (λ z. Derives g (z ++ s) (taken front ++ t ∷ w) b) same_r d')
  ]

  pub one_front : (n : N) (u v w : List T) (t : T) (front rest other : List (Step T A)) → taken front ≡ u → Derives g (Nonterminal n ∷ []) (u ++ t ∷ v) (front ++ Took t ∷ rest) → Derives g (Nonterminal n ∷ []) (u ++ t ∷ w) other
      → (more : List (Step T A)) × (other ≡ front ++ Took t ∷ more)
  one_front n u v w t front rest other e p d =
      shared p (alone g k ll n) front rest t refl w other (subst (λ z. Derives g (Nonterminal n ∷ []) (z ++ t ∷ w) other) (sym e) d)
