-- Lexemes are a sentence, or are wrong at a place: a reader with one lexeme ahead comes to either end.
use Rattle.std.proofs.Common.{◌≡◌, ℕ, zero, suc, ◌+◌, ◌*◌, ◌-◌, ◌<◌, ◌≤◌, Bool, true, false, List, [], ◌∷◌, ◌++◌, length, take, Option, Some, None, refl, ap, ◌∙◌, subst, arith, append_assoc, inl, inr}
use Rattle.std.specs.Prelude.{slice_get, if◌then◌else◌}
use Rattle.std.proofs.lemmas.Bool.Decides.{nat_tests}
use Rattle.std.proofs.lemmas.Option.{slice_get_within}
use Rattle.std.proofs.lemmas.List.{length-take-le}
use Rattle.ll1_grammar.specs.declared.symbol.Symbol.TheVariants.{Nonterminal, Action as Act}
use Rattle.ll1_grammar.specs.declared.symbol.Step.TheVariants.{Took, Did}
use Rattle.ll1_grammar.specs.declared.item.Item.TheVariants.{Here, Inside, Do}
use Rattle.ll1_grammar.specs.Grammar.{Derives, takes, taken}
use Rattle.ll1_grammar.specs.Reader.{IsAt, Stops}
use Rattle.ll1_grammar.specs.Table.{laid_out, entry, fits, where_it_fits}
use Rattle.ll1_grammar.proofs.OneAhead.{place_is_exact, any}
use Rattle.ll1_grammar.proofs.Turns.{begun, did, took, went, complete, sticks, passes, front}
use Rattle.notebook_grammar.specs.declared.rule.Rule.{Rule}
use Rattle.notebook_grammar.specs.declared.action.Action.{Action}
use Rattle.notebook_grammar.specs.declared.lexeme.Lexeme.{Lexeme}
use Rattle.notebook_grammar.specs.declared.start.Start.{Start}
use Rattle.notebook_grammar.specs.Kinds.{code_of}
use Rattle.notebook_grammar.specs.Rows.{Items}
use Rattle.notebook_grammar.specs.Language.{language, start_of, at_room, rule_of, Symbols, Steps, alternatives, otherwise}
use Rattle.notebook_grammar.specs.Limits.{after, is_full, more, counted, IsWithin}
use Rattle.notebook_grammar.specs.Machine.{chosen_at, other_at}
use Rattle.notebook_grammar.specs.Weights.{weight, mass}
use Rattle.notebook_grammar.proofs.Exact.{ahead, ll1, productive}
use Rattle.notebook_grammar.proofs.Going.{takes_it, expands_so, not_chosen, no_other, count_did, count_took, same_front, not_counted}
use Rattle.notebook_grammar.proofs.Light.{light_alternative, lighter_otherwise}
use Rattle.text_steps.specs.Laws.{AreRead}

-- ---- the weight of what is to come

weight_of : Symbols → ℕ
weight_of [] = 0
weight_of (Act a ∷ s) = 1 + weight_of s
weight_of (Nonterminal n ∷ s) = weight n.rule + weight_of s

weight_laid : (room : ℕ) (items : Items) (s : Symbols) → weight_of (laid_out room items ++ s) ≡ mass items + weight_of s
unfolding weight_of
weight_laid room [] s = omega arith
weight_laid room (Here r ∷ items) s = let ih = weight_laid room items s in omega (arith, ih)
weight_laid room (Inside r ∷ items) s = let ih = weight_laid room items s in omega (arith, ih)
weight_laid room (Do a ∷ items) s = let ih = weight_laid room items s in omega (arith, ih)

-- ---- a place where no lexeme has been too many

-- steps that take more than the front have the front's next step too
front_within : (steps more front rest : Steps) (t : Lexeme) → steps ++ more ≡ front ++ Took t ∷ rest → length (taken front) < length (taken steps) → (rest' : Steps) × (steps ≡ front ++ Took t ∷ rest')
front_within [] more front rest t e h = absurd (omega arith)
front_within (x ∷ steps) more [] rest t e h = let same : x ≡ Took t = cc in (steps, ap (λ z. z ∷ steps) same)
front_within (Took x ∷ steps) more (Did y ∷ front) rest t e h = cc
front_within (Did x ∷ steps) more (Took y ∷ front) rest t e h = cc
front_within (Took x ∷ steps) more (Took y ∷ front) rest t e h =
    let same : x ≡ y = cc in
    let tail : steps ++ more ≡ front ++ Took t ∷ rest = cc in
    let i = front_within steps more front rest t tail (omega (arith, h)) in
    let is = i.1 in
    (i.0, cc)
front_within (Did x ∷ steps) more (Did y ∷ front) rest t e h =
    let same : x ≡ y = cc in
    let tail : steps ++ more ≡ front ++ Took t ∷ rest = cc in
    let i = front_within steps more front rest t tail h in
    let is = i.1 in
    (i.0, cc)

full_is : (count : Option ℕ) → is_full count ≡ true → count ≡ Some 1000
full_is None e = cc
full_is (Some n) e = let h : n ≡ 1000 = grind (arith, nat_tests) in ap (λ x. Some x) h

past_the_end : (ls : List Lexeme) (at : ℕ) → slice_get ls at ≡ None → length ls ≤ at
past_the_end [] at e = omega arith
past_the_end (x ∷ ls) zero e = cc
past_the_end (x ∷ ls) (suc at) e = let later = past_the_end ls at e in omega (arith, later)

module _ (start : Start) (lexemes : List Lexeme) where
  -- the reader is at the place, and these symbols are to come
  abbrev Comes : ℕ → Symbols → Steps → Type 0
  Comes at s steps = IsAt language (start_of start) lexemes at s steps

  abbrev Read : Type 0
  Read = AreRead start lexemes

  within : (at : ℕ) (s : Symbols) (steps : Steps) (count : Option ℕ) → Comes at s steps → counted None steps ≡ Some count → IsWithin start lexemes at
  within at s steps count g c j below m =
      let d = any language productive s in
      let f = front lexemes j at below g.within in
      let whole : take at lexemes ++ d.0 ≡ take j lexemes ++ m.lexeme ∷ (f.1 ++ d.0) = whole_by f.0 f.1 d.0 f.2 f.3 in
      let i = same_front start lexemes j m (f.1 ++ d.0) (steps ++ d.1) (subst (λ w. Derives language (start_of start) w (steps ++ d.1)) whole (g.derives d.0 d.1 d.2)) in
      let r = front_within steps d.1 m.front i.0 m.lexeme i.1 shorter in
      not_counted m.front r.0 steps m.lexeme count m.full r.1 c
    where
      whole_by : (x : Lexeme) (more v : List Lexeme) → slice_get lexemes j ≡ Some x → take at lexemes ≡ take j lexemes ++ x ∷ more → take at lexemes ++ v ≡ take j lexemes ++ m.lexeme ∷ (more ++ v)
      whole_by x more v e t =
          let here = m.here in
          let same : x ≡ m.lexeme = cc in
          ap (λ l. l ++ v) t ∙ append_assoc (take j lexemes) (x ∷ more) v ∙ ap (λ z. take j lexemes ++ z ∷ (more ++ v)) same

      shorter : length (taken m.front) < length (taken steps)
      shorter =
          let a : length (taken m.front) ≡ j = ap length m.before ∙ length-take-le j lexemes (omega (arith, below, g.within)) in
          let b : length (taken steps) ≡ at = ap length g.took ∙ length-take-le at lexemes g.within in
          omega arith

  -- ---- the ends

  wrong : (at : ℕ) (s : Symbols) (steps : Steps) (count : Option ℕ) → Comes at s steps → counted None steps ≡ Some count → Stops language (start_of start) (take at lexemes) (slice_get lexemes at) → Read
  wrong at s steps count g counts st =
      let both = place_is_exact language ahead ll1 productive (at_room (rule_of start) 64) (take at lexemes) (slice_get lexemes at) st in
      inr (at, (within at s steps count g counts, inl (record { within = g.within; before = both.0; here = both.1 })))

  too_many : (at room : ℕ) (s : Symbols) (steps : Steps) (count : Option ℕ) (r : Rule) (t : Lexeme) (items : Items) → Comes at (Nonterminal (at_room r room) ∷ s) steps → counted None steps ≡ Some count → is_full count ≡ true
      → slice_get lexemes at ≡ Some t → entry (code_of t.kind) (alternatives r) ≡ Some items → fits room items ≡ true → Read
  too_many at room s steps count r t items g counts full here is fit =
      let d = any language productive (laid_out room items ++ s) in
      inr (
        at,
        (
          within at (Nonterminal (at_room r room) ∷ s) steps count g counts,
          inr (record {
            lexeme = t;
            later = d.0;
            front = steps;
            rest = d.1;
            here = here;
            sentence = g.derives (t ∷ d.0) (Took t ∷ d.1) (takes (takes_it r room t items is fit) d.2);
            before = g.took;
            full = counts ∙ ap (λ x. Some x) (full_is count full);
          }),
        ),
      )

  -- ---- a turn, where fewer turns come to an end

  abbrev Later : ℕ → Type 0
  Later n = (at : ℕ) (s : Symbols) (steps : Steps) (count : Option ℕ) → Comes at s steps → counted None steps ≡ Some count → weight_of s + 72 * (length lexemes - at) < n → Read

  module _ (n : ℕ) (later : Later n) (at : ℕ) (steps : Steps) (count : Option ℕ) (counts : counted None steps ≡ Some count) where
    at_end : (o : Option Lexeme) → slice_get lexemes at ≡ o → Comes at [] steps → Read
    at_end None e g = inl (steps, (complete language (start_of start) lexemes at steps (past_the_end lexemes at e) g, (count, counts)))
    at_end (Some t) e g = wrong at [] steps count g counts (passes language (start_of start) lexemes at steps (slice_get_within lexemes at t e) g)

    does : (a : Action) (s : Symbols) → Comes at (Act a ∷ s) steps → weight_of (Act a ∷ s) + 72 * (length lexemes - at) < suc n → Read
    unfolding weight_of
    does a s g less = later at s (steps ++ Did a ∷ []) (after a count) (did language (start_of start) lexemes at steps a s g) (count_did count steps (steps ++ Did a ∷ []) a counts refl) (omega (arith, less))

    module _ (r : Rule) (room : ℕ) (s : Symbols) (g : Comes at (Nonterminal (at_room r room) ∷ s) steps) (less : weight_of (Nonterminal (at_room r room) ∷ s) + 72 * (length lexemes - at) < suc n) where
      stops : chosen_at r room (slice_get lexemes at) ≡ None → other_at r room ≡ None → Read
      stops c o = wrong at (Nonterminal (at_room r room) ∷ s) steps count g counts (sticks language (start_of start) lexemes at steps (at_room r room) s (not_chosen r room (slice_get lexemes at) c) (no_other r room o) g)

      expands : (items : Items) → chosen_at r room (slice_get lexemes at) ≡ None → otherwise r ≡ Some items → fits room items ≡ true → Read
      unfolding weight_of
      expands items c o fit =
          let lighter = lighter_otherwise r items o in
          let weighs = weight_laid room items s in
          later at (laid_out room items ++ s) steps count
          (went language (start_of start) lexemes at steps (at_room r room) (laid_out room items) s (not_chosen r room (slice_get lexemes at) c) (expands_so r room items o fit) g)
          counts (omega (arith, less, lighter, weighs))

      takes_next : (t : Lexeme) (items : Items) → slice_get lexemes at ≡ Some t → entry (code_of t.kind) (alternatives r) ≡ Some items → fits room items ≡ true → (full : Bool) → is_full count ≡ full → Read
      unfolding weight_of
      takes_next t items here is fit true full = too_many at room s steps count r t items g counts full here is fit
      takes_next t items here is fit false full =
          let light = light_alternative r (code_of t.kind) items is in
          let weighs = weight_laid room items s in
          let below = slice_get_within lexemes at t here in
          later (at + 1) (laid_out room items ++ s) (steps ++ Took t ∷ []) (more count)
          (took language (start_of start) lexemes at steps (at_room r room) t (laid_out room items) s here (takes_it r room t items is fit) g)
          (count_took count steps (steps ++ Took t ∷ []) t counts full refl) (omega (arith, less, light, weighs, below))

      -- the other side, where the next lexeme begins none
      by_other_fit : (items : Items) → chosen_at r room (slice_get lexemes at) ≡ None → otherwise r ≡ Some items → (fit : Bool) → fits room items ≡ fit → Read
      by_other_fit items c o true fit = expands items c o fit
      by_other_fit items c o false fit = stops c (ap (where_it_fits room) o ∙ ap (λ b. if b then Some (laid_out room items) else None) fit)

      by_other : chosen_at r room (slice_get lexemes at) ≡ None → (o : Option Items) → otherwise r ≡ o → Read
      by_other c None o = stops c (ap (where_it_fits room) o)
      by_other c (Some items) o = by_other_fit items c o (fits room items) refl

      -- the side that the next lexeme begins
      by_fit : (t : Lexeme) (items : Items) → slice_get lexemes at ≡ Some t → entry (code_of t.kind) (alternatives r) ≡ Some items → (fit : Bool) → fits room items ≡ fit → Read
      by_fit t items here is true fit = takes_next t items here is fit (is_full count) refl
      by_fit t items here is false fit =
          by_other (ap (chosen_at r room) here ∙ ap (where_it_fits room) is ∙ ap (λ b. if b then Some (laid_out room items) else None) fit) (otherwise r) refl

      by_entry : (t : Lexeme) → slice_get lexemes at ≡ Some t → (o : Option Items) → entry (code_of t.kind) (alternatives r) ≡ o → Read
      by_entry t here None is = by_other (ap (chosen_at r room) here ∙ ap (where_it_fits room) is) (otherwise r) refl
      by_entry t here (Some items) is = by_fit t items here is (fits room items) refl

      by_lexeme : (o : Option Lexeme) → slice_get lexemes at ≡ o → Read
      by_lexeme None here = by_other (ap (chosen_at r room) here) (otherwise r) refl
      by_lexeme (Some t) here = by_entry t here (entry (code_of t.kind) (alternatives r)) refl

  reads_on : (n : ℕ) → Later n
  reads_on zero at s steps count g counts less = absurd (omega (arith, less))
  reads_on (suc n) at [] steps count g counts less = at_end n (reads_on n) at steps count counts (slice_get lexemes at) refl g
  reads_on (suc n) at (Act a ∷ s) steps count g counts less = does n (reads_on n) at steps count counts a s g less
  reads_on (suc n) at (Nonterminal x ∷ s) steps count g counts less = by_lexeme n (reads_on n) at steps count counts x.rule x.room s g less (slice_get lexemes at) refl

  pub reads : AreRead start lexemes
  reads =
      reads_on (suc (weight_of (start_of start) + 72 * (length lexemes - 0))) 0 (start_of start) [] None
      (begun language (start_of start) lexemes) refl (omega arith)
