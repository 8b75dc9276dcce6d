-- A turn of the machine's loop.
use Rattle.std.proofs.Common.{◌≡◌, ◌≢◌, IfSome, ℕ, ◌+◌, ◌<◌, ◌≤◌, List, [], ◌∷◌, ◌++◌, length, take, Option, Some, None, refl, sym, ap, ◌∙◌, subst, arith, append_assoc, inl, inr, Bool, true, false, Bor}
use Rattle.std.specs.Prelude.{slice_get, if◌then◌else◌, ◌==◌}
use Rattle.std.proofs.lemmas.Bool.Decides.{nat_tests}
use Rattle.std.proofs.lemmas.Option.{slice_get_within}
use Rattle.std.proofs.lemmas.List.{length-take-le}
use Rattle.ll1_grammar.specs.declared.symbol.Symbol.TheVariants.{Nonterminal}
use Rattle.ll1_grammar.specs.declared.symbol.Step.{Step}
use Rattle.ll1_grammar.specs.declared.symbol.Step.TheVariants.{Took, Did}
use Rattle.ll1_grammar.specs.Grammar.{Derives, takes, taken}
use Rattle.ll1_grammar.specs.Reader.{IsAt, Stops, chosen}
use Rattle.ll1_grammar.specs.Table.{laid_out, entry, fits, where_it_fits}
use Rattle.ll1_grammar.proofs.OneAhead.{place_is_exact, any}
use Rattle.ll1_grammar.proofs.Turns.{begun, did, took, went, complete, sticks, passes, front}
use Rattle.ll1_grammar.proofs.Fronts.{one_front}
use Rattle.notebook_grammar.specs.declared.rule.Rule.{Rule}
use Rattle.notebook_grammar.specs.declared.action.Action.{Action}
use Rattle.notebook_grammar.specs.declared.action.Action.TheVariants as act
use Rattle.notebook_grammar.specs.declared.action.ExprAction.TheVariants as e_act
use Rattle.notebook_grammar.specs.declared.lexeme.Lexeme.{Lexeme}
use Rattle.notebook_grammar.specs.declared.start.Start.{Start}
use Rattle.notebook_grammar.specs.declared.machine.Frame.{Frame}
use Rattle.notebook_grammar.specs.declared.machine.Next.TheVariants.{Done, Goal}
use Rattle.notebook_grammar.specs.declared.machine.Choice.TheVariants.{Take, Go, Stop}
use Rattle.notebook_grammar.specs.Kinds.{code_of}
use Rattle.notebook_grammar.specs.Rows.{Items}
use Rattle.notebook_grammar.specs.Language.{language, start_of, at_room, rule_of, Symbols, Steps, alternatives, otherwise}
use Rattle.notebook_grammar.specs.Limits.{after, is_full, more, counted, IsTooMany, IsWithin, IsWrongAt}
use Rattle.notebook_grammar.specs.Machine.{symbols, IsNext, IsChoice, chosen_at, other_at}
use Rattle.notebook_grammar.specs.Weights.{mass, load}
use Rattle.notebook_grammar.proofs.Exact.{ahead, ll1, productive}
use Rattle.notebook_grammar.proofs.Light.{light_alternative, lighter_otherwise}
use Rattle.notebook_grammar.proofs.Stacks.{top, load_top}

-- ---- the table's answers as the grammar's

where_it_is : (room : ℕ) (o : Option Items) (s : Items) → o ≡ Some s → fits room s ≡ true → where_it_fits room o ≡ Some (laid_out room s)
where_it_is room o s e f = ap (where_it_fits room) e ∙ ap (λ b. if b then Some (laid_out room s) else None) f

pub takes_it : (r : Rule) (room : ℕ) (l : Lexeme) (s : Items) → entry (code_of l.kind) (alternatives r) ≡ Some s → fits room s ≡ true → language.after (at_room r room) l ≡ Some (laid_out room s)
unfolding language
takes_it r room l s e f = where_it_is room (entry (code_of l.kind) (alternatives r)) s e f

pub expands_so : (r : Rule) (room : ℕ) (s : Items) → otherwise r ≡ Some s → fits room s ≡ true → language.otherwise (at_room r room) ≡ Some (laid_out room s)
unfolding language
expands_so r room s e f = where_it_is room (otherwise r) s e f

pub not_chosen : (r : Rule) (room : ℕ) (o : Option Lexeme) → chosen_at r room o ≡ None → chosen language (at_room r room) o ≡ None
unfolding language
not_chosen r room None e = refl
not_chosen r room (Some l) e = e

pub no_other : (r : Rule) (room : ℕ) → other_at r room ≡ None → language.otherwise (at_room r room) ≡ None
unfolding language
no_other r room e = e

-- ---- a turn, by what came next

abbrev pub Going : Start → List Lexeme → ℕ → List Frame → Steps → Type 0
Going start lexemes at frames steps = IsAt language (start_of start) lexemes at (symbols frames []) steps

moved : (start : Start) (lexemes : List Lexeme) (at : ℕ) (a b : Symbols) (steps : Steps) → a ≡ b → IsAt language (start_of start) lexemes at a steps → IsAt language (start_of start) lexemes at b steps
moved start lexemes at a b steps e g = subst (λ s. IsAt language (start_of start) lexemes at s steps) e g

pub starts : (start : Start) (lexemes : List Lexeme) (frames : List Frame) → symbols frames [] ≡ start_of start → Going start lexemes 0 frames []
starts start lexemes frames e = moved start lexemes 0 (start_of start) (symbols frames []) [] (sym e) (begun language (start_of start) lexemes)

pub acts_so : (start : Start) (lexemes : List Lexeme) (at : ℕ) (old new : List Frame) (steps : Steps) (a : Action) → IsNext old new (Done a) → Going start lexemes at old steps → Going start lexemes at new (steps ++ Did a ∷ [])
acts_so start lexemes at old new steps a n g = did language (start_of start) lexemes at steps a (symbols new []) (moved start lexemes at _ _ steps n.0 g)

module _ (start : Start) (lexemes : List Lexeme) (at : ℕ) (old mid new : List Frame) (f : Frame) (steps : Steps) (r : Rule) (n : IsNext old mid (Goal r f.room)) (pushed : new ≡ mid ++ f ∷ []) (g : Going start lexemes at old steps) where
  now_is : symbols new [] ≡ laid_out f.room f.rest.now ++ symbols mid []
  now_is = ap (λ x. symbols x []) pushed ∙ top mid f []

  load_is : load new ≡ load mid + (1 + mass f.rest.now)
  load_is = ap load pushed ∙ load_top mid f

  at_goal : IsAt language (start_of start) lexemes at (Nonterminal (at_room r f.room) ∷ symbols mid []) steps
  at_goal = moved start lexemes at _ _ steps n.0 g

  pub turn_go : IsChoice r f.room (slice_get lexemes at) (Go f.rest) → Going start lexemes at new steps × (load new < load old)
  turn_go c =
      let w = n.1 in let l = load_is in let m = lighter_otherwise r f.rest.now c.1 in (
        moved start lexemes at _ _ steps (sym now_is)
            (went language (start_of start) lexemes at steps (at_room r f.room) (laid_out f.room f.rest.now) (symbols mid []) (not_chosen r f.room (slice_get lexemes at) c.0) (expands_so r f.room f.rest.now c.1 c.2) at_goal),
        omega arith,
      )

  pub turn_take : (t : Lexeme) → IsChoice r f.room (slice_get lexemes at) (Take t f.rest) → Going start lexemes (at + 1) new (steps ++ Took t ∷ []) × (load new < load old + 72) × (at < length lexemes)
  turn_take t c =
      let w = n.1 in let l = load_is in let m = light_alternative r (code_of t.kind) f.rest.now c.1 in (
        moved start lexemes (at + 1) _ _ (steps ++ Took t ∷ []) (sym now_is)
            (took language (start_of start) lexemes at steps (at_room r f.room) t (laid_out f.room f.rest.now) (symbols mid []) c.0 (takes_it r f.room t f.rest.now c.1 c.2) at_goal),
        omega arith,
        slice_get_within lexemes at t c.0,
      )

-- ---- the count

counted_push : (c d : Option ℕ) (steps : Steps) (s : Step Lexeme Action) → counted c steps ≡ Some d → counted c (steps ++ s ∷ []) ≡ counted d (s ∷ [])
counted_push c d [] s e = let h : c ≡ d = cc in ap (λ x. counted x (s ∷ [])) h
counted_push c d (Did a ∷ steps) s e = counted_push (after a c) d steps s e
counted_push c d (Took t ∷ steps) s e = at (is_full c) (λ h. counted_push (more c) d steps s h) e
  where
    at : (b : Bool) → (counted (more c) steps ≡ Some d → counted (more c) (steps ++ s ∷ []) ≡ counted d (s ∷ [])) → (if b then None else counted (more c) steps) ≡ Some d
        → (if b then None else counted (more c) (steps ++ s ∷ [])) ≡ counted d (s ∷ [])
    at true f h = absurd cc
    at false f h = f h

pub count_did : (count : Option ℕ) (steps new : Steps) (a : Action) → counted None steps ≡ Some count → new ≡ steps ++ Did a ∷ [] → counted None new ≡ Some (after a count)
count_did count steps new a e h = ap (counted None) h ∙ counted_push None count steps (Did a) e

pub count_took : (count : Option ℕ) (steps new : Steps) (t : Lexeme) → counted None steps ≡ Some count → is_full count ≡ false → new ≡ steps ++ Took t ∷ [] → counted None new ≡ Some (more count)
count_took count steps new t e f h = ap (counted None) h ∙ counted_push None count steps (Took t) e ∙ ap (λ b. if b then None else Some (more count)) f

full_is : (count : Option ℕ) → is_full count ≡ true → count ≡ Some 1000
full_is None e = cc
full_is (Some n) e = let h : n ≡ 1000 = grind (arith, nat_tests) in ap (λ x. Some x) h

pub few_more : (count new : Option ℕ) → IfSome count (λ n. n ≤ 1000) → is_full count ≡ false → new ≡ more count → IfSome new (λ n. n ≤ 1000)
few_more None new h e i = subst (λ o. IfSome o (λ n. n ≤ 1000)) (sym i) tt
few_more (Some n) new h e i = let less : n + 1 ≤ 1000 = (let k : n ≢ 1000 = not_full n e in omega arith) in subst (λ o. IfSome o (λ n. n ≤ 1000)) (sym i) less
  where
    not_full : (n : ℕ) → n == 1000 ≡ false → n ≢ 1000
    not_full n e = λ h. absurd (let k = ap (λ x. x == 1000) h in cc)

pub few_still : (a : Action) (count : Option ℕ) → IfSome count (λ n. n ≤ 1000) → IfSome (after a count) (λ n. n ≤ 1000)
few_still (act.Expr e_act.Begin) count h = omega arith
few_still (act.Expr e_act.End) count h = tt
few_still a count h = h

counted_joined : (c d : Option ℕ) (front rest : Steps) → counted c front ≡ Some d → counted c (front ++ rest) ≡ counted d rest
counted_joined c d [] rest e = let h : c ≡ d = cc in ap (λ x. counted x rest) h
counted_joined c d (Did a ∷ front) rest e = counted_joined (after a c) d front rest e
counted_joined c d (Took t ∷ front) rest e = at (is_full c) (counted_joined (more c) d front rest) e
  where
    at : (b : Bool) → (counted (more c) front ≡ Some d → counted (more c) (front ++ rest) ≡ counted d rest) → (if b then None else counted (more c) front) ≡ Some d
        → (if b then None else counted (more c) (front ++ rest)) ≡ counted d rest
    at true f h = absurd cc
    at false f h = f h

-- steps that pass a full count aren't counted
pub not_counted : (front rest steps : Steps) (t : Lexeme) (count : Option ℕ) → counted None front ≡ Some (Some 1000) → steps ≡ front ++ Took t ∷ rest → counted None steps ≡ Some count → ⊥
not_counted front rest steps t count full e c = let h = sym c ∙ ap (counted None) e ∙ counted_joined None (Some 1000) front (Took t ∷ rest) full in cc

-- ---- no expression has taken too many before the place where it is

-- steps that take more than the front have the front's next step too
front_within : (steps more front rest : Steps) (t : Lexeme) → steps ++ more ≡ front ++ Took t ∷ rest → length (taken front) < length (taken steps) → (rest' : Steps) × (steps ≡ front ++ Took t ∷ rest')
front_within [] more front rest t e h = absurd (omega arith)
front_within (x ∷ steps) more [] rest t e h = let same : x ≡ Took t = cc in (steps, ap (λ z. z ∷ steps) same)
front_within (Took x ∷ steps) more (Did y ∷ front) rest t e h = cc
front_within (Did x ∷ steps) more (Took y ∷ front) rest t e h = cc
front_within (Took x ∷ steps) more (Took y ∷ front) rest t e h =
    let same : x ≡ y = cc in
    let tail : steps ++ more ≡ front ++ Took t ∷ rest = cc in
    let i = front_within steps more front rest t tail (omega (arith, h)) in
    let is = i.1 in
    (i.0, cc)
front_within (Did x ∷ steps) more (Did y ∷ front) rest t e h =
    let same : x ≡ y = cc in
    let tail : steps ++ more ≡ front ++ Took t ∷ rest = cc in
    let i = front_within steps more front rest t tail h in
    let is = i.1 in
    (i.0, cc)

-- the sentence of a place that is too many has its steps up to there
pub same_front : (start : Start) (lexemes : List Lexeme) (j : ℕ) (m : IsTooMany start lexemes j) (v : List Lexeme) (steps : Steps) → Derives language (start_of start) (take j lexemes ++ m.lexeme ∷ v) steps
    → (rest : Steps) × (steps ≡ m.front ++ Took m.lexeme ∷ rest)
same_front start lexemes j m v steps d = one_front language ahead ll1 (at_room (rule_of start) 64) (take j lexemes) m.later v m.lexeme m.front m.rest steps m.before m.sentence d

pub within : (start : Start) (lexemes : List Lexeme) (at : ℕ) (frames : List Frame) (steps : Steps) (count : Option ℕ) → Going start lexemes at frames steps → counted None steps ≡ Some count → IsWithin start lexemes at
within start lexemes at frames steps count g c j below m =
    let d = any language productive (symbols frames []) in
    let f = front lexemes j at below g.within in
    let whole : take at lexemes ++ d.0 ≡ take j lexemes ++ m.lexeme ∷ (f.1 ++ d.0) = whole_by f.0 f.1 d.0 f.2 f.3 in
    let s = same_front start lexemes j m (f.1 ++ d.0) (steps ++ d.1) (subst (λ w. Derives language (start_of start) w (steps ++ d.1)) whole (g.derives d.0 d.1 d.2)) in
    let r = front_within steps d.1 m.front s.0 m.lexeme s.1 (shorter) in
    not_counted m.front r.0 steps m.lexeme count m.full r.1 c
  where
    whole_by : (x : Lexeme) (more v : List Lexeme) → slice_get lexemes j ≡ Some x → take at lexemes ≡ take j lexemes ++ x ∷ more → take at lexemes ++ v ≡ take j lexemes ++ m.lexeme ∷ (more ++ v)
    whole_by x more v e t =
        let here = m.here in
        let same : x ≡ m.lexeme = cc in
        ap (λ l. l ++ v) t ∙ append_assoc (take j lexemes) (x ∷ more) v ∙ ap (λ z. take j lexemes ++ z ∷ (more ++ v)) same

    shorter : length (taken m.front) < length (taken steps)
    shorter =
        let a : length (taken m.front) ≡ j = ap length m.before ∙ length-take-le j lexemes (omega (arith, below, g.within)) in
        let b : length (taken steps) ≡ at = ap length g.took ∙ length-take-le at lexemes g.within in
        omega arith

-- ---- where it stops

wrong_by : (start : Start) (lexemes : List Lexeme) (at : ℕ) → IsWithin start lexemes at → at ≤ length lexemes → Stops language (start_of start) (take at lexemes) (slice_get lexemes at) → IsWrongAt start lexemes at
wrong_by start lexemes at before bound st =
    let both = place_is_exact language ahead ll1 productive (at_room (rule_of start) 64) (take at lexemes) (slice_get lexemes at) st in
    (before, inl (record { within = bound; before = both.0; here = both.1 }))

pub stuck_here : (start : Start) (lexemes : List Lexeme) (at : ℕ) (old mid : List Frame) (steps : Steps) (r : Rule) (room : ℕ) (count : Option ℕ) → counted None steps ≡ Some count → IsNext old mid (Goal r room) → IsChoice r room (slice_get lexemes at) Stop → Going start lexemes at old steps → IsWrongAt start lexemes at
stuck_here start lexemes at old mid steps r room count counts n c g =
    wrong_by start lexemes at (within start lexemes at old steps count g counts) g.within
    (sticks language (start_of start) lexemes at steps (at_room r room) (symbols mid []) (not_chosen r room (slice_get lexemes at) c.0) (no_other r room c.1) (moved start lexemes at _ _ steps n.0 g))

pub too_long : (start : Start) (lexemes : List Lexeme) (at : ℕ) (frames : List Frame) (steps : Steps) (count : Option ℕ) → counted None steps ≡ Some count → symbols frames [] ≡ [] → at < length lexemes → Going start lexemes at frames steps → IsWrongAt start lexemes at
too_long start lexemes at frames steps count counts e below g = wrong_by start lexemes at (within start lexemes at frames steps count g counts) g.within (passes language (start_of start) lexemes at steps below (moved start lexemes at _ _ steps e g))

pub all_read : (start : Start) (lexemes : List Lexeme) (at : ℕ) (frames : List Frame) (steps : Steps) → symbols frames [] ≡ [] → length lexemes ≤ at → Going start lexemes at frames steps → Derives language (start_of start) lexemes steps
all_read start lexemes at frames steps e past g = complete language (start_of start) lexemes at steps past (moved start lexemes at _ _ steps e g)

pub too_many : (start : Start) (lexemes : List Lexeme) (at : ℕ) (old mid : List Frame) (steps : Steps) (r : Rule) (room : ℕ) (t : Lexeme) (count : Option ℕ) → IsNext old mid (Goal r room)
    → (s : Bor Items) → IsChoice r room (slice_get lexemes at) (Take t s) → counted None steps ≡ Some count → is_full count ≡ true → Going start lexemes at old steps → IsWrongAt start lexemes at
too_many start lexemes at old mid steps r room t count n s c counts full g =
    let d = any language productive (laid_out room s.now ++ symbols mid []) in (
      within start lexemes at old steps count g counts,
      inr (record {
        lexeme = t;
        later = d.0;
        front = steps;
        rest = d.1;
        here = c.0;
        sentence = g.derives (t ∷ d.0) (Took t ∷ d.1) (subst (λ x. Derives language x (t ∷ d.0) (Took t ∷ d.1)) (sym n.0) (takes (takes_it r room t s.now c.1 c.2) d.2));
        before = g.took;
        full = counts ∙ ap (λ x. Some x) (full_is count full);
      }),
    )
