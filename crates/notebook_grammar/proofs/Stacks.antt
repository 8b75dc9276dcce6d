-- What comes next on the machine's stack.
use Rattle.std.proofs.Common.{◌≡◌, ℕ, zero, suc, ◌+◌, ◌-◌, ◌≤◌, List, [], ◌∷◌, ◌++◌, length, refl, sym, ap, ◌∙◌, subst, arith}
use Rattle.ll1_grammar.specs.declared.symbol.Symbol.TheVariants.{Nonterminal, Action as Act}
use Rattle.ll1_grammar.specs.declared.item.Item.{Item}
use Rattle.ll1_grammar.specs.declared.item.Item.TheVariants.{Here, Inside, Do}
use Rattle.ll1_grammar.specs.Table.{laid_out, inner}
use Rattle.notebook_grammar.specs.declared.rule.Rule.{Rule}
use Rattle.notebook_grammar.specs.declared.action.Action.{Action}
use Rattle.notebook_grammar.specs.declared.machine.Frame.{Frame}
use Rattle.notebook_grammar.specs.declared.machine.Next.{Next}
use Rattle.notebook_grammar.specs.declared.machine.Next.TheVariants.{Done, Goal}
use Rattle.notebook_grammar.specs.Rows.{Items}
use Rattle.notebook_grammar.specs.Language.{Symbols, at_room}
use Rattle.notebook_grammar.specs.Machine.{symbols, IsNext}
use Rattle.notebook_grammar.specs.Weights.{weight, mass, load}

pub top : (fs : List Frame) (f : Frame) (s : Symbols) → symbols (fs ++ f ∷ []) s ≡ laid_out f.room f.rest.now ++ symbols fs s
top [] f s = refl
top (g ∷ fs) f s = top fs f (laid_out g.room g.rest.now ++ s)

pub load_top : (fs : List Frame) (f : Frame) → load (fs ++ f ∷ []) ≡ load fs + (1 + mass f.rest.now)
load_top [] f = omega arith
load_top (g ∷ fs) f = let ih = load_top fs f in omega arith

inner_is : (n : ℕ) → inner n ≡ n - 1
inner_is zero = refl
inner_is (suc n) = omega arith

-- ---- the next item of the topmost frame that has one

module _ (old now fs new : List Frame) (f g : Frame) (e : symbols old [] ≡ symbols now []) (less : load now ≤ load old) (popped : now ≡ fs ++ f ∷ []) (pushed : new ≡ fs ++ g ∷ []) (room : g.room ≡ f.room) where
  was : symbols old [] ≡ laid_out f.room f.rest.now ++ symbols fs []
  was = e ∙ ap (λ x. symbols x []) popped ∙ top fs f []

  is : symbols new [] ≡ laid_out f.room g.rest.now ++ symbols fs []
  is = ap (λ x. symbols x []) pushed ∙ top fs g [] ∙ ap (λ n. laid_out n g.rest.now ++ symbols fs []) room

  weighs : (item : Item Rule Action) → f.rest.now ≡ item ∷ g.rest.now → load new + mass (item ∷ []) ≤ load old
  weighs item h =
      let a : load now ≡ load fs + (1 + mass f.rest.now) = ap load popped ∙ load_top fs f in
      let b : load new ≡ load fs + (1 + mass g.rest.now) = ap load pushed ∙ load_top fs g in
      let m : mass f.rest.now ≡ mass (item ∷ []) + mass g.rest.now = ap mass h ∙ split item g.rest.now in
      omega arith
    where
      split : (item : Item Rule Action) (s : Items) → mass (item ∷ s) ≡ mass (item ∷ []) + mass s
      split (Here r) s = omega arith
      split (Inside r) s = omega arith
      split (Do a) s = omega arith

  pub next_done : (a : Action) → f.rest.now ≡ Do a ∷ g.rest.now → IsNext old new (Done a)
  next_done a h =
      let w : load new + 1 ≤ load old = weighs (Do a) h in
      (was ∙ ap (λ x. laid_out f.room x ++ symbols fs []) h ∙ ap (λ x. Act a ∷ x) (sym is), omega arith)

  pub next_here : (r : Rule) → f.rest.now ≡ Here r ∷ g.rest.now → IsNext old new (Goal r f.room)
  next_here r h =
      let w : load new + (weight r + 0) ≤ load old = weighs (Here r) h in
      (was ∙ ap (λ x. laid_out f.room x ++ symbols fs []) h ∙ ap (λ x. Nonterminal (at_room r f.room) ∷ x) (sym is), omega arith)

  inner_next : (r : Rule) → f.rest.now ≡ Inside r ∷ g.rest.now → IsNext old new (Goal r (inner f.room))
  inner_next r h =
      let w : load new + (weight r + 0) ≤ load old = weighs (Inside r) h in
      (was ∙ ap (λ x. laid_out f.room x ++ symbols fs []) h ∙ ap (λ x. Nonterminal (at_room r (inner f.room)) ∷ x) (sym is), omega arith)

  pub next_inside : (r : Rule) (n : ℕ) → n ≡ f.room - 1 → f.rest.now ≡ Inside r ∷ g.rest.now → IsNext old new (Goal r n)
  next_inside r n q h =
      let same : inner f.room ≡ n = inner_is f.room ∙ sym q in
      subst (λ x. IsNext old new (Goal r x)) same (inner_next r h)

pub skipped : (old now fs : List Frame) (f : Frame) → symbols old [] ≡ symbols now [] → load now ≤ load old → now ≡ fs ++ f ∷ [] → length f.rest.now ≡ 0 → (symbols old [] ≡ symbols fs []) × (load fs ≤ load old)
skipped old now fs f e less popped none =
    let a : load now ≡ load fs + (1 + mass f.rest.now) = ap load popped ∙ load_top fs f in
    (e ∙ ap (λ x. symbols x []) popped ∙ top fs f [] ∙ ap (λ x. laid_out f.room x ++ symbols fs []) (nothing f.rest.now none), omega arith)
  where
    nothing : (l : Items) → length l ≡ 0 → l ≡ []
    nothing [] h = refl
    nothing (x ∷ l) h = absurd (omega arith)

pub next_is : (old new : List Frame) (x y : Next) → x ≡ y → IsNext old new x → IsNext old new y
next_is old new x y e h = subst (λ z. IsNext old new z) e h
