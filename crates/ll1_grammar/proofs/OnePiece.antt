-- A machine of pieces that keeps to the shapes never lacks a piece along a derivation.
use Rattle.std.proofs.Common.{◌≡◌, ℕ, Bool, true, false, List, [], ◌∷◌, ◌++◌, Option, Some, None, refl, sym, ap, ◌∙◌, subst, append_assoc, map}
use Rattle.std.specs.Prelude.{◌==◌, ◌&&◌, if◌then◌else◌}
use Rattle.ll1_grammar.specs.declared.symbol.Symbol.{Symbol}
use Rattle.ll1_grammar.specs.declared.symbol.Symbol.TheVariants.{Nonterminal, Action}
use Rattle.ll1_grammar.specs.declared.item.Item.{Item}
use Rattle.ll1_grammar.specs.declared.item.Item.TheVariants.{Here, Inside, Do}
use Rattle.ll1_grammar.specs.declared.item.Bounded.{Bounded}
use Rattle.ll1_grammar.specs.declared.symbol.Step.{Step}
use Rattle.ll1_grammar.specs.Grammar.{Derives, ends, acts, takes, expands}
use Rattle.ll1_grammar.specs.Table.{Table, entry, laid_out, grammar_of}
use Rattle.ll1_grammar.specs.Pieces.{Shapes, Effects, below, put_on, and_then, flow, AlternativesFlow, OtherwiseFlows, RulesFlow, Builder, built, Part, is_of, alternatives_of, otherwise_of, IsClosed, KeepsShapes}
use Rattle.ll1_grammar.proofs.Booleans.{and_both, and_left, and_right}
use Rattle.ll1_grammar.proofs.Tested.{from_entry, same_number}

-- the shapes after the symbols
abbrev flow_symbols : {R A : Type 0} → Effects R A → List (Symbol (Bounded R) A) → Shapes → Option Shapes
flow_symbols f [] sh = Some sh
flow_symbols f (Nonterminal n ∷ s) sh = and_then (put_on (f.leaves n.rule) (below (f.needs n.rule) sh)) (flow_symbols f s)
flow_symbols f (Action a ∷ s) sh = and_then (put_on (f.pushes a) (below (f.pops a) sh)) (flow_symbols f s)

-- what lies deeper stays
below_more : (xs sh more rest : Shapes) → below xs sh ≡ Some rest → below xs (sh ++ more) ≡ Some (rest ++ more)
below_more [] sh more rest e = let h : sh ≡ rest = cc in ap (λ z. Some (z ++ more)) h
below_more (x ∷ xs) [] more rest e = cc
below_more (x ∷ xs) (y ∷ ys) more rest e = go (below_more xs ys more rest) (x == y) e
  where
    go : (below xs ys ≡ Some rest → below xs (ys ++ more) ≡ Some (rest ++ more)) → (t : Bool) → (let o : Option Shapes = if t then below xs ys else None in o) ≡ Some rest → (let o : Option Shapes = if t then below xs (ys ++ more) else None in o) ≡ Some (rest ++ more)
    go ih true e = ih e
    go ih false e = cc

module _ {R A : Type 0} (f : Effects R A) where
  flow_joined : (r s : List (Symbol (Bounded R) A)) (a b more : Shapes) → flow_symbols f r a ≡ Some b → flow_symbols f (r ++ s) (a ++ more) ≡ flow_symbols f s (b ++ more)
  flow_joined [] s a b more e = let h : a ≡ b = cc in ap (λ z. flow_symbols f s (z ++ more)) h
  flow_joined (Nonterminal n ∷ r) s a b more e = go (λ c. flow_joined r s c b more) (below (f.needs n.rule) a) refl e
    where
      go : ((c : Shapes) → flow_symbols f r c ≡ Some b → flow_symbols f (r ++ s) (c ++ more) ≡ flow_symbols f s (b ++ more)) → (o : Option Shapes) → below (f.needs n.rule) a ≡ o → and_then (put_on (f.leaves n.rule) o) (flow_symbols f r) ≡ Some b
          → and_then (put_on (f.leaves n.rule) (below (f.needs n.rule) (a ++ more))) (flow_symbols f (r ++ s)) ≡ flow_symbols f s (b ++ more)
      go ih None h e = cc
      go ih (Some rest) h e =
          ap (λ o. and_then (put_on (f.leaves n.rule) o) (flow_symbols f (r ++ s))) (below_more (f.needs n.rule) a more rest h)
          ∙ ap (flow_symbols f (r ++ s)) (sym (append_assoc (f.leaves n.rule) rest more)) ∙ ih (f.leaves n.rule ++ rest) e
  flow_joined (Action x ∷ r) s a b more e = go (λ c. flow_joined r s c b more) (below (f.pops x) a) refl e
    where
      go : ((c : Shapes) → flow_symbols f r c ≡ Some b → flow_symbols f (r ++ s) (c ++ more) ≡ flow_symbols f s (b ++ more)) → (o : Option Shapes) → below (f.pops x) a ≡ o → and_then (put_on (f.pushes x) o) (flow_symbols f r) ≡ Some b
          → and_then (put_on (f.pushes x) (below (f.pops x) (a ++ more))) (flow_symbols f (r ++ s)) ≡ flow_symbols f s (b ++ more)
      go ih None h e = cc
      go ih (Some rest) h e =
          ap (λ o. and_then (put_on (f.pushes x) o) (flow_symbols f (r ++ s))) (below_more (f.pops x) a more rest h)
          ∙ ap (flow_symbols f (r ++ s)) (sym (append_assoc (f.pushes x) rest more)) ∙ ih (f.pushes x ++ rest) e

  laid_out_flow : (room : ℕ) (s : List (Item R A)) (a b : Shapes) → flow f s a ≡ Some b → flow_symbols f (laid_out room s) a ≡ Some b
  laid_out_flow room [] a b e = e
  laid_out_flow room (Here r ∷ s) a b e = go (laid_out_flow room s) (put_on (f.leaves r) (below (f.needs r) a)) e
    where
      go : ((a b : Shapes) → flow f s a ≡ Some b → flow_symbols f (laid_out room s) a ≡ Some b) → (o : Option Shapes) → and_then o (flow f s) ≡ Some b → and_then o (flow_symbols f (laid_out room s)) ≡ Some b
      go ih None e = e
      go ih (Some c) e = ih c b e
  laid_out_flow room (Inside r ∷ s) a b e = go (laid_out_flow room s) (put_on (f.leaves r) (below (f.needs r) a)) e
    where
      go : ((a b : Shapes) → flow f s a ≡ Some b → flow_symbols f (laid_out room s) a ≡ Some b) → (o : Option Shapes) → and_then o (flow f s) ≡ Some b → and_then o (flow_symbols f (laid_out room s)) ≡ Some b
      go ih None e = e
      go ih (Some c) e = ih c b e
  laid_out_flow room (Do x ∷ s) a b e = go (laid_out_flow room s) (put_on (f.pushes x) (below (f.pops x) a)) e
    where
      go : ((a b : Shapes) → flow f s a ≡ Some b → flow_symbols f (laid_out room s) a ≡ Some b) → (o : Option Shapes) → and_then o (flow f s) ≡ Some b → and_then o (flow_symbols f (laid_out room s)) ≡ Some b
      go ih None e = e
      go ih (Some c) e = ih c b e

below_is : (xs sh rest : Shapes) → below xs sh ≡ Some rest → sh ≡ xs ++ rest
below_is [] sh rest e = cc
below_is (x ∷ xs) [] rest e = cc
below_is (x ∷ xs) (y ∷ ys) rest e = go (below_is xs ys rest) (x == y) refl e
  where
    go : (below xs ys ≡ Some rest → ys ≡ xs ++ rest) → (t : Bool) → x == y ≡ t → (let o : Option Shapes = if t then below xs ys else None in o) ≡ Some rest → y ∷ ys ≡ x ∷ (xs ++ rest)
    go ih true q e = let h = ih e in let k = same_number x y q in cc
    go ih false q e = cc

entry_flows : {R A : Type 0} (f : Effects R A) (r : R) (k : ℕ) (ps : List (ℕ × List (Item R A))) (s : List (Item R A)) → AlternativesFlow f r ps → entry k ps ≡ Some s → flow f s (f.token k ++ f.needs r) ≡ Some (f.leaves r)
entry_flows f r k [] s a e = cc
entry_flows f r k (p ∷ ps) s a e = go (entry_flows f r k ps s a.1) (k == p.0) refl e
  where
    go : (entry k ps ≡ Some s → flow f s (f.token k ++ f.needs r) ≡ Some (f.leaves r)) → (t : Bool) → k == p.0 ≡ t → (if t then Some p.1 else entry k ps) ≡ Some s → flow f s (f.token k ++ f.needs r) ≡ Some (f.leaves r)
    go ih true q e =
        let same : p.1 ≡ s = cc in let n = same_number k p.0 q in
        subst (λ z. flow f z (f.token k ++ f.needs r) ≡ Some (f.leaves r)) same (subst (λ z. flow f p.1 (f.token z ++ f.needs r) ≡ Some (f.leaves r)) (sym n) a.0)
    go ih false q e = ih e

-- ---- a part of the table

module _ {R A : Type 0} (part : Part R A) where
  -- whether the symbols are of the part
  abbrev all_of : List (Symbol (Bounded R) A) → Bool
  all_of [] = true
  all_of (Nonterminal n ∷ s) = part.rules n.rule && all_of s
  all_of (Action a ∷ s) = part.actions a && all_of s

  all_joined : (room : ℕ) (d : List (Item R A)) (s : List (Symbol (Bounded R) A)) → is_of part d ≡ true → all_of s ≡ true → all_of (laid_out room d ++ s) ≡ true
  all_joined room [] s e h = h
  all_joined room (Here r ∷ d) s e h = and_both (part.rules r) _ (and_left (part.rules r) _ e) (all_joined room d s (and_right (part.rules r) _ e) h)
  all_joined room (Inside r ∷ d) s e h = and_both (part.rules r) _ (and_left (part.rules r) _ e) (all_joined room d s (and_right (part.rules r) _ e) h)
  all_joined room (Do a ∷ d) s e h = and_both (part.actions a) _ (and_left (part.actions a) _ e) (all_joined room d s (and_right (part.actions a) _ e) h)

  entry_of : (k : ℕ) (ps : List (ℕ × List (Item R A))) (d : List (Item R A)) → alternatives_of part ps ≡ true → entry k ps ≡ Some d → is_of part d ≡ true
  entry_of k [] d a e = cc
  entry_of k (p ∷ ps) d a e = go (entry_of k ps d) (k == p.0) e
    where
      go : (alternatives_of part ps ≡ true → entry k ps ≡ Some d → is_of part d ≡ true) → (t : Bool) → (if t then Some p.1 else entry k ps) ≡ Some d → is_of part d ≡ true
      go ih true e = let same : p.1 ≡ d = cc in subst (λ z. is_of part z ≡ true) same (and_left (is_of part p.1) _ a)
      go ih false e = ih (and_right (is_of part p.1) _ a) e

  other_of : (o : Option (List (Item R A))) (d : List (Item R A)) → otherwise_of part o ≡ true → o ≡ Some d → is_of part d ≡ true
  other_of o d a e = subst (λ z. otherwise_of part z ≡ true) e a

module _ {R T A P : Type 0} (table : Table R A) (kind : T → ℕ) (f : Effects R A) (flows : RulesFlow table f)
    (part : Part R A) (closed : IsClosed table part)
    (b : Builder T A P) (shape : P → ℕ)
    (keeps : KeepsShapes part b f kind shape) where
  Reached : List (Step T A) → List P → Shapes → Type 0
  Reached m st out = (st' : List P) × (built b m st ≡ Some st') × (map shape st' ≡ out)

  step_flow : (n : Bounded R) (s : List (Symbol (Bounded R) A)) (sh out : Shapes) → flow_symbols f (Nonterminal n ∷ s) sh ≡ Some out → (rest : Shapes) × (sh ≡ f.needs n.rule ++ rest) × (flow_symbols f s (f.leaves n.rule ++ rest) ≡ Some out)
  step_flow n s sh out e = go (below (f.needs n.rule) sh) refl e
    where
      go : (o : Option Shapes) → below (f.needs n.rule) sh ≡ o → and_then (put_on (f.leaves n.rule) o) (flow_symbols f s) ≡ Some out → (rest : Shapes) × (sh ≡ f.needs n.rule ++ rest) × (flow_symbols f s (f.leaves n.rule ++ rest) ≡ Some out)
      go None q e = cc
      go (Some rest) q e = (rest, below_is (f.needs n.rule) sh rest q, e)

  act_flow : (a : A) (s : List (Symbol (Bounded R) A)) (sh out : Shapes) → flow_symbols f (Action a ∷ s) sh ≡ Some out → (rest : Shapes) × (sh ≡ f.pops a ++ rest) × (flow_symbols f s (f.pushes a ++ rest) ≡ Some out)
  act_flow a s sh out e = go (below (f.pops a) sh) refl e
    where
      go : (o : Option Shapes) → below (f.pops a) sh ≡ o → and_then (put_on (f.pushes a) o) (flow_symbols f s) ≡ Some out → (rest : Shapes) × (sh ≡ f.pops a ++ rest) × (flow_symbols f s (f.pushes a ++ rest) ≡ Some out)
      go None q e = cc
      go (Some rest) q e = (rest, below_is (f.pops a) sh rest q, e)

  never_stuck : {s : List (Symbol (Bounded R) A)} {w : List T} {m : List (Step T A)} → Derives (grammar_of table kind) s w m → all_of part s ≡ true → (st : List P) (out : Shapes) → flow_symbols f s (map shape st) ≡ Some out → Reached m st out
  unfolding Reached
  never_stuck ends all st out e = (st, refl, cc)
  never_stuck (acts {a = a} {s = s} {steps = m} d) all st out e =
      let i = act_flow a s (map shape st) out e in
      let j = keeps.did a (and_left (part.actions a) _ all) st i.0 i.1 in
      let k = never_stuck d (and_right (part.actions a) _ all) j.0 out (ap (flow_symbols f s) j.2 ∙ i.2) in
      (k.0, ap (λ o. and_then o (built b m)) j.1 ∙ k.1, k.2)
  never_stuck (takes {n = n} {t = t} {r = r} {s = s} h d) all st out e =
      let i = step_flow n s (map shape st) out e in
      let entry = from_entry n.room (entry (kind t) (table.alternatives n.rule)) r h in
      let fl = laid_out_flow f n.room entry.0 _ _ (entry_flows f n.rule (kind t) (table.alternatives n.rule) entry.0 (flows n.rule).0 entry.1) in
      let on = flow_joined f (laid_out n.room entry.0) s _ _ i.0 fl in
      let start = ap (flow_symbols f (r ++ s)) (keeps.took t st ∙ ap (λ z. f.token (kind t) ++ z) i.1 ∙ sym (append_assoc (f.token (kind t)) (f.needs n.rule) i.0)) in
      let same = ap (λ z. flow_symbols f (z ++ s) ((f.token (kind t) ++ f.needs n.rule) ++ i.0)) entry.2 in
      let inside = closed n.rule (and_left (part.rules n.rule) _ all) in
      let of = entry_of part (kind t) (table.alternatives n.rule) entry.0 (and_left (alternatives_of part (table.alternatives n.rule)) _ inside) entry.1 in
      let still = subst (λ z. all_of part (z ++ s) ≡ true) (sym entry.2) (all_joined part n.room entry.0 s of (and_right (part.rules n.rule) _ all)) in
      never_stuck d still (b.took t st) out (start ∙ same ∙ on ∙ i.2)
  never_stuck (expands {n = n} {r = r} {s = s} h d) all st out e =
      let i = step_flow n s (map shape st) out e in
      let entry = from_entry n.room (table.otherwise n.rule) r h in
      let fl = laid_out_flow f n.room entry.0 _ _ (subst (λ o. OtherwiseFlows f n.rule o) entry.1 (flows n.rule).1) in
      let on = flow_joined f (laid_out n.room entry.0) s _ _ i.0 fl in
      let same = ap (λ z. flow_symbols f (z ++ s) (f.needs n.rule ++ i.0)) entry.2 in
      let inside = closed n.rule (and_left (part.rules n.rule) _ all) in
      let of = other_of part (table.otherwise n.rule) entry.0 (and_right (alternatives_of part (table.alternatives n.rule)) _ inside) entry.1 in
      let still = subst (λ z. all_of part (z ++ s) ≡ true) (sym entry.2) (all_joined part n.room entry.0 s of (and_right (part.rules n.rule) _ all)) in
      never_stuck d still st out (ap (flow_symbols f (r ++ s)) i.1 ∙ same ∙ on ∙ i.2)

  -- a sentence of one rule that needs nothing and leaves one piece
  pub one_piece : (n : Bounded R) (x : ℕ) (w : List T) (m : List (Step T A)) → part.rules n.rule ≡ true → f.needs n.rule ≡ [] → f.leaves n.rule ≡ x ∷ [] → Derives (grammar_of table kind) (Nonterminal n ∷ []) w m → (p : P) × (built b m [] ≡ Some (p ∷ [])) × (shape p ≡ x)
  unfolding Reached
  one_piece n x w m of none one d = let k = never_stuck d (and_both (part.rules n.rule) _ of refl) [] (x ∷ []) begins_so in finish k.0 k.1 k.2
    where
      begins_so : flow_symbols f (Nonterminal n ∷ []) [] ≡ Some (x ∷ [])
      begins_so = ap (λ z. and_then (put_on (f.leaves n.rule) (below z [])) (flow_symbols f [])) none ∙ ap (λ z. Some (z ++ [])) one

      finish : (st : List P) → built b m [] ≡ Some st → map shape st ≡ x ∷ [] → (p : P) × (built b m [] ≡ Some (p ∷ [])) × (shape p ≡ x)
      finish [] e h = cc
      finish (p ∷ []) e h = (p, e, cc)
      finish (p ∷ q ∷ st) e h = cc
