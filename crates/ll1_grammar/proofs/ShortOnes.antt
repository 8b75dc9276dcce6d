-- A short sentence that the computing finds is one, at any room.
use Rattle.std.proofs.Common.{◌≡◌, ℕ, zero, suc, Bool, true, false, List, [], ◌∷◌, ◌++◌, Option, Some, None, refl, ap, ◌∙◌, subst}
use Rattle.std.specs.Prelude.{not, if◌then◌else◌}
use Rattle.ll1_grammar.specs.declared.symbol.Symbol.{Symbol}
use Rattle.ll1_grammar.specs.declared.item.Item.{Item}
use Rattle.ll1_grammar.specs.declared.item.Item.TheVariants.{Here, Inside, Do}
use Rattle.ll1_grammar.specs.declared.item.Bounded.{Bounded}
use Rattle.ll1_grammar.specs.declared.symbol.Step.{Step}
use Rattle.ll1_grammar.specs.declared.symbol.Step.TheVariants.{Took, Did}
use Rattle.ll1_grammar.specs.Grammar.{Grammar, Derives, ends, acts, takes, expands}
use Rattle.ll1_grammar.specs.Ahead.{IsProductive}
use Rattle.ll1_grammar.specs.Table.{Table, entry, nests, laid_out, where_it_fits, grammar_of}
use Rattle.ll1_grammar.specs.Short.{if_flat, if_flat_or, reads, AreShort}
use Rattle.ll1_grammar.proofs.Booleans.{and_left, and_right}

pub laid_out_joined : {R A : Type 0} (room : ℕ) (a b : List (Item R A)) → laid_out room (a ++ b) ≡ laid_out room a ++ laid_out room b
laid_out_joined room [] b = refl
laid_out_joined room (Here r ∷ a) b = let ih = laid_out_joined room a b in cc
laid_out_joined room (Inside r ∷ a) b = let ih = laid_out_joined room a b in cc
laid_out_joined room (Do x ∷ a) b = let ih = laid_out_joined room a b in cc

fits_any : {R A : Type 0} (room : ℕ) (s : List (Item R A)) → not (nests s) ≡ true → where_it_fits room (Some s) ≡ Some (laid_out room s)
fits_any zero s e = go (not (nests s)) e
  where
    go : (b : Bool) → b ≡ true → (let x : Option (List (Symbol _ _)) = if b then Some (laid_out zero s) else None in x) ≡ Some (laid_out zero s)
    go true e = refl
    go false e = cc
fits_any (suc room) s e = refl

module _ {R T A : Type 0} (table : Table R A) (kind : T → ℕ) (room : ℕ) where
  abbrev G : Grammar (Bounded R) T A
  G = grammar_of table kind

  abbrev Found : List (Item R A) → List T → Type 0
  Found s w = (m : List (Step T A)) × Derives G (laid_out room s) w m

  pub walked : (n : ℕ) (s : List (Item R A)) (w : List T) → reads table kind n s w ≡ true → Found s w
  walked zero s w e = cc
  walked (suc n) [] [] e = ([], ends)
  walked (suc n) [] (t ∷ w) e = cc
  walked (suc n) (Do a ∷ s) w e = let i = walked n s w e in (Did a ∷ i.0, acts i.1)
  walked (suc n) (Inside r ∷ s) w e = cc
  walked (suc n) (Here r ∷ s) [] e = by_other (λ d. walked n (d ++ s) []) (table.otherwise r) refl e
    where
      by_other : ((d : List (Item R A)) → reads table kind n (d ++ s) [] ≡ true → Found (d ++ s) []) → (o : Option (List (Item R A))) → table.otherwise r ≡ o → if_flat o (λ d. reads table kind n (d ++ s) []) ≡ true → Found (Here r ∷ s) []
      by_other ih None q e = cc
      by_other ih (Some d) q e =
          let i = ih d (and_right (not (nests d)) _ e) in
          (i.0, expands (ap (where_it_fits room) q ∙ fits_any room d (and_left (not (nests d)) _ e)) (subst (λ x. Derives G x [] i.0) (laid_out_joined room d s) i.1))
  walked (suc n) (Here r ∷ s) (t ∷ w) e = by_token (λ a. walked n (a ++ s) w) (λ d. walked n (d ++ s) (t ∷ w)) (entry (kind t) (table.alternatives r)) refl e
    where
      by_other : ((d : List (Item R A)) → reads table kind n (d ++ s) (t ∷ w) ≡ true → Found (d ++ s) (t ∷ w)) → (o : Option (List (Item R A))) → table.otherwise r ≡ o → if_flat o (λ d. reads table kind n (d ++ s) (t ∷ w)) ≡ true → Found (Here r ∷ s) (t ∷ w)
      by_other ih None q e = cc
      by_other ih (Some d) q e =
          let i = ih d (and_right (not (nests d)) _ e) in
          (i.0, expands (ap (where_it_fits room) q ∙ fits_any room d (and_left (not (nests d)) _ e)) (subst (λ x. Derives G x (t ∷ w) i.0) (laid_out_joined room d s) i.1))

      by_token : ((a : List (Item R A)) → reads table kind n (a ++ s) w ≡ true → Found (a ++ s) w) → ((d : List (Item R A)) → reads table kind n (d ++ s) (t ∷ w) ≡ true → Found (d ++ s) (t ∷ w)) → (o : Option (List (Item R A))) → entry (kind t) (table.alternatives r) ≡ o → if_flat_or o (λ a. reads table kind n (a ++ s) w) (if_flat (table.otherwise r) (λ d. reads table kind n (d ++ s) (t ∷ w))) ≡ true → Found (Here r ∷ s) (t ∷ w)
      by_token ih jh None q e = by_other jh (table.otherwise r) refl e
      by_token ih jh (Some a) q e =
          let i = ih a (and_right (not (nests a)) _ e) in
          (Took t ∷ i.0, takes (ap (where_it_fits room) q ∙ fits_any room a (and_left (not (nests a)) _ e)) (subst (λ x. Derives G x w i.0) (laid_out_joined room a s) i.1))

pub is_productive : {R T A : Type 0} (table : Table R A) (kind : T → ℕ) (n : ℕ) (short : R → List T) → AreShort table kind n short → IsProductive (grammar_of table kind)
is_productive table kind n short e = record {
  word = λ p. short p.rule;
  path = λ p. (walked table kind p.room n (Here p.rule ∷ []) (short p.rule) (e p.rule)).0;
  has = λ p. (walked table kind p.room n (Here p.rule ∷ []) (short p.rule) (e p.rule)).1;
}
