-- Grammars written as tables, with a bound on nesting.
use Rattle.std.specs.Prelude.{ℕ, zero, suc, ◌==◌, Bool, true, false, not, if◌then◌else◌, List, [], ◌∷◌, Option, Some, None}
use Rattle.ll1_grammar.specs.declared.symbol.Symbol.{Symbol}
use Rattle.ll1_grammar.specs.declared.symbol.Symbol.TheVariants.{Nonterminal, Action}
use Rattle.ll1_grammar.specs.declared.item.Item.{Item}
use Rattle.ll1_grammar.specs.declared.item.Item.TheVariants.{Here, Inside, Do}
use Rattle.ll1_grammar.specs.declared.item.Bounded.{Bounded}
use Rattle.ll1_grammar.specs.Grammar.{Grammar}

-- for each rule: what comes after a token of a kind, kinds being numbers, and maybe one other side
pub record Table (R A : Type 0) : Type 0 where
  pub alternatives : R → List (ℕ × List (Item R A))
  pub otherwise : R → Option (List (Item R A))

-- the first entry for a kind
abbrev pub entry : {B : Type 0} → ℕ → List (ℕ × B) → Option B
entry k [] = None
entry k (p ∷ ps) = if k == p.0 then Some p.1 else entry k ps

-- whether some item nests
abbrev pub nests : {R A : Type 0} → List (Item R A) → Bool
nests [] = false
nests (Here r ∷ s) = nests s
nests (Inside r ∷ s) = true
nests (Do a ∷ s) = nests s

-- the room one level further in
abbrev pub inner : ℕ → ℕ
inner zero = 0
inner (suc room) = room

-- the items as symbols, each rule with its room
abbrev pub laid_out : {R A : Type 0} → ℕ → List (Item R A) → List (Symbol (Bounded R) A)
laid_out room [] = []
laid_out room (Here r ∷ s) = Nonterminal (record { rule = r; room = room }) ∷ laid_out room s
laid_out room (Inside r ∷ s) = Nonterminal (record { rule = r; room = inner room }) ∷ laid_out room s
laid_out room (Do a ∷ s) = Action a ∷ laid_out room s

-- what nests is there only where there is room
abbrev pub fits : {R A : Type 0} → ℕ → List (Item R A) → Bool
fits zero s = not (nests s)
fits (suc room) s = true

-- the symbols of an entry, if there is one and it fits
abbrev pub where_it_fits : {R A : Type 0} → ℕ → Option (List (Item R A)) → Option (List (Symbol (Bounded R) A))
where_it_fits room None = None
where_it_fits room (Some s) = if fits room s then Some (laid_out room s) else None

-- the table's grammar, whose nonterminals are rules with their room
abbrev pub grammar_of : {R T A : Type 0} → Table R A → (T → ℕ) → Grammar (Bounded R) T A
grammar_of table kind = record {
  after = λ n t. where_it_fits n.room (entry (kind t) (table.alternatives n.rule));
  otherwise = λ n. where_it_fits n.room (table.otherwise n.rule);
}
