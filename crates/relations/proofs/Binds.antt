-- Columns and their values: a list of values that is at its end, and values that are read otherwise.
use Rattle.std.proofs.Common.{◌≡◌, ℕ, Bool, true, false, Some, None, List, [], ◌∷◌, map, drop, length, ◌≤◌, refl, ap, ◌∙◌}
use Rattle.std.specs.Prelude.{if◌then◌else◌}
use Rattle.std.proofs.lemmas.List.{drop_all}
use Rattle.dataset_types.specs.declared.row.Marked.{Marked}
use Rattle.dataset_types.specs.declared.picks.Pick.{Pick}
use Rattle.caveat_marks.specs.Shown.{shown_value}
use Rattle.expr_lang.specs.declared.expr.Expr.{Expr}
use Rattle.expr_meaning.specs.declared.bindings.ScopeColumn.{ScopeColumn}
use Rattle.expr_meaning.specs.Known.{known, unless_marked}
use Rattle.expr_meaning.specs.Settings.{at_row, plain_binding, known_binding, known_value}
use Rattle.expr_meaning.specs.Meaning.{marked_over_row, plain_over_row, known_over_row}
use Rattle.expr_meaning.proofs.Erased.{erases_to}
use Rattle.expr_meaning.proofs.KnownLaw.{is_known}
use Rattle.relations.specs.Bound.{each_bound, bound, bound_plain, bound_known, bindings, plain_bindings, known_bindings}

none : (cs : List ScopeColumn) → bindings cs [] ≡ []
none [] = refl
none (c ∷ cs) = refl

pub no_values : (cs : List ScopeColumn) (ms : List Marked) (n : ℕ) → length ms ≤ n → bindings cs (drop n ms) ≡ []
no_values cs ms n h = ap (bindings cs) (drop_all n ms h) ∙ none cs

-- bindings that are read otherwise are those of the values that are read otherwise
pub binds : {V W B C : Type 0} (f : ScopeColumn → V → B) (g : ScopeColumn → W → C) (e : B → C) (v : V → W) →
    ((c : ScopeColumn) (x : V) → e (f c x) ≡ g c (v x)) → (cs : List ScopeColumn) (xs : List V) → map e (each_bound f cs xs) ≡ each_bound g cs (map v xs)
binds f g e v one [] xs = refl
binds f g e v one (c ∷ cs) [] = refl
binds f g e v one (c ∷ cs) (x ∷ xs) =
    let more = binds f g e v one cs xs in λ i. one c x i ∷ more i

-- ---- without marks, and over what is known

pub binds_plain : (cs : List ScopeColumn) (ms : List Marked) → map plain_binding (bindings cs ms) ≡ plain_bindings cs (map (λ m. m.value) ms)
binds_plain cs ms = binds bound bound_plain plain_binding (λ m. m.value) (λ c m. refl) cs ms

pub known_is_shown : (m : Marked) → known_value m ≡ shown_value m
known_is_shown m = at m.marked
  where
    at : (b : Bool) → unless_marked b m.value ≡ (if b then None else Some m.value)
    at true = refl
    at false = refl

known_bound : (c : ScopeColumn) (m : Marked) → known_binding (bound c m) ≡ bound_known c (shown_value m)
known_bound c m = ap (bound_known c) (known_is_shown m)

pub binds_known : (cs : List ScopeColumn) (ms : List Marked) → map known_binding (bindings cs ms) ≡ known_bindings cs (map shown_value ms)
binds_known cs ms = binds bound bound_known known_binding shown_value known_bound cs ms

-- ---- an expression over the values of a row

module _ (columns : List ScopeColumn) (values : List Marked) (picks : List Pick) (cell : ℕ) (e : Expr) where
  pub over_plain : (marked_over_row (bindings columns values) picks cell e).answer ≡ plain_over_row (plain_bindings columns (map (λ m. m.value) values)) picks cell e
  over_plain = erases_to e (at_row (bindings columns values)) picks cell ∙ ap (λ row. plain_over_row row picks cell e) (binds_plain columns values)

  pub over_known : known (marked_over_row (bindings columns values) picks cell e) ≡ known_over_row (known_bindings columns (map shown_value values)) e
  over_known = is_known e (at_row (bindings columns values)) picks cell ∙ ap (λ row. known_over_row row e) (binds_known columns values)
