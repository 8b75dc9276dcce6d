-- The places of columns, counted from 1.
use Rattle.std.specs.Prelude.{ℕ, ◌+◌, Option, Ok, List}
use Rattle.cell_errors.specs.Answers.{Answer, and_then}
use Rattle.expr_meaning.specs.declared.bindings.ScopeColumn.{ScopeColumn}
use Rattle.expr_meaning.specs.Names.{Name}
use Rattle.relations.specs.Places.{place_of}

-- the place of the column that a name stands for
abbrev pub named_place : List ScopeColumn → Option Name → Name → Answer ℕ
named_place columns q name = and_then (place_of columns q name) (λ place. Ok (place + 1))
