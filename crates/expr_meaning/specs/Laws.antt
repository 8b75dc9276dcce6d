-- The laws of the readings.
use Rattle.std.specs.Prelude.{◌≡◌, ℕ, List}
use Rattle.expr_lang.specs.declared.expr.Expr.{Expr}
use Rattle.dataset_types.specs.declared.picks.Pick.{Pick}
use Rattle.expr_meaning.specs.Known.{known}
use Rattle.expr_meaning.specs.Settings.{MarkedSetting, plain_setting, known_setting}
use Rattle.expr_meaning.specs.Meaning.{plain_meaning, marked_at, known_meaning}

-- dropping the marks before an evaluation or after it is one thing
abbrev pub ErasesTo : Expr → Type 0
ErasesTo e = (s : MarkedSetting) (picks : List Pick) (cell : ℕ) → (marked_at s picks cell e).answer ≡ plain_meaning picks cell e (plain_setting s)

-- what is known of an outcome is what the known values give, whatever the picks
abbrev pub IsKnown : Expr → Type 0
IsKnown e = (s : MarkedSetting) (picks : List Pick) (cell : ℕ) → known (marked_at s picks cell e) ≡ known_meaning e (known_setting s)
