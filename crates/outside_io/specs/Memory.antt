-- What contracts see of a source, a sink and a shelf over memory.
use Rattle.std.specs.Prelude.{ℕ, ◌+◌, ◌-◌, ◌^◌, min, nat_lt, ◌==◌, Bool, ◌||◌, ◌&&◌, List, [], ◌∷◌, ◌++◌, length, drop}
use Rattle.std.specs.List.{list_any}

-- a source: the bytes left, the calls that are to fail, whether the end is one, and the calls and faults so far
pub record SourceState : Type 0 where
  pub left : List ℕ
  pub fails : List ℕ
  pub broken : Bool
  pub calls : ℕ
  pub faults : ℕ

-- a sink: the bytes taken, how many it has room for, the calls that are to fail, and the calls and faults so far
pub record SinkState : Type 0 where
  pub written : List ℕ
  pub room : ℕ
  pub fails : List ℕ
  pub calls : ℕ
  pub faults : ℕ

-- a shelf: the names and bytes of its files, the calls that are to fail, and the calls and faults so far
pub record ShelfState : Type 0 where
  pub files : List (List ℕ × List ℕ)
  pub fails : List ℕ
  pub calls : ℕ
  pub faults : ℕ

-- one more, up to the last value of a u64
abbrev pub one_more : ℕ → ℕ
one_more count = min (count + 1) (2 ^ 64 - 1)

-- whether the call after so many calls is one of those that are to fail
abbrev pub is_listed : List ℕ → ℕ → Bool
is_listed fails calls = list_any (λ number. number == one_more calls) fails

-- whether the next read fails: it is to fail, or nothing is left and the source is broken
abbrev pub read_fails : SourceState → Bool
read_fails s = is_listed s.fails s.calls || s.broken && length s.left == 0

-- how many bytes of a piece the sink has room for
abbrev pub fitting : SinkState → List ℕ → ℕ
fitting s piece = min (length piece) (s.room - length s.written)

-- whether the next write fails: it is to fail, or there is no room for a piece that isn't empty
abbrev pub write_fails : SinkState → List ℕ → Bool
write_fails s piece = is_listed s.fails s.calls || fitting s piece == 0 && nat_lt 0 (length piece)

-- the pieces, one after another
abbrev pub joined : List (List ℕ) → List ℕ
joined [] = []
joined (piece ∷ pieces) = piece ++ joined pieces

-- what is left of the pieces from a place on
abbrev pub left_from : List (List ℕ) → ℕ → ℕ → List ℕ
left_from pieces piece at = drop at (joined (drop piece pieces))
