-- What a fault of the outside says of its count.
use Rattle.std.specs.Prelude.{◌≡◌, ◌≤◌, ◌+◌, ◌-◌, ◌^◌, ℕ, min, Result, OnOk, OnErr, MatchResult}
use Rattle.outside_io.specs.declared.sink.WriteFault.{WriteFault}
use Rattle.outside_io.specs.declared.sink.WriteFault.TheVariants as fault
use Rattle.outside_io.specs.declared.shelf.ShelfFault.{ShelfFault}
use Rattle.outside_io.specs.declared.shelf.ShelfFault.TheVariants as shelf_fault

-- the count rose, or stands at its last value
abbrev pub Rose : ℕ → ℕ → Type 0
Rose before now = min (before + 1) (2 ^ 64 - 1) ≤ now

-- every error is a failure of the object, and every other answer leaves the count
pub record HasCause {T E : Type 0} (before now : ℕ) (result : Result T E) : Type 0 where
  pub later : before ≤ now
  pub failed : OnErr result (Rose before now)
  pub kept : OnOk result (now ≡ before)

-- what a fault of a write says of the count
abbrev pub Blames : ℕ → ℕ → WriteFault → Type 0
Blames before now fault.Failed = Rose before now
Blames before now fault.NoMemory = now ≡ before

-- `HasCause` of a write, where want of memory is an error that leaves the count
pub record HasWriteCause {T : Type 0} (before now : ℕ) (result : Result T WriteFault) : Type 0 where
  pub later : before ≤ now
  pub cause : MatchResult result (λ _. now ≡ before) (Blames before now)

-- what a fault of a fetch says of the count
abbrev pub BlamesShelf : ℕ → ℕ → ShelfFault → Type 0
BlamesShelf before now shelf_fault.Failed = Rose before now
BlamesShelf before now shelf_fault.NoMemory = now ≡ before

-- `HasCause` of a fetch, where want of memory is an error that leaves the count
pub record HasFetchCause {T : Type 0} (before now : ℕ) (result : Result T ShelfFault) : Type 0 where
  pub later : before ≤ now
  pub cause : MatchResult result (λ _. now ≡ before) (BlamesShelf before now)
