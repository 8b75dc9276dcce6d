-- What a name stands for among columns or variables.
use Rattle.std.specs.Prelude.{ℕ, Bool, true, false, ◌&&◌, is_none, Option, Some, None, Ok, Err, List, [], ◌∷◌, filter}
use Rattle.std.specs.Str.{bytes_eq}
use Rattle.cell_errors.specs.declared.fault.CellError.TheVariants as error
use Rattle.cell_errors.specs.Answers.{Answer, and_then}

-- the bytes of a name
abbrev pub Name : Type 0
Name = List ℕ

-- whether a qualifier is one that is asked for: `free` asks for none, else it is the one that is written, or any
abbrev pub is_asked : Bool → Option Name → Option Name → Bool
is_asked true written q = is_none q
is_asked false None q = true
is_asked false (Some p) None = false
is_asked false (Some p) (Some q) = bytes_eq q p

-- whether something of this qualifier and name is asked for
abbrev pub is_match : Bool → Option Name → Name → Option Name → Name → Bool
is_match free written name q n = is_asked free written q && bytes_eq n name

-- the only one, if there is any; two are an error
abbrev pub at_most_one : {X : Type 0} → List X → Answer (Option X)
at_most_one [] = Ok None
at_most_one (x ∷ []) = Ok (Some x)
at_most_one (x ∷ y ∷ more) = Err error.NoColumn

-- `q` and `n` are the qualifier and the name of each
module _ {X : Type 0} (q : X → Option Name) (n : X → Name) where
  -- whether it is asked for
  abbrev pub is_meant : Bool → Option Name → Name → X → Bool
  is_meant free written name x = is_match free written name (q x) (n x)

  -- the only one that is asked for
  abbrev pub matching : Bool → Option Name → Name → List X → Answer (Option X)
  matching free written name xs = at_most_one (filter (is_meant free written name) xs)

  -- that one, or an error where there is none
  abbrev pub or_no_column : Option X → Answer X
  or_no_column None = Err error.NoColumn
  or_no_column (Some x) = Ok x

  -- that one, or where there is none the only one of that name with any qualifier
  abbrev pub or_any : Name → List X → Option X → Answer X
  or_any name xs None = and_then (matching false None name xs) or_no_column
  or_any name xs (Some x) = Ok x

  -- the one of the written qualifier; for a bare name the one without a qualifier, else the one of any
  abbrev pub meant : Option Name → Name → List X → Answer X
  meant None name xs = and_then (matching true None name xs) (or_any name xs)
  meant (Some p) name xs = and_then (matching false (Some p) name xs) or_no_column
