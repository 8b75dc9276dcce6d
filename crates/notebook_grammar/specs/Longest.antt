-- The longest token at the front of a text.
use Rattle.std.specs.Prelude.{◌≡◌, ℕ, ◌<◌, ◌≤◌, List, [], ◌∷◌, Option, Some, None, take, length}
use Rattle.notebook_grammar.specs.declared.scan.Form.{Form}
use Rattle.notebook_grammar.specs.declared.scan.State.{State}
use Rattle.notebook_grammar.specs.declared.scan.State.TheVariants as state
use Rattle.notebook_grammar.specs.declared.scan.Found.{Found}
use Rattle.notebook_grammar.specs.Forms.{class_of, step, form_of}

-- one byte more, if there is a way so far
abbrev pub step_in : Option State → ℕ → Option State
step_in None b = None
step_in (Some s) b = step s (class_of b)

-- the form of a token that ends there
abbrev pub form_in : Option State → Option Form
form_in None = None
form_in (Some s) = form_of s

-- the form that the bytes end with, from a state on
abbrev pub ends_in : Option State → List ℕ → Option Form
ends_in o [] = form_in o
ends_in o (b ∷ bs) = ends_in (step_in o b) bs

-- the form of token that these bytes are, if they are one
abbrev pub token_of : List ℕ → Option Form
token_of = ends_in (Some state.Start)

-- so many bytes in front are a token of this form, and no more bytes are one; or none are
abbrev pub IsLongest : List ℕ → Option Found → Type 0
IsLongest text None = (n : ℕ) → n ≤ length text → token_of (take n text) ≡ None
IsLongest text (Some found) = (0 < found.length) × (found.length ≤ length text) × (token_of (take found.length text) ≡ Some found.form)
    × ((n : ℕ) → found.length < n → n ≤ length text → token_of (take n text) ≡ None)
