-- The tokens of a text, one after another, as the rules see them.
use Rattle.std.specs.Prelude.{◌≡◌, ℕ, ◌+◌, ◌<◌, ◌≤◌, nat_le, ◌==◌, ◌||◌, Bool, true, false, List, [], ◌∷◌, Some, drop, take, length, slice_get, Option, None}
use Rattle.std.specs.Option.{is_some}
use Rattle.value_types.specs.Numbers.{int_of, fixed_of}
use Rattle.notebook_grammar.specs.declared.kind.Kind.{Kind}
use Rattle.notebook_grammar.specs.declared.kind.Kind.TheVariants as k
use Rattle.notebook_grammar.specs.declared.scan.Form.{Form}
use Rattle.notebook_grammar.specs.declared.scan.Form.TheVariants as form
use Rattle.notebook_grammar.specs.declared.scan.Found.{Found}
use Rattle.notebook_grammar.specs.declared.lexeme.Lexeme.{Lexeme}
use Rattle.notebook_grammar.specs.Words.{kind_of_word}
use Rattle.notebook_grammar.specs.Longest.{IsLongest}

-- space, TAB, CR and LF
abbrev pub is_blank : ℕ → Bool
is_blank b = b == 32 || b == 9 || b == 13 || b == 10

-- a word has at most 32 bytes, a number is one of 64 bits
abbrev pub is_small : Form → List ℕ → Bool
is_small form.Word text = nat_le (length text) 32
is_small form.Whole text = is_some (int_of text)
is_small form.Decimal text = is_some (fixed_of text)
is_small form.Quoted text = true
is_small (form.Mark kind) text = true

-- the kind of a token
abbrev pub kind_of : Form → List ℕ → Kind
kind_of form.Word text = kind_of_word text
kind_of form.Whole text = k.Whole
kind_of form.Decimal text = k.Decimal
kind_of form.Quoted text = k.Quoted
kind_of (form.Mark kind) text = kind

-- the number of CAVEATs with a token more
abbrev pub calls_with : Kind → ℕ → ℕ
calls_with k.Caveat n = n + 1
calls_with kind n = n

-- the lexeme is the longest token at its place, where that is small enough
pub record Begins (text : List ℕ) (calls : ℕ) (l : Lexeme) : Type 0 where
  pub form : Form
  pub size : ℕ
  pub longest : IsLongest (drop l.at text) (Some (record { form = form; length = size }))
  pub small : is_small form (take size (drop l.at text)) ≡ true
  pub end : l.end ≡ l.at + size
  pub kind : l.kind ≡ kind_of form (take size (drop l.at text))
  pub call : l.call ≡ calls_with l.kind calls

-- no token begins there, or the longest is too great
abbrev pub NoneBegins : List ℕ → ℕ → Type 0
NoneBegins text at = (found : Found) → IsLongest (drop at text) (Some found) → is_small found.form (take found.length (drop at text)) ≡ true → ⊥

-- the token that begins there, or that none does
abbrev pub IsTokenAt : List ℕ → ℕ → ℕ → Option Lexeme → Type 0
IsTokenAt text at calls None = NoneBegins text at
IsTokenAt text at calls (Some l) = Begins text calls l × (l.at ≡ at) × (at < l.end)

-- the lexemes from a place on, where the text has so many CAVEATs before
pub data LexemesFrom (text : List ℕ) : ℕ → ℕ → List Lexeme → Type 0 where
  ends : {at calls : ℕ} → at ≡ length text → LexemesFrom text at calls []
  blank : {at calls : ℕ} {b : ℕ} {ls : List Lexeme} → slice_get text at ≡ Some b → is_blank b ≡ true
      → LexemesFrom text (at + 1) calls ls → LexemesFrom text at calls ls
  token : {calls : ℕ} {l : Lexeme} {ls : List Lexeme} → Begins text calls l → LexemesFrom text l.end l.call ls → LexemesFrom text l.at calls (l ∷ ls)
  -- the first place where none begins
  stray : {at calls : ℕ} {b : ℕ} → slice_get text at ≡ Some b → is_blank b ≡ false → NoneBegins text at
      → LexemesFrom text at calls (record { at = at; end = at; kind = k.Stray; call = calls } ∷ [])

-- the lexemes of a text
abbrev pub LexemesOf : List ℕ → List Lexeme → Type 0
LexemesOf text ls = LexemesFrom text 0 0 ls

-- the place after the blanks, and that what holds from there holds from here
pub record Skips (text : List ℕ) (from to : ℕ) : Type 0 where
  pub within : to ≤ length text
  pub forward : from ≤ to
  pub next : to < length text → (b : ℕ) × (slice_get text to ≡ Some b) × (is_blank b ≡ false)
  pub lexemes : (calls : ℕ) (ls : List Lexeme) → LexemesFrom text to calls ls → LexemesFrom text from calls ls
