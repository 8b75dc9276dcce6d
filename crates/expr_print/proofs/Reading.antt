-- A text of tokens with a space after each has these tokens.
use Rattle.std.proofs.Common.{◌≡◌, ℕ, zero, suc, ◌+◌, ◌-◌, ◌<◌, Bool, true, false, List, [], ◌∷◌, ◌++◌, Option, Some, None, length, take, drop, refl, sym, ap, ◌∙◌, subst, arith, append_assoc, length-append}
use Rattle.std.specs.Prelude.{slice_get, slice_range, if◌then◌else◌}
use Rattle.std.proofs.Math.Seq.{drop-append_seam, take-append_seam}
use Rattle.notebook_grammar.specs.declared.kind.Kind.{Kind}
use Rattle.notebook_grammar.specs.declared.scan.Form.{Form}
use Rattle.notebook_grammar.specs.declared.scan.State.{State}
use Rattle.notebook_grammar.specs.declared.scan.State.TheVariants as state
use Rattle.notebook_grammar.specs.declared.lexeme.Lexeme.{Lexeme}
use Rattle.notebook_grammar.specs.Longest.{step_in, form_in, ends_in, token_of, IsLongest}
use Rattle.notebook_grammar.specs.Lexemes.{is_small, kind_of, calls_with, Begins, LexemesFrom, ends, blank, token}
use Rattle.notebook_grammar.proofs.OneReading.{ends_nowhere}
use Rattle.expr_parse.specs.Values.{token_text}
use Rattle.expr_print.specs.Tokens.{Tokens, spaced}

-- the kind of a token of this form, where it is small enough
abbrev pub kind_by : Option Form → List ℕ → Option Kind
kind_by None t = None
kind_by (Some f) t = if is_small f t then Some (kind_of f t) else None

-- the kind of the token that the bytes are
abbrev pub kind_in : List ℕ → Option Kind
kind_in t = kind_by (token_of t) t

-- each of the texts is a token
abbrev pub AreTokens : Tokens → Type 0
AreTokens [] = Unit {0}
AreTokens (t ∷ ts) = ((kind : Kind) × (kind_in t ≡ Some kind)) × AreTokens ts

-- the lexeme is this token, after so many CAVEATs
pub record Shows (text : List ℕ) (calls : ℕ) (t : List ℕ) (l : Lexeme) : Type 0 where
  pub bytes : token_text text l ≡ t
  pub kind : kind_in t ≡ Some l.kind
  pub call : l.call ≡ calls_with l.kind calls

-- the lexemes are these tokens, after so many CAVEATs; then there are so many
pub data Reads (text : List ℕ) : ℕ → Tokens → List Lexeme → ℕ → Type 0 where
  none : {calls : ℕ} → Reads text calls [] [] calls
  one : {calls end : ℕ} {t : List ℕ} {ts : Tokens} {l : Lexeme} {ls : List Lexeme} → Shows text calls t l → Reads text l.call ts ls end → Reads text calls (t ∷ ts) (l ∷ ls) end

-- ---- a space ends each token

stops : (o : Option State) (f : Form) → form_in o ≡ Some f → step_in o 32 ≡ None
stops None f e = refl
stops (Some state.Open) f e = cc
stops (Some s) f e = refl

past : (o : Option State) (t rest : List ℕ) (f : Form) → ends_in o t ≡ Some f → (n : ℕ) → length t < n → ends_in o (take n (t ++ 32 ∷ rest)) ≡ None
past o [] rest f e zero h = absurd (omega arith)
past o [] rest f e (suc n) h = ap (λ x. ends_in x (take n rest)) (stops o f e) ∙ ends_nowhere (take n rest)
past o (b ∷ t) rest f e zero h = absurd (omega arith)
past o (b ∷ t) rest f e (suc n) h = past (step_in o b) t rest f e n (omega (arith, h))

some_bytes : (t : List ℕ) (f : Form) → token_of t ≡ Some f → 0 < length t
some_bytes [] f e = cc
some_bytes (b ∷ t) f e = omega arith

longest : (t rest : List ℕ) (f : Form) → token_of t ≡ Some f → IsLongest (t ++ 32 ∷ rest) (Some (record { form = f; length = length t }))
longest t rest f e = (
  some_bytes t f e,
  (let n : length (t ++ 32 ∷ rest) ≡ length t + length (32 ∷ rest) = length-append t (32 ∷ rest) in omega (arith, n)),
  ap token_of (take-append_seam t (32 ∷ rest)) ∙ e,
  λ n h i. past (Some state.Start) t rest f e n h,
)

-- ---- a token at its place

got_after : (front : List ℕ) (b : ℕ) (rest : List ℕ) → slice_get (front ++ b ∷ rest) (length front) ≡ Some b
got_after [] b rest = refl
got_after (x ∷ front) b rest = got_after front b rest

-- what a token's kind says of it
record IsToken (t : List ℕ) (kind : Kind) : Type 0 where
  form : Form
  whole : token_of t ≡ Some form
  small : is_small form t ≡ true
  same : kind_of form t ≡ kind

is_token : (t : List ℕ) (kind : Kind) (o : Option Form) → token_of t ≡ o → kind_by o t ≡ Some kind → IsToken t kind
is_token t kind None e h = cc
is_token t kind (Some f) e h = go (is_small f t) refl h
  where
    go : (b : Bool) → is_small f t ≡ b → (if b then Some (kind_of f t) else None) ≡ Some kind → IsToken t kind
    go true s i = let same : kind_of f t ≡ kind = cc in record { form = f; whole = e; small = s; same = same }
    go false s i = cc

module _ (text front t rest : List ℕ) (e : text ≡ front ++ (t ++ 32 ∷ rest)) where
  here : drop (length front) text ≡ t ++ 32 ∷ rest
  here = ap (drop (length front)) e ∙ drop-append_seam front (t ++ 32 ∷ rest)

  its_bytes : take (length t) (drop (length front) text) ≡ t
  its_bytes = ap (take (length t)) here ∙ take-append_seam t (32 ∷ rest)

  sliced : slice_range text (length front) (length front + length t) ≡ t
  sliced = let n : length front + length t - length front ≡ length t = omega arith in ap (λ i. take i (drop (length front) text)) n ∙ its_bytes

  space_after : slice_get text (length front + length t) ≡ Some 32
  space_after =
      let n : length front + length t ≡ length (front ++ t) = sym (length-append front t) in
      ap (slice_get text) n ∙ ap (λ x. slice_get x (length (front ++ t))) (e ∙ sym (append_assoc front t (32 ∷ rest))) ∙ got_after (front ++ t) 32 rest

  begins : (calls : ℕ) (kind : Kind) → IsToken t kind → Begins text calls (record { at = length front; end = length front + length t; kind = kind; call = calls_with kind calls })
  begins calls kind is = record {
    form = is.form;
    size = length t;
    longest = subst (λ x. IsLongest x (Some (record { form = is.form; length = length t }))) (sym here) (longest t rest is.form is.whole);
    small = ap (is_small is.form) its_bytes ∙ is.small;
    end = refl;
    kind = sym (ap (kind_of is.form) its_bytes ∙ is.same);
    call = refl;
  }

  shows : (calls : ℕ) (kind : Kind) → kind_in t ≡ Some kind → Shows text calls t (record { at = length front; end = length front + length t; kind = kind; call = calls_with kind calls })
  shows calls kind k = record { bytes = sliced; kind = k; call = refl }

-- the lexemes of a text of tokens are these tokens
pub record Lexed (text : List ℕ) (at calls : ℕ) (ts : Tokens) : Type 0 where
  pub lexemes : List Lexeme
  pub last : ℕ
  pub from : LexemesFrom text at calls lexemes
  pub reads : Reads text calls ts lexemes last

pub lexed : (text : List ℕ) (ts : Tokens) → AreTokens ts → (front : List ℕ) → text ≡ front ++ spaced ts → (calls : ℕ) → Lexed text (length front) calls ts
lexed text [] all front e calls =
    let n : length front ≡ length text = sym (ap length e ∙ length-append front [] ∙ (let m : length front + 0 ≡ length front = omega arith in m)) in
    record { lexemes = []; last = calls; from = ends n; reads = none }
lexed text (t ∷ ts) all front e calls =
    let kind = all.0.0 in
    let next = lexed text ts all.1 (front ++ (t ++ 32 ∷ [])) (e ∙ ap (λ x. front ++ x) (sym (append_assoc t (32 ∷ []) (spaced ts))) ∙ sym (append_assoc front (t ++ 32 ∷ []) (spaced ts))) (calls_with kind calls) in
    let n : length (front ++ (t ++ 32 ∷ [])) ≡ length front + length t + 1 =
    length-append front (t ++ 32 ∷ []) ∙ ap (λ m. length front + m) (length-append t (32 ∷ [])) ∙ (let m : length front + (length t + 1) ≡ length front + length t + 1 = omega arith in m) in
    let after = subst (λ m. LexemesFrom text m (calls_with kind calls) next.lexemes) n next.from in
    record {
      lexemes = record { at = length front; end = length front + length t; kind = kind; call = calls_with kind calls } ∷ next.lexemes;
      last = next.last;
      from = token (begins text front t (spaced ts) e calls kind (is_token t kind (token_of t) refl all.0.1)) (blank (space_after text front t (spaced ts) e) refl after);
      reads = one (shows text front t (spaced ts) e calls kind all.0.1) next.reads;
    }
