-- Lists of the code that are searched from the front.
use Rattle.std.proofs.Common.{◌≡◌, ℕ, suc, ◌+◌, ◌<◌, ◌≤◌, true, false, List, ◌∷◌, Some, length, drop, get_or, map, sym, ap, ◌∙◌, arith}
use Rattle.std.specs.Prelude.{if◌then◌else◌, ◌==◌}
use Rattle.std.proofs.Math.Seq.{drop-cons}
use Rattle.std.proofs.Math.ListN.{drop_of_length-le}
use Rattle.notebook_grammar.specs.declared.kind.Kind.TheVariants as k
use Rattle.notebook_grammar.specs.declared.words.Reserved.{Reserved}
use Rattle.notebook_grammar.specs.declared.row.Entry.{Entry}
use Rattle.ll1_grammar.specs.Table.{entry}
use Rattle.notebook_grammar.specs.Kinds.{code_of}
use Rattle.notebook_grammar.specs.Rows.{shown as row}
use Rattle.notebook_grammar.specs.Words.{shown, same_word, kind_among, Reservations}

pub next_of : {A : Type 0} (l : List A) (i : ℕ) (d : A) → i < length l → drop i l ≡ get_or l i d ∷ drop (i + 1) l
next_of l i d below = let one : suc i ≡ i + 1 = omega arith in drop-cons l i d below ∙ ap (λ n. get_or l i d ∷ drop n l) one

-- ---- the kind of a word

module _ (word : List ℕ) (words : List Reserved) (all : Reservations) (i : ℕ) (so_far : kind_among word (map shown (drop i words)) ≡ kind_among word all) (d : Reserved) where
  looked : i < length words → kind_among word all ≡ (if same_word word (get_or words i d).text.now then (get_or words i d).kind else kind_among word (map shown (drop (i + 1) words)))
  looked below = sym so_far ∙ ap (λ l. kind_among word (map shown l)) (next_of words i d below)

  pub is_this : i < length words → same_word word (get_or words i d).text.now ≡ true → (get_or words i d).kind ≡ kind_among word all
  is_this below e = sym (looked below ∙ ap (λ t. if t then (get_or words i d).kind else kind_among word (map shown (drop (i + 1) words))) e)

  pub is_later : i < length words → same_word word (get_or words i d).text.now ≡ false → kind_among word (map shown (drop (i + 1) words)) ≡ kind_among word all
  is_later below e = sym (looked below ∙ ap (λ t. if t then (get_or words i d).kind else kind_among word (map shown (drop (i + 1) words))) e)

  pub is_name : length words ≤ i → k.Name ≡ kind_among word all
  is_name past = sym (ap (λ l. kind_among word (map shown l)) (drop_of_length-le words past)) ∙ so_far

-- ---- the entry for a kind

module _ (kind : ℕ) (entries : List Entry) (i : ℕ) (so_far : entry kind (map row (drop i entries)) ≡ entry kind (map row entries)) (d : Entry) where
  looked_up : i < length entries → entry kind (map row entries) ≡ (if kind == code_of (get_or entries i d).kind then Some (get_or entries i d).items.now else entry kind (map row (drop (i + 1) entries)))
  looked_up below = sym so_far ∙ ap (λ l. entry kind (map row l)) (next_of entries i d below)

  pub is_this_entry : i < length entries → kind == code_of (get_or entries i d).kind ≡ true → entry kind (map row entries) ≡ Some (get_or entries i d).items.now
  is_this_entry below e = looked_up below ∙ ap (λ t. if t then Some (get_or entries i d).items.now else entry kind (map row (drop (i + 1) entries))) e

  pub is_later_entry : i < length entries → kind == code_of (get_or entries i d).kind ≡ false → entry kind (map row (drop (i + 1) entries)) ≡ entry kind (map row entries)
  is_later_entry below e = sym (looked_up below ∙ ap (λ t. if t then Some (get_or entries i d).items.now else entry kind (map row (drop (i + 1) entries))) e)
