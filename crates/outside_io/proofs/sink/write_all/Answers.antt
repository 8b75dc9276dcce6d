use Rattle.std.proofs.Common.{◌≡◌, ◌++◌, ◌-◌, List, ℕ, length, drop, take, ◌∙◌, ap, sym, append_assoc, Option}
use Rattle.std.proofs.lemmas.List.{take-append-drop, take_rest}
use Rattle.std.specs.Io.KnownBytes.{Appends}
use Rattle.outside_io.proofs.Appended.{appends_more}
use Rattle.outside_io.proofs.sink.write_all.Goals as goal

goes_on : (old mid new : Option (List ℕ)) (text rest : List ℕ) (n : ℕ)
    → ((front : List ℕ) × (text ≡ front ++ rest) × Appends old mid front)
    → Appends mid new (take n rest)
    → (front : List ℕ) × (text ≡ front ++ take (length rest - n) (drop n rest)) × Appends old new front
goes_on old mid new text rest n (front, is, p) q = (
  front ++ take n rest,
  is ∙ ap (λ (l : List ℕ). front ++ l) (sym (take-append-drop n rest) ∙ ap (λ (l : List ℕ). take n rest ++ l) (sym (take_rest rest n))) ∙ sym (append_assoc front (take n rest) _),
  appends_more old mid new front (take n rest) p q,
)

pub loop-rest-preserved : goal.loop-rest-preserved
loop-rest-preserved g c = record {
  so_far = goes_on _ _ _ _ _ _ c.loop-rest.invariant.so_far c.in_ok-count.ensures.bytes;
  no_fault = c.in_ok-count.ensures.cause.cause ∙ c.loop-rest.invariant.no_fault;
}
