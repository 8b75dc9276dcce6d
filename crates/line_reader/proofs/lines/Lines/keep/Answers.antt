use Rattle.std.proofs.Common.{◌≡◌, ◌≤◌, ◌+◌, ◌-◌, ◌∙◌, ap, sym, List, ℕ, length, drop, take, arith}
use Rattle.std.proofs.lemmas.List.{drop-drop, drop-take, take-take, length-drop, length-take}
use Rattle.line_reader.specs.Cut.{kept_with}
use Rattle.line_reader.specs.Reading.{State}
use Rattle.line_reader.proofs.lines.Lines.keep.Goals as goal

-- a slice of the buffer is a front of what isn't cut
front_of : (at n end : ℕ) (buffer : List ℕ) → at + n ≤ end → take (at + n - at) (drop at buffer) ≡ take n (drop at (take end buffer))
front_of at n end buffer le =
    let m = end - at in
    let count : at + n - at ≡ n = omega arith in
    let whole : at + m ≡ end = omega (arith, le) in
    ap (λ k. take k (drop at buffer)) count ∙ sym (take-take n m (drop at buffer) (omega (arith, le)))
    ∙ ap (λ (l : List ℕ). take n l) (sym (drop-take at m buffer) ∙ ap (λ k. drop at (take k buffer)) whole)

pub returns : goal.returns
returns c =
    let i = c.self.inside in
    let n = c.args.count in
    let all = take i.filled i.buffer.items in
    let make : List ℕ → List ℕ → State = λ l k. record { unread = l; total = i.total; pending = k; ended = i.ended } in
    let inside : i.at + n ≤ i.filled =
    omega (arith, c.requires, ap (λ (s : State). length s.unread) c.self.view_is, length-drop i.at all, length-take i.filled i.buffer.items, c.self.invariant) in
    ap (λ (l : List ℕ). make l c.push_kept.new.kept) (sym (drop-drop n i.at all))
    ∙ ap (λ (k : List ℕ). make (drop n (drop i.at all)) k) (c.in_ok-push_kept.ensures
    ∙ ap (λ (l : List ℕ). kept_with i.pending (take (i.at + n - i.at) (drop i.at l))) c.deref.ensures.value
    ∙ ap (λ (l : List ℕ). kept_with i.pending l) (front_of i.at n i.filled i.buffer.items inside))
    ∙ ap (λ (s : State). record s { unread = drop n s.unread; pending = kept_with s.pending (take n s.unread) }) c.self.view_is
