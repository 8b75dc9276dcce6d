-- The session, one line on.
use Rattle.std.proofs.Common.{◌≡◌, false, true, Bool, ◌≤◌, ◌+◌, ◌-◌, ◌^◌, min, ℕ, List, [], ◌∷◌, ◌++◌, length, refl, ap, sym, ◌∙◌, subst, inl, inr, arith, append_assoc, append-nil, Option, Some, None, Result, Ok, Err, MatchResult}
use Rattle.std.specs.Io.KnownBytes.{Appends, Consumes}
use Rattle.outside_io.specs.Texts.{AppendsFront}
use Rattle.outside_io.proofs.Appended.{appends_more, front_after, appends_none}
use Rattle.line_reader.specs.Reading.{State, Cuts, Heard, Covers}
use Rattle.line_reader.proofs.Steps.{heard_of}
use Rattle.dataset_types.specs.declared.picks.Pick.{Pick}
use Rattle.version_tree.specs.declared.told.Told.{Told}
use Rattle.version_tree.specs.Calls.{MayTell}
use Rattle.version_tree.specs.Notebook.{NotebookData, start as new_book}
use Rattle.report_words.specs.Reports.{said, after_line, book_from, book_of, report_from, report_of, line_text, text_said, after_said, asked_said, lines_in, MayTellAll, failure, failures, WasTold, IsStarvedText}
use Rattle.report_words.specs.Says.{Says}
use Rattle.report_words.specs.declared.status.SessionStatus.{SessionStatus}
use Rattle.report_words.specs.declared.status.SessionStatus.TheVariants as status
use Rattle.session_core.specs.Earned.{Took, EarnsText, earned_text, is_starved, WritesLine}
use Rattle.session_core.specs.Turns.{Stood}
use Rattle.session_core.specs.declared.earned.Earned.{Earned}

-- ---- one line more

book_push : (b : NotebookData) (hs : List (List ℕ × Told)) (h : List ℕ × Told) → book_from b (hs ++ h ∷ []) ≡ after_line (book_from b hs) h
book_push b [] h = refl
book_push b (x ∷ hs) h = book_push (after_line b x) hs h

report_push : (b : NotebookData) (n : ℕ) (hs : List (List ℕ × Told)) (h : List ℕ × Told)
    → report_from b n (hs ++ h ∷ []) ≡ report_from b n hs ++ line_text (book_from b hs) (n + length hs) h
report_push b n [] h = append-nil (line_text b n h) ∙ ap (λ k. line_text b k h) (omega arith)
report_push b n (x ∷ hs) h =
    let e : n + 1 + length hs ≡ n + length (x ∷ hs) = omega arith in
    ap (λ t. line_text b n x ++ t) (report_push (after_line b x) (n + 1) hs h)
    ∙ sym (append_assoc (line_text b n x) (report_from (after_line b x) (n + 1) hs) _)
    ∙ ap (λ k. line_text b n x ++ report_from (after_line b x) (n + 1) hs ++ line_text (book_from (after_line b x) hs) k h) e

told_push : (files : Option (List (List ℕ × List ℕ))) (b : NotebookData) (hs : List (List ℕ × Told)) (h : List ℕ × Told) → MayTellAll files b hs
    → MayTell files (asked_said (book_from b hs) (said h.0)) h.1 → MayTellAll files b (hs ++ h ∷ [])
told_push files b [] h a m = (m, tt)
told_push files b (x ∷ hs) h a m = (a.0, told_push files (after_line b x) hs h a.1 m)

failures_push : (hs : List (List ℕ × Told)) (h : List ℕ × Told) → failures (hs ++ h ∷ []) ≡ failures hs + failure h.1
failures_push [] h = omega arith
failures_push (x ∷ hs) h = omega (arith, failures_push hs h)

lines_push : (hs : List (List ℕ × Told)) (h : List ℕ × Told) → lines_in (hs ++ h ∷ []) ≡ lines_in hs ++ h.0 ∷ []
lines_push [] h = refl
lines_push (x ∷ hs) h = ap (λ l. x.0 ∷ l) (lines_push hs h)

length_more : (hs : List (List ℕ × Told)) (h : List ℕ × Told) → length (hs ++ h ∷ []) ≡ length hs + 1
length_more [] h = refl
length_more (x ∷ hs) h = omega (arith, length_more hs h)

-- what was told stays told when the count rises
pub later : (files : Option (List (List ℕ × List ℕ))) (count f g : ℕ) (picks : List Pick) (hs : List (List ℕ × Told)) → f ≤ g → WasTold files count f picks hs → WasTold files count g picks hs
later files count f g picks hs le w = record { told = w.told; rose = omega (arith, w.rose, le) }

-- the first of some first covered lines
pub heard_front : (first left : Option (List ℕ)) (xs ys : List (List ℕ)) → Heard first left (xs ++ ys) → Heard first left xs
heard_front first left xs ys (taken, rest, c, is) = (taken, ys ++ rest, c, subst (λ l. Covers left taken l) (append_assoc xs ys rest) is)

-- a whole text is some first bytes of it
pub whole : (begun written : Option (List ℕ)) (t : List ℕ) → Appends begun written t → AppendsFront begun written t
whole begun written t w = (t, [], sym (append-nil t), w)

-- the next line's part of the report
next_text : (picks : List Pick) (book : NotebookData) (number : ℕ) (hs : List (List ℕ × Told)) (line t : List ℕ) (told : Told) → book ≡ book_of picks hs → number ≡ length hs + 1
    → t ≡ text_said book number (said line) told → report_of picks hs ++ t ≡ report_of picks (hs ++ (line, told) ∷ [])
next_text picks book number hs line t told is n e =
    let k : number ≡ 1 + length hs = omega (arith, n) in
    ap (λ (l : List ℕ). report_of picks hs ++ l) (e ∙ ap (λ b. text_said b number (said line) told) is ∙ ap (λ i. line_text (book_of picks hs) i (line, told)) k)
    ∙ sym (report_push (new_book picks) 1 hs (line, told))

next_told : (files : Option (List (List ℕ × List ℕ))) (count f g : ℕ) (picks : List Pick) (book : NotebookData) (hs : List (List ℕ × Told)) (line : List ℕ) (told : Told) → book ≡ book_of picks hs
    → MayTell files (asked_said book (said line)) told → min (f + failure told) (2 ^ 64 - 1) ≤ g → WasTold files count f picks hs → WasTold files count g picks (hs ++ (line, told) ∷ [])
next_told files count f g picks book hs line told is may le w = record {
  told = told_push files (new_book picks) hs (line, told) w.told (subst (λ (b : NotebookData). MayTell files (asked_said b (said line)) told) is may);
  rose = omega (arith, w.rose, le, failures_push hs (line, told));
}

-- ---- the turns

-- how a turn ends where memory is wanting
starved : (b : Bool) (text : List ℕ) (picks : List Pick) (first left start old new : Option (List ℕ)) (book : NotebookData) (number : ℕ) (hs : List (List ℕ × Told)) (line : List ℕ) (told : Told)
    → EarnsText b text book number (said line) told → AppendsFront old new text → book ≡ book_of picks hs → number ≡ length hs + 1 → Appends start old (report_of picks hs)
    → Heard first left (lines_in (hs ++ (line, told) ∷ [])) → Says status.NoMemory picks first left start new (hs ++ (line, told) ∷ [])
starved false text picks first left start old new book number hs line told e w book_is n before heard =
    (heard, inl (subst (AppendsFront start new) (next_text picks book number hs line text told book_is n e) (front_after start old new _ _ before w)))
starved true text picks first left start old new book number hs line told e w book_is n before heard =
    (heard, inr (hs, (line, told), text, refl, subst (λ (b : NotebookData). IsStarvedText b (said line) told text) book_is e, front_after start old new _ _ before w))

plain : (b : Bool) (text : List ℕ) (book : NotebookData) (number : ℕ) (line : List ℕ) (told : Told) → b ≡ false → EarnsText b text book number (said line) told → text ≡ text_said book number (said line) told
plain false text book number line told is e = e
plain true text book number line told is e = cc

pub stepped : {T : Type 0} (r : Result T SessionStatus) (x : Earned) (picks : List Pick) (first left start old new : Option (List ℕ)) (files : Option (List (List ℕ × List ℕ))) (count f g : ℕ) (s s' : State) (book book' : NotebookData)
    (number : ℕ) (hs : List (List ℕ × Told)) (line : List ℕ) → Cuts first left (lines_in hs ++ line ∷ []) s' → Took files f g book number (said line) x book' → WritesLine r number x old new
    → book ≡ book_of picks hs → number ≡ length hs + 1 → Appends start old (report_of picks hs) → WasTold files count f picks hs
    → MatchResult r
    (λ _. (h : List ℕ × Told) × Stood picks first left start new files count g s' book' (number + 1) (hs ++ h ∷ []))
    (λ status. (all : List (List ℕ × Told)) × Says status picks first left start new all × WasTold files count g picks all)
stepped (Ok y) x picks first left start old new files count f g s s' book book' number hs line cuts (told, may, rose, after_is, earns) w book_is n before was = (
  (line, told),
  record {
    cuts = subst (λ l. Cuts first left l s') (sym (lines_push hs (line, told))) cuts;
    book_is = after_is ∙ ap (λ (b : NotebookData). after_said b (said line) told) book_is ∙ sym (book_push (new_book picks) hs (line, told));
    number_is = omega (arith, n, length_more hs (line, told));
    text = subst (Appends start new) (next_text picks book number hs line _ told book_is n (plain (is_starved x) (earned_text number x) book number line told w.0 earns)) (appends_more start old new _ _ before w.1);
    told = next_told files count f g picks book hs line told book_is may rose was;
  },
)
stepped (Err status.WriteFault) x picks first left start old new files count f g s s' book book' number hs line cuts (told, may, rose, after_is, earns) w book_is n before was = (
  hs ++ (line, told) ∷ [],
  (
    subst (λ l. Heard first left l) (sym (lines_push hs (line, told))) (heard_of first left (lines_in hs ++ line ∷ []) s' cuts),
    subst (AppendsFront start new) (next_text picks book number hs line _ told book_is n (plain (is_starved x) (earned_text number x) book number line told w.0 earns)) (front_after start old new _ _ before w.1),
  ),
  next_told files count f g picks book hs line told book_is may rose was,
)
stepped (Err status.NoMemory) x picks first left start old new files count f g s s' book book' number hs line cuts (told, may, rose, after_is, earns) w book_is n before was = (
  hs ++ (line, told) ∷ [],
  starved (is_starved x) (earned_text number x) picks first left start old new book number hs line told earns w book_is n before
      (subst (λ l. Heard first left l) (sym (lines_push hs (line, told))) (heard_of first left (lines_in hs ++ line ∷ []) s' cuts)),
  next_told files count f g picks book hs line told book_is may rose was,
)
stepped (Err status.Done) x picks first left start old new files count f g s s' book book' number hs line cuts took w book_is n before was = absurd w
stepped (Err status.ReadFault) x picks first left start old new files count f g s s' book book' number hs line cuts took w book_is n before was = absurd w
stepped (Err status.StreamTooLong) x picks first left start old new files count f g s s' book book' number hs line cuts took w book_is n before was = absurd w

-- ---- the start, and the ends without a line

consumes_none : (first : Option (List ℕ)) → Consumes first first []
consumes_none None = tt
consumes_none (Some xs) = refl

pub starts : (picks : List Pick) (first start : Option (List ℕ)) (files : Option (List (List ℕ × List ℕ))) (count : ℕ) (s : State) (book : NotebookData) → s ≡ record { unread = []; total = 0; pending = []; ended = false } → book ≡ new_book picks
    → Stood picks first first start start files count count s book 1 []
starts picks first start files count s book is e = record {
  cuts = subst (λ k. Cuts first first [] k) (sym is) ([], [], record { consumed = consumes_none first; count = refl; cut = refl; given = refl; pending = refl });
  book_is = e;
  number_is = refl;
  text = appends_none start;
  told = record { told = tt; rose = omega arith };
}

pub nothing_read : (picks : List Pick) (first start : Option (List ℕ)) → Says status.NoMemory picks first first start start []
nothing_read picks first start = (([], [], consumes_none first, inl refl), inl (whole start start [] (appends_none start)))

pub nothing_told : (files : Option (List (List ℕ × List ℕ))) (count : ℕ) (picks : List Pick) → WasTold files count count picks []
nothing_told files count picks = record { told = tt; rose = omega arith }

pub gave_up : (picks : List Pick) (first left start written : Option (List ℕ)) (files : Option (List (List ℕ × List ℕ))) (count faults : ℕ) (s : State) (book : NotebookData) (number : ℕ) (hs : List (List ℕ × Told))
    → Stood picks first left start written files count faults s book number hs → Says status.NoMemory picks first left start written hs × WasTold files count faults picks hs
gave_up picks first left start written files count faults s book number hs st = ((heard_of first left (lines_in hs) s st.cuts, inl (whole start written _ st.text)), st.told)

pub refiled : (picks : List Pick) (first left start written : Option (List ℕ)) (files files' : Option (List (List ℕ × List ℕ))) (count faults : ℕ) (s : State) (book : NotebookData) (number : ℕ) (hs : List (List ℕ × Told)) → files ≡ files'
    → Stood picks first left start written files count faults s book number hs → Stood picks first left start written files' count faults s book number hs
refiled picks first left start written files files' count faults s book number hs e st = subst (λ f. Stood picks first left start written f count faults s book number hs) e st
