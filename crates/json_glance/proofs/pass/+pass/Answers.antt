use Rattle.std.proofs.Common.{◌≡◌, ℕ, ◌-◌, ◌<◌, List, [], ◌∷◌, length, cond, Bool, true, false, is_some, Option, Some, None, option_map, option_and_then, bytes_eq, true≢false, ◌⊎◌, inl, inr, refl, sym, ap, ap₂, ◌∙◌, arith, rules}
use Rattle.json.specs.Token.{Token}
use Rattle.json.specs.Json.{parse_map, after_end_array, read_key, items, members, value}
use Rattle.json.specs.Reads.{token_of}
use Rattle.json.specs.declared.token.Token as lexed
use Rattle.json.specs.declared.token.Token.TheVariants as variant
use Rattle.json.proofs.Grammar.{left, left-parse_map, left_some, left_none, value_is, value-begin_array, value-begin_object, read_key-shorter}
use Rattle.serde_json.specs.Data.{Num, Data, null, boolean, number, string, array, object, no_members, put}
use Rattle.serde_json.specs.Find.{get, as_str}
use Rattle.serde_json.specs.Read.{of_json, converted, number_of}
use Rattle.json_glance.proofs.Fields.{put_text}
use Rattle.json_glance.proofs.Reading.{array_read, object_read, item_read, item_refused, items_over, member_read, member_refused, key_refused, members_over}
use Rattle.json_glance.proofs.pass.+pass.Goals as goal

some_number : (o : Option Num) → true ≡ is_some o → (n : Num) × (o ≡ Some n)
some_number None e = absurd (true≢false e)
some_number (Some n) e = (n, refl)

no_number : (o : Option Num) → false ≡ is_some o → o ≡ None
no_number None e = refl
no_number (Some n) e = absurd (true≢false (sym e))

plain_read : (depth : ℕ) (ts : List Token) (token : lexed.Token) → ((b : Bool) × (token ≡ variant.Bool b)) ⊎ (token ≡ variant.Null) → (old : List Token) → old ≡ token_of token ∷ ts → (name : List ℕ)
    → (d : Data) × (converted of_json (value depth old) ≡ Some (d, ts)) × ((None ≡ as_str d) × (None ≡ option_and_then as_str (get name d)))
plain_read depth ts token (inl b) old first name = (boolean b.0, ap (converted of_json) (ap (value depth) (first ∙ ap (λ k. token_of k ∷ ts) b.1) ∙ value_is depth _), (refl, refl))
plain_read depth ts token (inr e) old first name = (null, ap (converted of_json) (ap (value depth) (first ∙ ap (λ k. token_of k ∷ ts) e) ∙ value_is depth _), (refl, refl))

-- ---- values

pub pass-returns-in_err-token-clause-err : goal.pass-returns-in_err-token-clause-err
pass-returns-in_err-token-clause-err t c =
    let empty : c.args.reader.now ≡ [] = grind arith in
    let none : converted of_json (value c.args.depth c.args.reader.now) ≡ None = ap (converted of_json) (ap (value c.args.depth) empty ∙ value_is c.args.depth []) in
    grind (arith, none)

pub pass-returns-then-not-number_is_read-clause-err : goal.pass-returns-then-not-number_is_read-clause-err
pass-returns-then-not-number_is_read-clause-err t c =
    let first : c.args.reader.now ≡ token_of c.in_ok-token.token ∷ c.next.new.self = grind arith in
    let is : c.args.reader.now ≡ Token.number c.in-Number.text.now ∷ c.next.new.self = grind (arith, first) in
    let none : number_of c.in-Number.text.now ≡ None = no_number (number_of c.in-Number.text.now) (search rules) in
    ap (converted of_json) (ap (value c.args.depth) is ∙ value_is c.args.depth _) ∙ rw none

pub pass-returns-then-depth-eq0-clause-err : goal.pass-returns-then-depth-eq0-clause-err
unfolding value
pass-returns-then-depth-eq0-clause-err t c =
    let first : c.args.reader.now ≡ token_of c.in_ok-token.token ∷ c.next.new.self = grind arith in
    let none : c.args.depth ≡ 0 = omega arith in
    ap (converted of_json) (ap₂ value none (first ∙ ap (λ k. token_of k ∷ c.next.new.self) c.in-BeginArray.is))

pub pass-returns-in_err-pass_items-in-BeginArray-clause-err : goal.pass-returns-in_err-pass_items-in-BeginArray-clause-err
pass-returns-in_err-pass_items-in-BeginArray-clause-err t c =
    let first : c.args.reader.now ≡ token_of c.in_ok-token.token ∷ c.next.new.self = grind arith in
    let opened = ap (converted of_json) (ap (value c.args.depth) (first ∙ ap (λ k. token_of k ∷ c.next.new.self) c.in-BeginArray.is) ∙ value-begin_array c.args.depth c.next.new.self (omega arith)) ∙ array_read (items (value (c.args.depth - 1)) (length c.next.new.self) c.next.new.self) in
    let none = opened ∙ ap (parse_map array) c.in_err-pass_items-in-BeginArray.ensures.err in
    grind (arith, none)

pub pass-returns-then-depth-eq0-2-clause-err : goal.pass-returns-then-depth-eq0-2-clause-err
unfolding value
pass-returns-then-depth-eq0-2-clause-err t c =
    let first : c.args.reader.now ≡ token_of c.in_ok-token.token ∷ c.next.new.self = grind arith in
    let none : c.args.depth ≡ 0 = omega arith in
    ap (converted of_json) (ap₂ value none (first ∙ ap (λ k. token_of k ∷ c.next.new.self) c.in-BeginObject.is))

pub pass-returns-in_err-field-in-BeginObject-clause-err : goal.pass-returns-in_err-field-in-BeginObject-clause-err
pass-returns-in_err-field-in-BeginObject-clause-err t c =
    let first : c.args.reader.now ≡ token_of c.in_ok-token.token ∷ c.next.new.self = grind arith in
    let opened = ap (converted of_json) (ap (value c.args.depth) (first ∙ ap (λ k. token_of k ∷ c.next.new.self) c.in-BeginObject.is) ∙ value-begin_object c.args.depth c.next.new.self (omega arith)) ∙ object_read (members (value (c.args.depth - 1)) (length c.next.new.self) c.next.new.self) in
    let none = opened ∙ ap (parse_map object) c.in_err-field-in-BeginObject.ensures.err in
    grind (arith, none)

pub pass-returns-in-String-clause-ok : goal.pass-returns-in-String-clause-ok
pass-returns-in-String-clause-ok t c =
    let first : c.args.reader.now ≡ token_of c.in_ok-token.token ∷ c.next.new.self = grind arith in
    let is : c.args.reader.now ≡ Token.string c.in-String.text.now ∷ c.next.new.self = grind (arith, first) in
    (string c.in-String.text.now, ap (converted of_json) (ap (value c.args.depth) is ∙ value_is c.args.depth _), (search rules, search rules))

pub pass-returns-else-not-number_is_read-clause-ok : goal.pass-returns-else-not-number_is_read-clause-ok
pass-returns-else-not-number_is_read-clause-ok t c =
    let first : c.args.reader.now ≡ token_of c.in_ok-token.token ∷ c.next.new.self = grind arith in
    let is : c.args.reader.now ≡ Token.number c.in-Number.text.now ∷ c.next.new.self = grind (arith, first) in
    let some = some_number (number_of c.in-Number.text.now) (search rules) in
    (number some.0, ap (converted of_json) (ap (value c.args.depth) is ∙ value_is c.args.depth _) ∙ ap (λ o. option_map (λ d. (d, c.next.new.self)) (option_map number o)) some.1, (search rules, search rules))

pub pass-returns-in-Bool-clause-ok : goal.pass-returns-in-Bool-clause-ok
pass-returns-in-Bool-clause-ok t c =
    let first : c.args.reader.now ≡ token_of c.in_ok-token.token ∷ c.next.new.self = grind arith in
    let plain = plain_read c.args.depth c.next.new.self c.in_ok-token.token c.in-Bool.is c.args.reader.now first c.args.name.now in
    (plain.0, plain.1, (search (rules, plain.2.0), search (rules, plain.2.1)))

pub pass-returns-in-EndObject-clause-err : goal.pass-returns-in-EndObject-clause-err
pass-returns-in-EndObject-clause-err t c =
    let first : c.args.reader.now ≡ token_of c.in_ok-token.token ∷ c.next.new.self = grind arith in
    let none : value c.args.depth c.args.reader.now ≡ None = rw (value_is c.args.depth c.args.reader.now, first) (grind arith) in
    ap (converted of_json) none

pub pass-returns-in_ok-pass_items-in-BeginArray-clause-ok : goal.pass-returns-in_ok-pass_items-in-BeginArray-clause-ok
pass-returns-in_ok-pass_items-in-BeginArray-clause-ok t c =
    let first : c.args.reader.now ≡ token_of c.in_ok-token.token ∷ c.next.new.self = grind arith in
    let opened = ap (converted of_json) (ap (value c.args.depth) (first ∙ ap (λ k. token_of k ∷ c.next.new.self) c.in-BeginArray.is) ∙ value-begin_array c.args.depth c.next.new.self (omega arith)) ∙ array_read (items (value (c.args.depth - 1)) (length c.next.new.self) c.next.new.self) in
    let found = left_some _ _ c.in_ok-pass_items-in-BeginArray.ensures.ok in
    (array found.0, opened ∙ ap (parse_map array) found.1, (search rules, search rules))

pub pass-returns-in_ok-field-in-BeginObject-clause-ok : goal.pass-returns-in_ok-field-in-BeginObject-clause-ok
pass-returns-in_ok-field-in-BeginObject-clause-ok t c =
    let first : c.args.reader.now ≡ token_of c.in_ok-token.token ∷ c.next.new.self = grind arith in
    let opened = ap (converted of_json) (ap (value c.args.depth) (first ∙ ap (λ k. token_of k ∷ c.next.new.self) c.in-BeginObject.is) ∙ value-begin_object c.args.depth c.next.new.self (omega arith)) ∙ object_read (members (value (c.args.depth - 1)) (length c.next.new.self) c.next.new.self) in
    let found = c.in_ok-field-in-BeginObject.ensures.ok in
    (object found.0, opened ∙ ap (parse_map object) found.1, (search rules, search (rules, found.2)))

-- ---- items

pub pass_items-loop-reader-preserved : goal.pass_items-loop-reader-preserved
pass_items-loop-reader-preserved t c =
    let p = value c.args.depth in
    let l = c.loop-reader in
    let n = l.invariant.0 in
    let going : (after_end_array l.reader ≡ None) × (c.take_end_array.new.self ≡ l.reader) = grind arith in
    let done = c.in_ok-pass.ensures in
    let r = c.pass.new.reader in
    let less : length r < length l.reader = rw (← going.1) done.shorter in
    let turn = item_read p n l.reader r done.ok.0 (omega (arith, l.invariant.1)) going.0 (rw (← going.1) done.ok.1) in
    (n - 1, omega (arith, l.invariant.1), l.invariant.2 ∙ ap left turn ∙ left-parse_map _ _, omega (arith, l.invariant.3))

pub pass_items-returns-in_err-pass-clause-err : goal.pass_items-returns-in_err-pass-clause-err
pass_items-returns-in_err-pass-clause-err t c =
    let p = value c.args.depth in
    let l = c.loop-reader in
    let n = l.invariant.0 in
    let going : (after_end_array l.reader ≡ None) × (c.take_end_array.new.self ≡ l.reader) = grind arith in
    let refused = item_refused p n l.reader going.0 (rw (← going.1) c.in_err-pass.ensures.err) in
    let none = left_none _ (l.invariant.2 ∙ ap left refused) in
    grind (arith, none)

pub pass_items-returns-clause-ok : goal.pass_items-returns-clause-ok
pass_items-returns-clause-ok t c =
    let p = value c.args.depth in
    let l = c.loop-reader in
    let n = l.invariant.0 in
    l.invariant.2 ∙ ap left (items_over p n l.reader c.take_end_array.new.self l.invariant.1 (grind arith))

-- ---- members

pub pass_members-loop-key-init : goal.pass_members-loop-key-init
pass_members-loop-key-init t c = (length c.args.reader.now, no_members, omega arith, refl, refl, omega arith)

pub pass_members-returns-in_err-key-clause-err : goal.pass_members-returns-in_err-key-clause-err
pass_members-returns-in_err-key-clause-err t c =
    let p = value c.args.depth in
    let l = c.loop-key in
    let none = l.invariant.3 ∙ key_refused p l.invariant.1 l.invariant.0 l.reader c.in_err-key.ensures.value in
    grind (arith, none)

pub pass_members-returns-in_err-seen-clause-err : goal.pass_members-returns-in_err-seen-clause-err
pass_members-returns-in_err-seen-clause-err t c =
    let p = value c.args.depth in
    let l = c.loop-key in
    let k = c.in-Some.key.now in
    let s = c.next_key.new.self in
    let named : read_key l.reader ≡ Some (Some k, s) = grind arith in
    let none = l.invariant.3 ∙ member_refused p l.invariant.1 l.invariant.0 k l.reader s named c.in_err-seen.ensures.err in
    grind (arith, none)

pub pass_members-loop-key-preserved : goal.pass_members-loop-key-preserved
pass_members-loop-key-preserved t c =
    let p = value c.args.depth in
    let l = c.loop-key in
    let n = l.invariant.0 in
    let passed = l.invariant.1 in
    let k = c.in-Some.key.now in
    let s = c.next_key.new.self in
    let named : read_key l.reader ≡ Some (Some k, s) = grind arith in
    let done = c.in_ok-seen.ensures in
    let d = done.ok.0 in
    let r = c.pass.new.reader in
    let less = read_key-shorter l.reader (Some k) s named in
    let lesser = done.shorter in
    let name = c.args.name.now in
    let text = c.later-found.ensures ∙ ap₂ (cond (bytes_eq k name)) done.ok.2.0 l.invariant.4 ∙ sym (put_text name k d passed) in
    (n - 1, put k d passed, omega (arith, l.invariant.2), l.invariant.3 ∙ member_read p passed n k l.reader s r d (omega (arith, l.invariant.2)) named done.ok.1, text, omega (arith, l.invariant.5))

pub pass_members-returns-clause-ok : goal.pass_members-returns-clause-ok
pass_members-returns-clause-ok t c =
    let p = value c.args.depth in
    let l = c.loop-key in
    (l.invariant.1, l.invariant.3 ∙ members_over p l.invariant.1 l.invariant.0 l.reader c.next_key.new.self l.invariant.2 (grind arith), l.invariant.4)
