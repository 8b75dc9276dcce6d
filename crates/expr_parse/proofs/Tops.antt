-- What lies on top, where an action has its pieces.
use Rattle.std.proofs.Common.{◌≡◌, ℕ, Bool, List, ◌∷◌, Option, refl, ap, ◌∙◌}
use Rattle.std.specs.Prelude.{ℤ}
use Rattle.value_types.specs.declared.value.ColumnType.{ColumnType}
use Rattle.notebook_grammar.specs.declared.action.ExprAction.TheVariants as act
use Rattle.expr_lang.specs.declared.ops.UnaryOp.{UnaryOp}
use Rattle.expr_lang.specs.declared.ops.BinaryOp.{BinaryOp}
use Rattle.expr_lang.specs.declared.expr.Expr.{Expr}
use Rattle.expr_lang.specs.declared.expr.Arm.{Arm}
use Rattle.expr_parse.specs.declared.piece.Piece.TheVariants as piece
use Rattle.expr_parse.specs.Pieces.{Stack, with_name, with_type, with_whole, with_decimal, with_quoted, with_call, with_tree, with_list, with_arms, unary, binary, is_null, like, one_of, did}
use Rattle.expr_parse.specs.Tops.{Goes, NameOn, TypeOn, WholeOn, DecimalOn, QuotedOn, TreeOn, ListOn, ArmsOn}

pub name_top : {M : Type 0} (st : Stack M) (go : List ℕ → Stack M → Option (Stack M)) → Goes (with_name st go)
    → (x : List ℕ) × (rest : Stack M) × (st ≡ piece.Name x ∷ rest) × Goes (go x rest)
name_top (piece.Name x ∷ st) go g = (x, st, refl, g)
name_top st go g = absurd (let none = g.1 in cc)

pub type_top : {M : Type 0} (st : Stack M) (go : ColumnType → Stack M → Option (Stack M)) → Goes (with_type st go)
    → (x : ColumnType) × (rest : Stack M) × (st ≡ piece.TypeWord x ∷ rest) × Goes (go x rest)
type_top (piece.TypeWord x ∷ st) go g = (x, st, refl, g)
type_top st go g = absurd (let none = g.1 in cc)

pub whole_top : {M : Type 0} (st : Stack M) (go : ℤ → Stack M → Option (Stack M)) → Goes (with_whole st go)
    → (x : ℤ) × (rest : Stack M) × (st ≡ piece.Whole x ∷ rest) × Goes (go x rest)
whole_top (piece.Whole x ∷ st) go g = (x, st, refl, g)
whole_top st go g = absurd (let none = g.1 in cc)

pub decimal_top : {M : Type 0} (st : Stack M) (go : ℤ → Stack M → Option (Stack M)) → Goes (with_decimal st go)
    → (x : ℤ) × (rest : Stack M) × (st ≡ piece.Decimal x ∷ rest) × Goes (go x rest)
decimal_top (piece.Decimal x ∷ st) go g = (x, st, refl, g)
decimal_top st go g = absurd (let none = g.1 in cc)

pub quoted_top : {M : Type 0} (st : Stack M) (go : List ℕ → Stack M → Option (Stack M)) → Goes (with_quoted st go)
    → (x : List ℕ) × (rest : Stack M) × (st ≡ piece.Quoted x ∷ rest) × Goes (go x rest)
quoted_top (piece.Quoted x ∷ st) go g = (x, st, refl, g)
quoted_top st go g = absurd (let none = g.1 in cc)

pub call_top : {M : Type 0} (st : Stack M) (go : ℕ → Stack M → Option (Stack M)) → Goes (with_call st go)
    → (x : ℕ) × (rest : Stack M) × (st ≡ piece.Call x ∷ rest) × Goes (go x rest)
call_top (piece.Call x ∷ st) go g = (x, st, refl, g)
call_top st go g = absurd (let none = g.1 in cc)

pub tree_top : {M : Type 0} (st : Stack M) (go : Expr → Stack M → Option (Stack M)) → Goes (with_tree st go)
    → (x : Expr) × (rest : Stack M) × (st ≡ piece.Tree x ∷ rest) × Goes (go x rest)
tree_top (piece.Tree x ∷ st) go g = (x, st, refl, g)
tree_top st go g = absurd (let none = g.1 in cc)

pub list_top : {M : Type 0} (st : Stack M) (go : List Expr → Stack M → Option (Stack M)) → Goes (with_list st go)
    → (x : List Expr) × (rest : Stack M) × (st ≡ piece.List x ∷ rest) × Goes (go x rest)
list_top (piece.List x ∷ st) go g = (x, st, refl, g)
list_top st go g = absurd (let none = g.1 in cc)

pub arms_top : {M : Type 0} (st : Stack M) (go : List Arm → Stack M → Option (Stack M)) → Goes (with_arms st go)
    → (x : List Arm) × (rest : Stack M) × (st ≡ piece.Arms x ∷ rest) × Goes (go x rest)
arms_top (piece.Arms x ∷ st) go g = (x, st, refl, g)
arms_top st go g = absurd (let none = g.1 in cc)

pub for_unary : {M : Type 0} (op : UnaryOp) (st : Stack M) → Goes (unary op st) → TreeOn st
for_unary op st g = let i = tree_top st _ g in (i.0, i.1, i.2)

pub for_is_null : {M : Type 0} (negated : Bool) (st : Stack M) → Goes (is_null negated st) → TreeOn st
for_is_null negated st g = let i = tree_top st _ g in (i.0, i.1, i.2)

pub for_type_as_name : {M : Type 0} (st : Stack M) → Goes (did act.TypeAsName st) → TypeOn st
for_type_as_name st g = let i = type_top st _ g in (i.0, i.1, i.2)

pub for_whole : {M : Type 0} (st : Stack M) → Goes (did act.Whole st) → WholeOn st
for_whole st g = let i = whole_top st _ g in (i.0, i.1, i.2)

pub for_decimal : {M : Type 0} (st : Stack M) → Goes (did act.Decimal st) → DecimalOn st
for_decimal st g = let i = decimal_top st _ g in (i.0, i.1, i.2)

pub for_quoted : {M : Type 0} (st : Stack M) → Goes (did act.Quoted st) → QuotedOn st
for_quoted st g = let i = quoted_top st _ g in (i.0, i.1, i.2)

pub for_coalesce : {M : Type 0} (st : Stack M) → Goes (did act.Coalesce st) → ListOn st
for_coalesce st g = let i = list_top st _ g in (i.0, i.1, i.2)

pub for_sum : {M : Type 0} (st : Stack M) → Goes (did act.Sum st) → TreeOn st
for_sum st g = let i = tree_top st _ g in (i.0, i.1, i.2)

pub for_min : {M : Type 0} (st : Stack M) → Goes (did act.Min st) → TreeOn st
for_min st g = let i = tree_top st _ g in (i.0, i.1, i.2)

pub for_max : {M : Type 0} (st : Stack M) → Goes (did act.Max st) → TreeOn st
for_max st g = let i = tree_top st _ g in (i.0, i.1, i.2)

pub for_bare : {M : Type 0} (st : Stack M) → Goes (did act.Bare st) → NameOn st
for_bare st g = let i = name_top st _ g in (i.0, i.1, i.2)

pub for_case : {M : Type 0} (st : Stack M) → Goes (did act.Case st) → ArmsOn st
for_case st g = let i = arms_top st _ g in (i.0, i.1, i.2)

pub for_count : {M : Type 0} (st : Stack M) → Goes (did act.Count st) → TreeOn st
for_count st g = let i = tree_top st _ g in (i.0, i.1, i.2)

pub for_binary : {M : Type 0} (op : BinaryOp) (st : Stack M) → Goes (binary op st)
    → (x : Expr) × (y : Expr) × (rest : Stack M) × (st ≡ piece.Tree x ∷ piece.Tree y ∷ rest)
for_binary op st g =
    let i = tree_top st _ g in
    let j = tree_top i.1 _ i.3 in
    (i.0, j.0, j.1, i.2 ∙ ap (λ s. piece.Tree i.0 ∷ s) j.2)

pub for_like : {M : Type 0} (negated : Bool) (st : Stack M) → Goes (like negated st)
    → (x : Expr) × (y : Expr) × (rest : Stack M) × (st ≡ piece.Tree x ∷ piece.Tree y ∷ rest)
for_like negated st g =
    let i = tree_top st _ g in
    let j = tree_top i.1 _ i.3 in
    (i.0, j.0, j.1, i.2 ∙ ap (λ s. piece.Tree i.0 ∷ s) j.2)

pub for_one_of : {M : Type 0} (negated : Bool) (st : Stack M) → Goes (one_of negated st)
    → (x : List Expr) × (y : Expr) × (rest : Stack M) × (st ≡ piece.List x ∷ piece.Tree y ∷ rest)
for_one_of negated st g =
    let i = list_top st _ g in
    let j = tree_top i.1 _ i.3 in
    (i.0, j.0, j.1, i.2 ∙ ap (λ s. piece.List i.0 ∷ s) j.2)

pub for_cast : {M : Type 0} (st : Stack M) → Goes (did act.Cast st)
    → (x : ColumnType) × (y : Expr) × (rest : Stack M) × (st ≡ piece.TypeWord x ∷ piece.Tree y ∷ rest)
for_cast st g =
    let i = type_top st _ g in
    let j = tree_top i.1 _ i.3 in
    (i.0, j.0, j.1, i.2 ∙ ap (λ s. piece.TypeWord i.0 ∷ s) j.2)

pub for_caveat : {M : Type 0} (st : Stack M) → Goes (did act.Caveat st)
    → (x : List ℕ) × (y : Expr) × (z : ℕ) × (rest : Stack M) × (st ≡ piece.Quoted x ∷ piece.Tree y ∷ piece.Call z ∷ rest)
for_caveat st g =
    let i = quoted_top st _ g in
    let j = tree_top i.1 _ i.3 in
    let k = call_top j.1 _ j.3 in
    (i.0, j.0, k.0, k.1, i.2 ∙ ap (λ s. piece.Quoted i.0 ∷ s) (j.2 ∙ ap (λ s. piece.Tree j.0 ∷ s) k.2))

pub for_qualified : {M : Type 0} (st : Stack M) → Goes (did act.Qualified st)
    → (x : List ℕ) × (y : List ℕ) × (rest : Stack M) × (st ≡ piece.Name x ∷ piece.Name y ∷ rest)
for_qualified st g =
    let i = name_top st _ g in
    let j = name_top i.1 _ i.3 in
    (i.0, j.0, j.1, i.2 ∙ ap (λ s. piece.Name i.0 ∷ s) j.2)

pub for_entry : {M : Type 0} (st : Stack M) → Goes (did act.Entry st)
    → (x : Expr) × (y : List Expr) × (rest : Stack M) × (st ≡ piece.Tree x ∷ piece.List y ∷ rest)
for_entry st g =
    let i = tree_top st _ g in
    let j = list_top i.1 _ i.3 in
    (i.0, j.0, j.1, i.2 ∙ ap (λ s. piece.Tree i.0 ∷ s) j.2)

pub for_arm : {M : Type 0} (st : Stack M) → Goes (did act.Arm st)
    → (x : Expr) × (y : Expr) × (z : List Arm) × (rest : Stack M) × (st ≡ piece.Tree x ∷ piece.Tree y ∷ piece.Arms z ∷ rest)
for_arm st g =
    let i = tree_top st _ g in
    let j = tree_top i.1 _ i.3 in
    let k = arms_top j.1 _ j.3 in
    (i.0, j.0, k.0, k.1, i.2 ∙ ap (λ s. piece.Tree i.0 ∷ s) (j.2 ∙ ap (λ s. piece.Tree j.0 ∷ s) k.2))

pub for_case_else : {M : Type 0} (st : Stack M) → Goes (did act.CaseElse st)
    → (x : Expr) × (y : List Arm) × (rest : Stack M) × (st ≡ piece.Tree x ∷ piece.Arms y ∷ rest)
for_case_else st g =
    let i = tree_top st _ g in
    let j = arms_top i.1 _ i.3 in
    (i.0, j.0, j.1, i.2 ∙ ap (λ s. piece.Tree i.0 ∷ s) j.2)
