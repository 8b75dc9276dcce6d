-- The names of each form of statement.
use Rattle.std.proofs.Common.{◌≡◌, ℕ, Option, Some, None, List, [], ◌∷◌, ◌++◌, map, drop, length, get_or, ◌+◌, ◌<◌, ◌≤◌, refl, sym, ap, ◌∙◌}
use Rattle.std.proofs.lemmas.List.{at_drop_more, at_drop_all}
use Rattle.expr_lang.specs.declared.expr.Expr.{Expr}
use Rattle.name_lists.specs.Nub.{all_added}
use Rattle.name_lists.proofs.Nubs.{added_to_none, all_added-append}
use Rattle.script_parse.specs.declared.stmt.Target.{Target}
use Rattle.script_parse.specs.declared.stmt.Stmt.{Stmt, roll-Stmt, Assign, Exists, Rows, Print, If, While, ForRows, ForRange, Emit, Write, Drop}
use Rattle.script_parse.specs.declared.stmt.Stmt.TheOpen.{Stmt-F}
use Rattle.script_parse.specs.declared.stmt.Stmt.TheFolds.{map-Stmt, fold-roll-Stmt}
use Rattle.script_parse.specs.declared.stmt.Stmt.TheVariants.{rolls-Assign, rolls-Exists, rolls-Rows, rolls-Print, rolls-If, rolls-While, rolls-ForRows, rolls-ForRange, rolls-Emit, rolls-Write, rolls-Drop}
use Rattle.script_parse.specs.declared.touch.Touch.{Touch}
use Rattle.script_parse.specs.declared.touch.Touch.TheVariants.{Variables, Builders, Datasets}
use Rattle.script_parse.specs.Touched.{NameList, asked, joined, names_of_form, in_statement, in_block}

module _ (touch : Touch) where
  abbrev T : Stmt → NameList
  T = in_statement touch

  T-roll : (x : Stmt-F Stmt) → T (roll-Stmt x) ≡ names_of_form touch (map-Stmt Stmt NameList T x)
  unfolding in_statement
  T-roll x = fold-roll-Stmt NameList (names_of_form touch) x

  joins : (block : List Stmt) → joined (map T block) ≡ in_block touch block
  joins [] = refl
  joins (s ∷ block) = ap (λ z. T s ++ z) (joins block)

  abbrev if_any : Option (List Stmt) → NameList
  if_any None = []
  if_any (Some block) = in_block touch block

  pub T-Assign : (name : List ℕ) (value : Expr) → T (Assign name value) ≡ asked touch Variables name
  T-Assign name value = ap T (sym (rolls-Assign name value)) ∙ T-roll (Stmt-F.Assign name value)

  pub T-Exists : (name : List ℕ) (dataset : Expr) → T (Exists name dataset) ≡ asked touch Variables name
  T-Exists name dataset = ap T (sym (rolls-Exists name dataset)) ∙ T-roll (Stmt-F.Exists name dataset)

  pub T-Rows : (name : List ℕ) (dataset : Expr) → T (Rows name dataset) ≡ asked touch Variables name
  T-Rows name dataset = ap T (sym (rolls-Rows name dataset)) ∙ T-roll (Stmt-F.Rows name dataset)

  pub T-Print : (value : Expr) → T (Print value) ≡ []
  T-Print value = ap T (sym (rolls-Print value)) ∙ T-roll (Stmt-F.Print value)

  pub T-If_alone : (condition : Expr) (block : List Stmt) → T (If condition block None) ≡ in_block touch block ++ []
  T-If_alone condition block = ap T (sym (rolls-If condition block None)) ∙ T-roll (Stmt-F.If condition block None) ∙ ap (λ z. z ++ []) (joins block)

  pub T-If_else : (condition : Expr) (block other : List Stmt) → T (If condition block (Some other)) ≡ in_block touch block ++ in_block touch other
  T-If_else condition block other =
      ap T (sym (rolls-If condition block (Some other))) ∙ T-roll (Stmt-F.If condition block (Some other)) ∙ ap (λ z. z ++ joined (map T other)) (joins block) ∙ ap (λ z. in_block touch block ++ z) (joins other)

  pub T-While : (condition : Expr) (body : List Stmt) → T (While condition body) ≡ in_block touch body
  T-While condition body = ap T (sym (rolls-While condition body)) ∙ T-roll (Stmt-F.While condition body) ∙ joins body

  pub T-ForRows : (name : List ℕ) (dataset : Target) (body : List Stmt) → T (ForRows name dataset body) ≡ asked touch Variables name ++ in_block touch body
  T-ForRows name dataset body =
      ap T (sym (rolls-ForRows name dataset body)) ∙ T-roll (Stmt-F.ForRows name dataset body) ∙ ap (λ z. asked touch Variables name ++ z) (joins body)

  pub T-ForRange : (name : List ℕ) (low high : Expr) (body : List Stmt) → T (ForRange name low high body) ≡ asked touch Variables name ++ in_block touch body
  T-ForRange name low high body =
      ap T (sym (rolls-ForRange name low high body)) ∙ T-roll (Stmt-F.ForRange name low high body) ∙ ap (λ z. asked touch Variables name ++ z) (joins body)

  pub T-Emit : (builder : List ℕ) (values : List Expr) → T (Emit builder values) ≡ asked touch Builders builder
  T-Emit builder values = ap T (sym (rolls-Emit builder values)) ∙ T-roll (Stmt-F.Emit builder values)

  pub T-Write : (builder dataset : List ℕ) → T (Write builder dataset) ≡ asked touch Datasets dataset
  T-Write builder dataset = ap T (sym (rolls-Write builder dataset)) ∙ T-roll (Stmt-F.Write builder dataset)

  pub T-Drop : (dataset : List ℕ) → T (Drop dataset) ≡ asked touch Datasets dataset
  T-Drop dataset = ap T (sym (rolls-Drop dataset)) ∙ T-roll (Stmt-F.Drop dataset)

  -- the next statement's names come first
  pub one_more : (names : NameList) (block : List Stmt) (i : ℕ) (s : Stmt) → i < length block → s ≡ get_or block i s
      → all_added names (in_block touch (drop i block)) ≡ all_added (all_added names (T s)) (in_block touch (drop (i + 1) block))
  one_more names block i s below is =
      at_drop_more (λ b. all_added names (in_block touch b)) block i s below
      ∙ ap (λ x. all_added names (T x ++ in_block touch (drop (i + 1) block))) (sym is)
      ∙ all_added-append names (T s) (in_block touch (drop (i + 1) block))

  pub no_more : (names : NameList) (block : List Stmt) (i : ℕ) → length block ≤ i → all_added names (in_block touch (drop i block)) ≡ names
  no_more names block i past = at_drop_all (λ b. all_added names (in_block touch b)) block i past

-- what the proofs of names use
pub ruleset touches = (T-Assign, T-Exists, T-Rows, T-Print, T-If_alone, T-If_else, T-While, T-ForRows, T-ForRange, T-Emit, T-Write, T-Drop, one_more, no_more, all_added-append, added_to_none)
