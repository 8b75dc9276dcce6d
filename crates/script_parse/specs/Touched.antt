-- The names that the statements of a block touch, nested ones too.
use Rattle.std.specs.Prelude.{ℕ, List, [], ◌∷◌, ◌++◌, Option, Some, None}
use Rattle.std.specs.List.{flat_map}
use Rattle.name_lists.specs.Nub.{nub}
use Rattle.script_parse.specs.declared.stmt.Stmt.{Stmt}
use Rattle.script_parse.specs.declared.stmt.Stmt.TheOpen.{Stmt-F}
use Rattle.script_parse.specs.declared.stmt.Stmt.TheFolds.{fold-Stmt}
use Rattle.script_parse.specs.declared.touch.Touch.{Touch}
use Rattle.script_parse.specs.declared.touch.Touch.TheVariants.{Variables, Builders, Datasets}

abbrev pub NameList : Type 0
NameList = List (List ℕ)

-- a name that is touched so, where such names are asked for
abbrev pub asked : Touch → Touch → List ℕ → NameList
asked Variables Variables name = name ∷ []
asked Builders Builders name = name ∷ []
asked Datasets Datasets name = name ∷ []
asked touch of name = []

-- those of the statements of a block, one after another
abbrev pub joined : List NameList → NameList
joined block = flat_map (λ names. names) block

-- so where there may be no block
abbrev pub joined_if_any : Option (List NameList) → NameList
joined_if_any None = []
joined_if_any (Some block) = joined block

-- the names of a statement, from those of the statements in it
abbrev pub names_of_form : Touch → Stmt-F NameList → NameList
names_of_form touch (Stmt-F.Assign name value) = asked touch Variables name
names_of_form touch (Stmt-F.Exists name dataset) = asked touch Variables name
names_of_form touch (Stmt-F.Rows name dataset) = asked touch Variables name
names_of_form touch (Stmt-F.Print value) = []
names_of_form touch (Stmt-F.If condition block other) = joined block ++ joined_if_any other
names_of_form touch (Stmt-F.While condition body) = joined body
names_of_form touch (Stmt-F.ForRows name dataset body) = asked touch Variables name ++ joined body
names_of_form touch (Stmt-F.ForRange name low high body) = asked touch Variables name ++ joined body
names_of_form touch (Stmt-F.Emit builder values) = asked touch Builders builder
names_of_form touch (Stmt-F.Write builder dataset) = asked touch Datasets dataset
names_of_form touch (Stmt-F.Drop dataset) = asked touch Datasets dataset

-- the names of a statement, nested ones too, in the text's order
unfoldable pub in_statement : Touch → Stmt → NameList
in_statement touch = fold-Stmt NameList (names_of_form touch)

-- the names of the statements of a block
abbrev pub in_block : Touch → List Stmt → NameList
in_block touch block = flat_map (in_statement touch) block

-- each once
abbrev pub touched : Touch → List Stmt → NameList
touched touch block = nub (in_block touch block)

-- the variables that the statements of a block can assign, those of loops too
abbrev pub assigned : List Stmt → NameList
assigned = touched Variables

-- the builders that they can emit to
abbrev pub builders_touched : List Stmt → NameList
builders_touched = touched Builders

-- the datasets that they can write or drop
abbrev pub datasets_touched : List Stmt → NameList
datasets_touched = touched Datasets
