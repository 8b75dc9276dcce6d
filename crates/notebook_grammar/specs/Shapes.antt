-- The shapes of pieces, which whoever builds trees has on a stack.
use Rattle.std.specs.Prelude.{ℕ, ◌==◌, if◌then◌else◌, [], ◌∷◌}
use Rattle.ll1_grammar.specs.Pieces.{Shapes}
use Rattle.notebook_grammar.specs.declared.kind.Kind.TheVariants as k
use Rattle.notebook_grammar.specs.Kinds.{code_of}

-- a name
abbrev pub name : ℕ
name = 0

-- the word of a type
abbrev pub type_word : ℕ
type_word = 1

-- a number without a point
abbrev pub whole : ℕ
whole = 2

-- a number with a point
abbrev pub decimal : ℕ
decimal = 3

-- a text in quotes
abbrev pub quoted : ℕ
quoted = 4

-- the number of a CAVEAT
abbrev pub call : ℕ
call = 5

-- an expression
abbrev pub tree : ℕ
tree = 6

-- expressions
abbrev pub list : ℕ
list = 7

-- the arms of a CASE
abbrev pub arms : ℕ
arms = 8

-- whether DISTINCT stands there
abbrev pub distinct : ℕ
distinct = 9

-- the items of a core
abbrev pub items : ℕ
items = 10

-- a table of a core
abbrev pub table : ℕ
table = 11

-- the joins of a core
abbrev pub joins : ℕ
joins = 12

-- a condition, if there is one
abbrev pub condition : ℕ
condition = 13

-- columns of GROUP BY
abbrev pub columns : ℕ
columns = 14

-- cores
abbrev pub cores : ℕ
cores = 15

-- keys of ORDER BY
abbrev pub keys : ℕ
keys = 16

-- the number of LIMIT, if there is one
abbrev pub limit : ℕ
limit = 17

-- a SELECT
abbrev pub select : ℕ
select = 18

-- declared builders
abbrev pub builders : ℕ
builders = 19

-- columns with their types
abbrev pub definitions : ℕ
definitions = 20

-- statements
abbrev pub block : ℕ
block = 21

-- what a loop goes over
abbrev pub loop : ℕ
loop = 22

-- a script
abbrev pub script : ℕ
script = 23

-- what a token of a kind leaves: its value, and a CAVEAT its number
abbrev pub token : ℕ → Shapes
token n =
    if n == code_of k.Name then name ∷ []
    else if n == code_of k.TypeWord then type_word ∷ []
    else if n == code_of k.Whole then whole ∷ []
    else if n == code_of k.Decimal then decimal ∷ []
    else if n == code_of k.Quoted then quoted ∷ []
    else if n == code_of k.Caveat then call ∷ []
    else []
