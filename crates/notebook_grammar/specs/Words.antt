-- Reserved words, and the words of types.
use Rattle.std.specs.Prelude.{ℕ, ◌==◌, if◌then◌else◌, Bool, List, [], ◌∷◌, length, map, codes}
use Rattle.std.specs.Str.{bytes_eq}
use Rattle.std.specs.Char.{to_ascii_lowercase}
use Rattle.notebook_grammar.specs.declared.kind.Kind.{Kind}
use Rattle.notebook_grammar.specs.declared.kind.Kind.TheVariants as k
use Rattle.notebook_grammar.specs.declared.words.Reserved.{Reserved}

-- words with their kinds
abbrev pub Reservations : Type 0
Reservations = List (List ℕ × Kind)

-- a reserved word of the code
abbrev pub shown : Reserved → List ℕ × Kind
shown word = (word.text.now, word.kind)

-- those of two letters
abbrev pub two : Reservations
two =
    (codes "as", k.As)
    ∷ (codes "by", k.By)
    ∷ (codes "if", k.If)
    ∷ (codes "in", k.In)
    ∷ (codes "is", k.Is)
    ∷ (codes "on", k.On)
    ∷ (codes "or", k.Or)
    ∷ (codes "to", k.To)
    ∷ []

-- those of three letters
abbrev pub three : Reservations
three =
    (codes "abs", k.Abs)
    ∷ (codes "all", k.All)
    ∷ (codes "and", k.And)
    ∷ (codes "asc", k.Asc)
    ∷ (codes "end", k.End)
    ∷ (codes "for", k.For)
    ∷ (codes "int", k.TypeWord)
    ∷ (codes "max", k.Max)
    ∷ (codes "min", k.Min)
    ∷ (codes "not", k.Not)
    ∷ (codes "sum", k.Sum)
    ∷ []

-- those of four letters
abbrev pub four : Reservations
four =
    (codes "bool", k.TypeWord)
    ∷ (codes "case", k.Case)
    ∷ (codes "cast", k.Cast)
    ∷ (codes "desc", k.Desc)
    ∷ (codes "drop", k.Drop)
    ∷ (codes "else", k.Else)
    ∷ (codes "emit", k.Emit)
    ∷ (codes "from", k.From)
    ∷ (codes "join", k.Join)
    ∷ (codes "left", k.Left)
    ∷ (codes "like", k.Like)
    ∷ (codes "null", k.Null)
    ∷ (codes "rows", k.Rows)
    ∷ (codes "text", k.TypeWord)
    ∷ (codes "then", k.Then)
    ∷ (codes "trim", k.Trim)
    ∷ (codes "true", k.True)
    ∷ (codes "when", k.When)
    ∷ []

-- those of five letters
abbrev pub five : Reservations
five =
    (codes "count", k.Count)
    ∷ (codes "false", k.False)
    ∷ (codes "fixed", k.TypeWord)
    ∷ (codes "group", k.Group)
    ∷ (codes "inner", k.Inner)
    ∷ (codes "limit", k.Limit)
    ∷ (codes "order", k.Order)
    ∷ (codes "outer", k.Outer)
    ∷ (codes "print", k.Print)
    ∷ (codes "table", k.Table)
    ∷ (codes "union", k.Union)
    ∷ (codes "where", k.Where)
    ∷ (codes "while", k.While)
    ∷ (codes "write", k.Write)
    ∷ []

-- those of six letters
abbrev pub six : Reservations
six =
    (codes "caveat", k.Caveat)
    ∷ (codes "exists", k.Exists)
    ∷ (codes "having", k.Having)
    ∷ (codes "length", k.Length)
    ∷ (codes "select", k.Select)
    ∷ []

-- those of seven letters
abbrev pub seven : Reservations
seven =
    []

-- those of eight letters
abbrev pub eight : Reservations
eight =
    (codes "coalesce", k.Coalesce)
    ∷ (codes "distinct", k.Distinct)
    ∷ []

-- those of a length
abbrev pub of_length : ℕ → Reservations
of_length n =
    if n == 2 then two
    else if n == 3 then three
    else if n == 4 then four
    else if n == 5 then five
    else if n == 6 then six
    else if n == 7 then seven
    else if n == 8 then eight
    else []

-- whether two words are one, in any case of letters
abbrev pub same_word : List ℕ → List ℕ → Bool
same_word a b = bytes_eq (map to_ascii_lowercase a) (map to_ascii_lowercase b)

-- the kind of the word in the list, else that of a name
abbrev pub kind_among : List ℕ → Reservations → Kind
kind_among word [] = k.Name
kind_among word (p ∷ ps) = if same_word word p.0 then p.1 else kind_among word ps

-- the kind of a word
abbrev pub kind_of_word : List ℕ → Kind
kind_of_word word = kind_among word (of_length (length word))
