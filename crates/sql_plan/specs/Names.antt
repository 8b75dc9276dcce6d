-- Names that may stand once only.
use Rattle.std.specs.Prelude.{Bool, true, not, ◌&&◌, if◌then◌else◌, Ok, Err, List, [], ◌∷◌}
use Rattle.std.specs.List.{list_any}
use Rattle.std.specs.Str.{bytes_eq}
use Rattle.cell_errors.specs.declared.fault.CellError.TheVariants as error
use Rattle.cell_errors.specs.Answers.{Answer}
use Rattle.expr_meaning.specs.Names.{Name}

-- whether the name is among these
abbrev pub stands_in : Name → List Name → Bool
stands_in name names = list_any (bytes_eq name) names

-- no name stands twice, tested two by two
abbrev pub are_distinct : List Name → Bool
are_distinct [] = true
are_distinct (n ∷ ns) = not (stands_in n ns) && are_distinct ns

-- each name once, or the error
abbrev pub each_once : List Name → Answer (Unit {0})
each_once names = if are_distinct names then Ok tt else Err error.NameTaken
