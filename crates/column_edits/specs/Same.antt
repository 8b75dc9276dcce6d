-- When two columns of layouts are the same.
use Rattle.std.specs.Prelude.{◌≡◌, ℕ, ◌&&◌, Bool, Option, Some, None, List, nat_eq}
use Rattle.std.proofs.Common.{ap, refl}
use Rattle.std.proofs.lemmas.Bool.Decides.{Decides-and, Decides-eqb}
use Rattle.std.specs.Bool.{Decides}
use Rattle.std.specs.Option.{option_eq}
use Rattle.std.specs.Cmp.{IsEquivalence, decided}
use Rattle.std.specs.Cmp.Lexicographic.{pointwise, pointwise_decides}
use Rattle.dataset_types.specs.Same.{same_column, column_decides}
use Rattle.column_edits.specs.declared.layout.LaidColumn.{LaidColumn}

-- the same column, with the values of the same place or new ones
abbrev pub same_laid : LaidColumn → LaidColumn → Bool
same_laid a b = same_column a.column b.column && option_eq nat_eq a.source b.source

source_decides : (a b : Option ℕ) → Decides (option_eq nat_eq a b) (a ≡ b)
source_decides None None = (λ e. refl, λ e. refl)
source_decides None (Some b) = (λ e. cc, λ e. cc)
source_decides (Some a) None = (λ e. cc, λ e. cc)
source_decides (Some a) (Some b) = (
  λ e. ap (λ z. Some z) ((Decides-eqb a b).0 e),
  λ e. (Decides-eqb a b).1 cc,
)

pub laid_decides : (a b : LaidColumn) → Decides (same_laid a b) (a ≡ b)
laid_decides a b =
    let both = Decides-and _ _ (column_decides a.column b.column) (source_decides a.source b.source) in (
      λ e. λ i. record { column = (both.0 e).0 i; source = (both.0 e).1 i },
      λ e. both.1 (ap (λ (c : LaidColumn). c.column) e, ap (λ (c : LaidColumn). c.source) e),
    )

pub laid_equiv : IsEquivalence same_laid
laid_equiv = decided same_laid laid_decides

pub layout_decides : (a b : List LaidColumn) → Decides (pointwise same_laid a b) (a ≡ b)
layout_decides = pointwise_decides laid_decides
