-- Places marked used or free in a unit of the map.
use Rattle.std.specs.Prelude.{◌≡◌, ◌<◌, ℕ, true, List, [], ◌∷◌}
use Rattle.vol_format.specs.Directory.{Directory, map_place, remapped}
use Rattle.vol_format.specs.Meaning.{Meaning}
use Rattle.vol_laws.specs.Kept.{IsUnreached}
use Rattle.vol_laws.specs.declared.mark.Mark.{Mark}

-- The unit of the map at `at` has the mark of the place, and no part stands there if it is to be marked free.
pub record CanMark (format : Meaning) (directory : Directory) (store : List (List ℕ)) (at : ℕ)
    (mark : Mark) : Type 0 where
  pub inside : mark.place < directory.places
  pub here : map_place directory mark.place ≡ at
  pub unreached : mark.free ≡ true → IsUnreached format directory store mark.place

-- a unit of the map, and a directory, with these marks made in turn
abbrev pub with_marks : Meaning → List ℕ → List Mark → List ℕ
with_marks format unit [] = unit
with_marks format unit (mark ∷ marks) = with_marks format (format.with_free unit mark.place mark.free) marks

abbrev pub marked : Directory → List Mark → Directory
marked directory [] = directory
marked directory (mark ∷ marks) = marked (remapped directory mark.place mark.free) marks
