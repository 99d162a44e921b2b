-- What stands while parts are moved.
use Rattle.std.specs.Prelude.{◌≡◌, ◌↔◌, ℕ, List, Contains, Some, slice_index}
use Rattle.a2_device.specs.Device.{unit_at}
use Rattle.a2_device.specs.declared.part.Part.{Part}
use Rattle.vol_layout.specs.declared.moves.Move.{Move}
use Rattle.vol_format.specs.Accepted.{IsAccepted}
use Rattle.vol_format.specs.Directory.{Directory, IsSameFrame}
use Rattle.vol_format.specs.Meaning.{Meaning}
use Rattle.vol_format.specs.Standing.{Stands, IsLost}
use Rattle.vol_mover.specs.Tasks.{Course, place_of}

-- The volume is accepted; its directory is that of the opening but for where entries point to and what is marked free;
-- its parts are those of the opening, each where the course says; the course's lost places are the lost ones; and a
-- unit that is copied stands at both places.
pub record IsOpen (format : Meaning) (opening : Directory) (store : List (List ℕ)) (parts : List Part)
    (course : Course) : Type 0 where
  pub directory : Directory
  pub frame : IsSameFrame opening directory
  pub accepted : IsAccepted format directory store
  pub stands : Stands format directory store parts course.at
  pub lost : (place : ℕ) → Contains course.lost place ↔ IsLost format directory store place
  pub copied : (move : Move) → course.copied ≡ Some move
      → unit_at store (place_of opening move.to) ≡ unit_at store (place_of opening (slice_index course.at move.part))
