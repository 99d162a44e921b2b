-- What a session shows, and what is true of it between two steps.
use Rattle.std.specs.Prelude.{◌≡◌, ◌<◌, ℕ, ◌+◌, ◌*◌, Bool, false, List, length, All, Option, Some, None, IsTrue}
use Rattle.a2_device.specs.Device.{DeviceState}
use Rattle.a2_device.specs.declared.part.Part.{Part}
use Rattle.vol_layout.specs.Layouts.{IsLayout, IsTarget}
use Rattle.vol_layout.specs.Plans.{IsPlan, after}
use Rattle.vol_layout.specs.Rings.{IsDeficit}
use Rattle.vol_layout.specs.declared.moves.Move.{Move}
use Rattle.vol_format.specs.Directory.{Directory, entries}
use Rattle.vol_format.specs.Meaning.{Meaning}
use Rattle.vol_mover.specs.Tasks.{Course, Task, IsAgenda, moves_of}
use Rattle.vol_mover.specs.Open.{IsOpen}

-- A session: its device; the directory and the parts that were read when it was opened; the layout and over how many
-- places; the writes still to be made; how many writes of the map and how many moves were made; how many places were
-- lost at first; whether a write has failed; and the bytes of a unit, of no meaning between two steps.
pub record Present : Type 0 where
  pub device : DeviceState
  pub opening : Directory
  pub parts : List Part
  pub at : List ℕ
  pub places : ℕ
  pub tasks : List Task
  pub map_writes : ℕ
  pub moves : ℕ
  pub lost_at_first : ℕ
  pub closed : Bool
  pub unit : List ℕ

-- the copies whose pointers are still to be written
abbrev pub copies : Option Move → ℕ
copies None = 0
copies (Some move) = 1

-- moves that lead from a layout to the target, and as few as do
pub record IsShortest (at : List ℕ) (places : ℕ) (moves : List Move) : Type 0 where
  pub layout : IsLayout at places
  pub legal : IsPlan at places moves
  pub target : IsTarget (after at moves)
  pub deficit : IsDeficit at (length moves)

-- A session whose work has come as far as the course. Of every device: the sizes agree, the course is the session's,
-- the writes left fit it and finish the work, and their moves are a shortest plan. Of an honest one, unless a write has
-- failed: what stands is what the course says.
pub record IsSession (format : Meaning) (present : Present) (course : Course) : Type 0 where
  pub takes : format.Takes present.opening.places
  pub places : present.device.places ≡ present.opening.places
  pub unit_size : present.device.unit_size ≡ format.unit_size
  pub unit : length present.unit ≡ format.unit_size
  pub files : All (λ (part : Part). part.file < entries present.opening) present.parts
  pub numbers : length present.at ≡ length present.parts
  pub available : present.places ≡ length present.opening.available
  pub layout : course.at ≡ present.at
  pub moves : course.moves ≡ present.moves
  pub writes : course.writes ≡ present.map_writes + 2 * present.moves + copies course.copied
  pub counted : present.map_writes + present.moves + length present.tasks < 4294967296
  pub agenda : IsAgenda present.opening present.lost_at_first course present.tasks
  pub plan : IsShortest present.at present.places (moves_of present.tasks)
  pub is_open : IsTrue present.device.honest → present.closed ≡ false
      → IsOpen format present.opening present.device.store present.parts course

-- of some course this is a session
abbrev pub HasCourse : Meaning → Present → Type 0
HasCourse format present = (course : Course) × IsSession format present course
