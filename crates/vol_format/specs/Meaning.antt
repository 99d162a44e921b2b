-- What a format means.
use Rattle.std.specs.Prelude.{ℕ, Bool, List, length}
use Rattle.a2_device.specs.Device.{unit_at}
use Rattle.a2_device.specs.declared.part.Part.{Part}
use Rattle.a2_device.specs.declared.fault.Fault.{Fault}
use Rattle.vol_format.specs.declared.link.Link.{Link}
use Rattle.vol_format.specs.Directory.{Directory}

-- The size of a unit; which numbers of places it takes; what the header, the directory and the map of a store
-- say, and what is wrong with one of which they say nothing.
--
-- `pointers part` is how many pointers the unit of a part has, and `child places part unit i` what pointer i of that
-- unit names on a volume of so many places. `rank` is a part's place in the order of its file's parts, `Ends part r`
-- that the part and all below it have ranks less than r, and `depth` how many units of the part's kind lead to it.
--
-- `CanName places place`: a pointer can name the place. `HasSlot entry slot`: a directory unit has an entry of that
-- number, or the unit of a part a pointer. `with_pointer unit i place` is the unit of a part with pointer i naming the
-- place, `with_root unit slot place` a directory unit with the entry of a slot pointing to it, `with_free unit place
-- free` a unit of the map with the place marked free or used.
--
-- `content part unit` is the unit of a part with its pointers to parts put to 0, and `system_content directory place
-- unit` a unit of the system with the entries' pointers to parts and the marks of available places put to 0.
pub record Meaning : Type 1 where
  pub unit_size : ℕ
  pub Takes : ℕ → Type 0
  pub Describes : List (List ℕ) → Directory → Type 0
  pub HeaderFaultAt : List (List ℕ) → Fault → Type 0
  pub pointers : Part → ℕ
  pub child : ℕ → Part → List ℕ → ℕ → Link
  pub rank : Part → ℕ
  pub Ends : Part → ℕ → Type 0
  pub depth : Part → ℕ
  pub CanName : ℕ → ℕ → Type 0
  pub HasSlot : Bool → ℕ → Type 0
  pub with_pointer : List ℕ → ℕ → ℕ → List ℕ
  pub with_root : List ℕ → ℕ → ℕ → List ℕ
  pub with_free : List ℕ → ℕ → Bool → List ℕ
  pub content : ℕ → Part → List ℕ → List ℕ
  pub system_content : Directory → ℕ → List ℕ → List ℕ

-- what pointer i of the unit at a part's place names
abbrev pub link_from : Meaning → List (List ℕ) → Part → ℕ → Link
link_from format store part i = format.child (length store) part (unit_at store part.place) i
