-- The writes of the parts of a new file.
use Rattle.std.specs.Prelude.{◌≡◌, ◌≢◌, ◌<◌, ℕ, Bool, false, List, length, slice_index, slice_index_or, All}
use Rattle.a2_device.specs.declared.part.PartKind.TheVariants.{Body}
use Rattle.edit_formats.specs.declared.new_part.NewPart.{NewPart}
use Rattle.edit_formats.specs.Order.{part_at}
use Rattle.vol_format.specs.Meaning.{Meaning}
use Rattle.vol_laws.specs.Writes.{Write}
use Rattle.edit_formats.specs.Writes.{no_write}
use Rattle.edit_formats.specs.Saves.{SaveMeaning}
use Rattle.file_edits.specs.declared.building.PlacedParts.{PlacedParts}
use Rattle.file_edits.specs.Given.{given_unit}

-- Parts whose units can be built: they are those of a file that is not too long, and each has a place, which the format
-- can name.
pub record AreBuildable (format : Meaning) (saves : SaveMeaning) (placed : PlacedParts) : Type 0 where
  pub parts : (stored : List Bool) × (saves.too_long 0 (length stored) ≡ false)
      × (placed.parts.now ≡ saves.parts stored)
  pub count : length placed.places.now ≡ length placed.parts.now
  pub places : (count : ℕ) × All (format.CanName count) placed.places.now

-- the write of part k: to its place, the unit of the body as it is given, or the table that the format builds
pub record IsPartWrite (saves : SaveMeaning) (size : ℕ) (parts : List NewPart) (places : List ℕ) (stored : List Bool)
    (text : List ℕ) (k : ℕ) (write : Write) : Type 0 where
  pub place : write.place ≡ slice_index places k
  pub size_is : length write.unit ≡ size
  pub body : (part_at parts k).kind ≡ Body → write.unit ≡ given_unit size stored text (part_at parts k).number
  pub table : (part_at parts k).kind ≢ Body → saves.IsTable parts places k write.unit

-- one for each of the first parts, so many
pub record HasPartWrites (saves : SaveMeaning) (size : ℕ) (parts : List NewPart) (places : List ℕ) (stored : List Bool)
    (text : List ℕ) (count : ℕ) (writes : List Write) : Type 0 where
  pub count_is : length writes ≡ count
  pub each : (k : ℕ) → k < count → IsPartWrite saves size parts places stored text k (slice_index_or writes k no_write)
