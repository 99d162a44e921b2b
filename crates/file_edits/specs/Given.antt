-- A new file as its owner gives it.
use Rattle.std.specs.Prelude.{◌≡◌, ℕ, ◌+◌, ◌*◌, Bool, if◌then◌else◌, List, length, map, replicate, slice_range}
use Rattle.std.specs.List.{range_with_len}
use Rattle.vol_format.specs.Meaning.{Meaning}
use Rattle.edit_formats.specs.Parts.{is_stored}
use Rattle.file_edits.specs.declared.given.NewFile.{NewFile}

-- Unit `number` of a file whose units, of a size, stand one after the other; a hole is zeros.
abbrev pub given_unit : ℕ → List Bool → List ℕ → ℕ → List ℕ
given_unit size stored text number =
    if is_stored stored number then slice_range text (size * number) (size * number + size) else replicate size 0

-- the first of them, so many; behind those that are given there are zeros
abbrev pub given_units : ℕ → List Bool → List ℕ → ℕ → List (List ℕ)
given_units size stored text count = map (given_unit size stored text) (range_with_len 0 count)

-- the units of a file are all given, each as long as a unit of the volume
abbrev pub HasUnitsOf : Meaning → NewFile → Type 0
HasUnitsOf format file = format.unit_size * length file.stored.now ≡ length file.units.now
