-- A volume whose header, directory and map were read.
use Rattle.std.specs.Prelude.{◌≡◌, length}
use Rattle.vol_format.specs.Directory.{Directory}
use Rattle.vol_format.specs.Meaning.{Meaning}

-- The format whose volumes have this directory, whatever their store says.
abbrev pub of_known : Meaning → Directory → Meaning
of_known format directory = record format {
  Takes = λ places. (places ≡ directory.places) × format.Takes places;
  Describes = λ store described. (described ≡ directory) × (length store ≡ directory.places);
  HeaderFaultAt = λ store fault. ⊥;
  CanName = λ places place. Unit {0};
}
