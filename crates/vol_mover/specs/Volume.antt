-- When two stores hold the same volume.
use Rattle.std.specs.Prelude.{ℕ, List}
use Rattle.vol_format.specs.Directory.{Directory, IsSameFrame}
use Rattle.vol_format.specs.Meaning.{Meaning}
use Rattle.vol_format.specs.Reach.{SameContents}
use Rattle.vol_laws.specs.System.{SameSystem}

-- What the directories of two stores say differs at most in where entries point to and in what is marked free; the
-- files have the same parts with the same contents; and so have the units of the system, the entries' pointers and the
-- marks aside.
abbrev pub SameVolume : Meaning → List (List ℕ) → List (List ℕ) → Type 0
SameVolume format old new =
    (before after : Directory) → format.Describes old before → format.Describes new after
    → SameContents format before after old new × SameSystem format before after old new × IsSameFrame before after
