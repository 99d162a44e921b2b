-- What a write keeps of the units of the system.
use Rattle.std.specs.Prelude.{◌≡◌, ℕ, true, List}
use Rattle.a2_device.specs.Device.{unit_at}
use Rattle.vol_format.specs.Directory.{Directory, is_system}
use Rattle.vol_format.specs.Meaning.{Meaning}

-- each unit of the system has the content that it had, the entries' pointers and the marks of available places aside
abbrev pub SameSystem : Meaning → Directory → Directory → List (List ℕ) → List (List ℕ) → Type 0
SameSystem format before after old new =
    (place : ℕ) → is_system before place ≡ true
    → format.system_content after place (unit_at new place) ≡ format.system_content before place (unit_at old place)
