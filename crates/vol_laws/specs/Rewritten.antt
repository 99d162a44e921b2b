-- What stands once an entry is rewritten.
use Rattle.std.specs.Prelude.{◌≡◌, ◌↔◌, ℕ, List}
use Rattle.a2_device.specs.Device.{unit_at}
use Rattle.a2_device.specs.declared.part.Part.{Part}
use Rattle.vol_format.specs.Accepted.{IsAccepted}
use Rattle.vol_format.specs.Directory.{Directory}
use Rattle.vol_format.specs.Meaning.{Meaning}
use Rattle.vol_format.specs.Reach.{Reach, SameContents}
use Rattle.vol_format.specs.Standing.{IsLost}

-- The volume is accepted; its files have the same parts at the same places, with the same units and so the same
-- contents; and the same places are lost.
pub record HasRewritten (format : Meaning) (before after : Directory) (old new : List (List ℕ)) : Type 0 where
  pub accepted : IsAccepted format after new
  pub parts : (part : Part) → Reach format before old part ↔ Reach format after new part
  pub units : (part : Part) → Reach format before old part → unit_at new part.place ≡ unit_at old part.place
  pub contents : SameContents format before after old new
  pub lost : (place : ℕ) → IsLost format after new place ↔ IsLost format before old place
