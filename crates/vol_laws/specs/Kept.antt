-- What a write keeps that moves no part.
use Rattle.std.specs.Prelude.{◌≡◌, ◌≢◌, ◌↔◌, ℕ, List}
use Rattle.a2_device.specs.Device.{unit_at}
use Rattle.a2_device.specs.declared.part.Part.{Part}
use Rattle.vol_format.specs.Accepted.{IsAccepted}
use Rattle.vol_format.specs.Directory.{Directory, IsSameFrame}
use Rattle.vol_format.specs.Meaning.{Meaning}
use Rattle.vol_format.specs.Reach.{Reach, SameContents}

-- no part stands at the place
abbrev pub IsUnreached : Meaning → Directory → List (List ℕ) → ℕ → Type 0
IsUnreached format directory store place = (part : Part) → Reach format directory store part → part.place ≢ place

-- The volume is accepted; its files have the same parts at the same places, with the same units and so the same
-- contents; and the directories differ at most in the marks and in the places that entries point to.
pub record IsKept (format : Meaning) (before after : Directory) (old new : List (List ℕ)) : Type 0 where
  pub frame : IsSameFrame before after
  pub accepted : IsAccepted format after new
  pub parts : (part : Part) → Reach format before old part ↔ Reach format after new part
  pub units : (part : Part) → Reach format before old part → unit_at new part.place ≡ unit_at old part.place
  pub contents : SameContents format before after old new
