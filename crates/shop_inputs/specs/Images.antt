-- The image of a job, open.
use Rattle.std.specs.Prelude.{◌≡◌, ◌≢◌, ◌⊎◌, ℕ, List, Option, Some, IfSome, IsTrue}
use Rattle.a2_media.specs.File.{FileState}
use Rattle.a2_media.specs.System.{IsInPlace}
use Rattle.shop_host.specs.declared.host.Access.{Access}
use Rattle.shop_host.specs.declared.host.Access.TheVariants as accesses
use Rattle.shop_host.specs.declared.host.Lock.{Lock}
use Rattle.shop_host.specs.declared.host.Lock.TheVariants.{Exclusive, Shared}
use Rattle.shop_host.specs.Reading.{IsUnopened}
use Rattle.shop_host.specs.Runs.{IsLooking, IsReadingInput}
use Rattle.shop_host.specs.State.{HostState, Path}
use Rattle.shop_replies.specs.Volume.{kind_of}
use Rattle.shop_jobs.specs.declared.input.VolumeOptions.{VolumeOptions}
use Rattle.shop_inputs.specs.declared.image.ImageFault.{ImageFault}
use Rattle.shop_inputs.specs.declared.image.ImageFault.TheVariants.{Held, Replaced, Unopened}
use Rattle.shop_inputs.specs.declared.image.ImageUse.{ImageUse}
use Rattle.shop_inputs.specs.declared.image.ImageUse.TheVariants.{Change, Read, Replace}
use Rattle.shop_inputs.specs.declared.image.OpenImage.{OpenImage}
use Rattle.shop_inputs.specs.declared.image.OpenImage.TheVariants.{File, StandardInput}

-- the units of the volume stand in the file of its image as they are
abbrev pub StandsInItsFile : VolumeOptions → Type 0
StandsInItsFile volume = IsInPlace volume.order (kind_of volume.file_system)

-- others may hold the lock too where the image is only read
abbrev pub lock_for : ImageUse → Lock
lock_for Read = Shared
lock_for Replace = Exclusive
lock_for Change = Exclusive

-- how a file is used that is opened so, where nobody else may hold its lock
abbrev pub use_alone : Access → ImageUse
use_alone accesses.Read = Replace
use_alone accesses.Change = Change

-- the file to which a path leads, and of a regular one all bytes are still to be read
pub record IsFileAt (at : Path) (rest : Option (List ℕ)) (path : Path) (host : HostState) : Type 0 where
  pub place : at ≡ host.leads path
  pub unread : IfSome (host.files (host.leads path)) (λ content. rest ≡ Some content.bytes)

-- Why the file of an image was not opened: the system refused it, or its lock; or it is to be changed, and no one may
-- write it. That another file has taken its place is looked for where it is not only read.
abbrev pub IsCause : Path → ImageUse → HostState → ImageFault → Type 0
IsCause path image_use new Unopened = IsUnopened path new ⊎ (image_use ≡ Change)
IsCause path image_use new Held = IsUnopened path new
IsCause path image_use new Replaced = image_use ≢ Read

-- the image is a file of which this holds
abbrev pub IsFile : {H F Units Names : Type 0} → (F → Type 0) → OpenImage H F Units Names → Type 0
IsFile holds StandardInput = ⊥
IsFile holds (File file) = holds file

-- what is still to be read of it, by what there is of each file and of standard input
abbrev pub rest_of : {H F Units Names : Type 0} → (F → Option (List ℕ)) → Option (List ℕ) → OpenImage H F Units Names
    → Option (List ℕ)
rest_of unread input StandardInput = input
rest_of unread input (File file) = unread file

-- what reading it changes of a host
abbrev pub IsReadingOf : {H F Units Names : Type 0} → OpenImage H F Units Names → HostState → HostState → Type 0
IsReadingOf StandardInput old new = IsReadingInput old new
IsReadingOf (File file) old new = IsLooking old new

-- These are the bytes of the open file at a path, to be changed where they stand: of a regular one all that it holds.
pub record AreUnitsOf {U : Type 0} (units_place : U → Path) (state : U → FileState) (at : Path) (host : HostState)
    (units : U) : Type 0 where
  pub place : units_place units ≡ at
  pub bytes : IfSome (host.files at) (λ content. IsTrue (state units).honest
      × ((state units).bytes ≡ content.bytes))
