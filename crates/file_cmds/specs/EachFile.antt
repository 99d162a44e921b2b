-- What is kept of a volume of which many files are read: the parts of all its files, or tables to walk over each.
use Rattle.std.specs.Prelude.{◌≡◌, ◌<◌, ℕ, List, Option, Some, None, IsTrue}
use Rattle.std.specs.List.{All}
use Rattle.std.specs.declared.vec.Vec.{Vec}
use Rattle.a2_device.specs.Device.{DeviceState}
use Rattle.a2_device.specs.declared.part.Part.{Part}
use Rattle.vol_format.specs.Directory.{Directory, entries}
use Rattle.vol_format.specs.Meaning.{Meaning}
use Rattle.vol_format.specs.Reach.{IsPartsOf}
use Rattle.vol_check.specs.FileWalker.{HasTables}
use Rattle.vol_check.specs.declared.file_walker.FileWalker.{FileWalker}
use Rattle.file_cmds.specs.Text.{OwnFault, whole_text}
use Rattle.file_cmds.specs.Walked.{stored_of}
use Rattle.file_cmds.specs.declared.each_file.VolumeFiles.{VolumeFiles}
use Rattle.file_cmds.specs.declared.file_texts.FileText.{FileText}
use Rattle.file_cmds.specs.declared.file_texts.FileText.TheVariants.{Whole, Faulty, Failed}

-- the parts of all files, in order, of which none has a fault of its own
pub record AreFaultlessParts (format : Meaning) (directory : Directory) (store : List (List ℕ))
    (parts : List Part) : Type 0 where
  pub are_parts : IsPartsOf format directory store parts
  pub faultless : (file : ℕ) → file < entries directory → ¬ OwnFault format directory store file

-- each of these parts stands at one of so many places
abbrev pub StandWithin : ℕ → List Part → Type 0
StandWithin places parts = All (λ (part : Part). part.place < places) parts

-- parts that are kept stand at places of the device
abbrev pub KeptWithin : {A : Type 0} → ℕ → Option (Vec Part A) → Type 0
KeptWithin places (Some parts) = StandWithin places parts.items
KeptWithin places None = Unit {0}

-- parts that are kept are those of all files
abbrev pub AreKeptOf : {A : Type 0} → Meaning → Directory → List (List ℕ) → Option (Vec Part A) → Type 0
AreKeptOf format directory store (Some parts) = AreFaultlessParts format directory store parts.items
AreKeptOf format directory store None = Unit {0}

-- where no parts are kept, there are tables to walk over one file after the other
abbrev pub HasWalker : {A : Type 0} → DeviceState → Option (Vec Part A) → Option (FileWalker A) → Type 0
HasWalker device (Some parts) walker = Unit {0}
HasWalker device None (Some walker) = HasTables device walker
HasWalker device None None = ⊥

-- the files of a volume that was opened on this device
pub record AreFilesOf {A : Type 0} (format : Meaning) (directory : Directory) (device : DeviceState)
    (files : VolumeFiles A) : Type 0 where
  pub within : KeptWithin device.places files.parts
  pub walker : HasWalker device files.parts files.walker
  pub kept : IsTrue device.honest → AreKeptOf format directory device.store files.parts

-- what is read of a file that has these parts: the text that they give, or a unit of it could not be read
abbrev pub IsTextBy : {A : Type 0} → ℕ → List (List ℕ) → List Part → FileText A → Type 0
IsTextBy unit_size store parts (Whole text) = text.items ≡ whole_text unit_size (stored_of store parts)
IsTextBy unit_size store parts Faulty = ⊥
IsTextBy unit_size store parts Failed = Unit {0}
