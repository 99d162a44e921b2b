-- Of which files the faults of a volume are, as it is told to who explains them.
use Rattle.std.specs.Prelude.{◌≡◌, ◌⊎◌, ℕ, Bool, true, false, List, [], ◌∷◌, ◌++◌, Option, Some, None, flat_map, zip}
use Rattle.std.specs.List.{find}
use Rattle.a2_device.specs.declared.fault.Fault.{Fault}
use Rattle.a2_device.specs.declared.fault.Fault.TheVariants as faults
use Rattle.file_formats.specs.Files.{FileMeaning}
use Rattle.file_listings.specs.DosText.{Text, line}
use Rattle.file_listings.specs.Steps.{path_of, shown_path}
use Rattle.vol_layout.specs.declared.form.PlaceForm.{PlaceForm}
use Rattle.vol_check.specs.FaultFiles.{FaultList}
use Rattle.vol_check.specs.Judgement.{AreFileFaults}
use Rattle.vol_format.specs.Directory.{Directory}
use Rattle.vol_format.specs.Meaning.{Meaning}
use Rattle.shop_replies.specs.declared.reply.Reply.{Reply}
use Rattle.shop_replies.specs.Reply.{fault_files_in, text_of}
use Rattle.shop_reads.specs.CheckText.{fault_line, fault_text}
use Rattle.shop_reads.specs.declared.fault_files.FaultKind.{FaultKind}
use Rattle.shop_reads.specs.declared.fault_files.FaultKind.TheVariants.{StorageType, OutOfRange, InSystem, Shared, MarkedFree}

-- the kinds of the faults that are of a file
abbrev pub kinds : List FaultKind
kinds = StorageType ∷ OutOfRange ∷ InSystem ∷ Shared ∷ MarkedFree ∷ []

abbrev pub is_of : FaultKind → Fault → Bool
is_of StorageType (faults.StorageType place) = true
is_of OutOfRange (faults.OutOfRange place) = true
is_of InSystem (faults.InSystem place) = true
is_of Shared (faults.Shared place) = true
is_of MarkedFree (faults.MarkedFree place) = true
is_of kind fault = false

-- the first fault of a kind that is of a file, and the number of the entry whose file it is
abbrev pub first_of : FaultList → FaultKind → Option (Fault × ℕ)
first_of list kind = find (λ (told : Fault × ℕ). is_of kind told.0) (zip list.faults list.files)

-- a fault as `check` tells it, and the path of its file as a listing shows it
abbrev pub file_fault_text : PlaceForm → Fault → List ℕ → Text
file_fault_text form fault path = fault_text form fault ++ 32 ∷ shown_path form path

abbrev pub file_line : PlaceForm → FileMeaning → Directory → Option (Fault × ℕ) → Text
file_line form files directory None = []
file_line form files directory (Some told) = line (file_fault_text form told.0 (path_of files directory told.1))

-- a line for the first fault of each kind that is of a file
abbrev pub file_lines : PlaceForm → FileMeaning → Directory → FaultList → Text
file_lines form files directory list = flat_map (λ kind. file_line form files directory (first_of list kind)) kinds

-- The faults that a reply tells are those of the volume, and the reply names the file of the first of each kind.
pub record NamesFiles (form : PlaceForm) (files : FileMeaning) (format : Meaning) (store : List (List ℕ))
    (reply : Reply) : Type 0 where
  pub directory : Directory
  pub list : FaultList
  pub are : AreFileFaults format directory store list
  pub told : text_of reply ≡ flat_map (fault_line form) list.faults
  pub named : fault_files_in reply.told ≡ Some (file_lines form files directory list)

-- a reply names the files of faults so, or names none
abbrev pub NamesFilesOrNone : PlaceForm → FileMeaning → Meaning → List (List ℕ) → Reply → Type 0
NamesFilesOrNone form files format store reply =
    (fault_files_in reply.told ≡ None) ⊎ NamesFiles form files format store reply
