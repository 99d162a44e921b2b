-- What files that were saved one after the other are to the list of a volume's files.
use Rattle.std.specs.Prelude.{◌≡◌, ◌↔◌, ℕ, List, [], ◌∷◌}
use Rattle.folder_adding.specs.Added.{HasAdded}
use Rattle.folder_adding.specs.Items.{NewFile}
use Rattle.file_edits.specs.Saved.{saved_file}
use Rattle.edit_formats.specs.Saves.{SaveMeaning}
use Rattle.shop_changes.specs.GivenFile.{GivenView, content, stored_units, unit_bytes}
use Rattle.shop_changes.specs.SaidFile.{Gives}
use Rattle.shop_changes.specs.Saves.{HasGivenSaved}
use Rattle.vol_format.specs.Accepted.{IsVolume}
use Rattle.vol_format.specs.Directory.{Listed}
use Rattle.vol_format.specs.Files.{File, HasFiles}
use Rattle.vol_format.specs.Meaning.{Meaning}
use Rattle.vol_laws.specs.Deleted.{IsLostOn}
use Rattle.vol_laws.specs.Inserted.{files_before, insert_at}

-- the file of an entry, with the units of what is given of it
abbrev pub file_of : SaveMeaning → Meaning → GivenView → Listed → File
file_of saves format given entry =
    saved_file format.unit_size saves (stored_units format.unit_size (content given))
    (unit_bytes format.unit_size (content given)) entry

-- What is said of the file gives one, and that was saved: it is entered in the list of the files, with the entry that
-- it got and with its units, before the file of the entry that had its number.
pub record IsEntered (saves : SaveMeaning) (format : Meaning) (file : NewFile) (old new : List (List ℕ))
    (before after : List File) : Type 0 where
  pub given : GivenView
  pub gives : Gives file.said given
  pub saved : HasGivenSaved file.path given saves format old new
  pub is : after ≡ insert_at (files_before saved.directory saved.at) (file_of saves format given saved.entry) before

-- the files were saved one after the other, and each was entered in the list to which the one before it led
abbrev pub AreEntered : SaveMeaning → Meaning → List NewFile → List (List ℕ) → List (List ℕ) → List File → List File
    → Type 0
AreEntered saves format [] old new before after = (new ≡ old) × (after ≡ before)
AreEntered saves format (file ∷ files) old new before after =
    (mid : List (List ℕ)) × (then : List File) × IsEntered saves format file old mid before then
    × AreEntered saves format files mid new then after

-- the volume has these files: those of before, and the new ones, entered in turn
pub record HasEntered (saves : SaveMeaning) (format : Meaning) (added : List NewFile) (old new : List (List ℕ))
    (before : List File) : Type 0 where
  pub after : List File
  pub entered : AreEntered saves format added old new before after
  pub has : HasFiles format new after

-- the volume is accepted, the new files are entered in the list of its files in turn, and the same places are lost
pub record HasFilesAdded (saves : SaveMeaning) (format : Meaning) (added : List NewFile) (old new : List (List ℕ)) :
    Type 0 where
  pub volume : IsVolume format new
  pub files : (before : List File) → HasFiles format old before → HasEntered saves format added old new before
  pub lost : (place : ℕ) → IsLostOn format new place ↔ IsLostOn format old place

-- so it is with all files that were saved to an accepted volume one after the other
abbrev pub AreEnteredInTurn : SaveMeaning → Meaning → Type 0
AreEnteredInTurn saves format =
    (files : List NewFile) (old new : List (List ℕ)) → IsVolume format old → HasAdded saves format files old new
    → HasFilesAdded saves format files old new
