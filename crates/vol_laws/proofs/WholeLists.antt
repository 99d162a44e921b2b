-- The list of files of a volume, before and after an entry is entered, has left, or is rewritten.
use Rattle.std.specs.Prelude.{◌≡◌, ◌↔◌, ◌<◌, ◌≤◌, ℕ, false, List}
use Rattle.std.proofs.Common.{subst}
use Rattle.vol_format.specs.Accepted.{IsAccepted}
use Rattle.vol_format.specs.Directory.{Directory, Listed, entries, entry_of, is_directory}
use Rattle.vol_format.specs.Laws.{IsReadable, IsMovable}
use Rattle.vol_format.specs.Meaning.{Meaning}
use Rattle.vol_format.specs.Files.{File, IsFile, IsFiles, HasFiles}
use Rattle.vol_laws.specs.EditLaws.{IsFileFree}
use Rattle.vol_laws.specs.Entered.{HasSameRest, IsNewFile}
use Rattle.vol_laws.specs.FilesOf.{IsFileOf, rewritten_files}
use Rattle.vol_laws.specs.Inserted.{insert_at, inserted, rewritten, files_before}
use Rattle.vol_laws.proofs.Entering.{entered, left}
use Rattle.vol_laws.proofs.FileLists.{files_entered, files_left, list_rewritten}
use Rattle.vol_laws.proofs.FilesOf.{file_of_number, number_of_file}
use Rattle.vol_laws.proofs.Rewriting.{entry_rewritten}

module _ (format : Meaning) (laws : IsReadable format) (movable : IsMovable format) where
  pub file_by_number : (directory : Directory) (store : List (List ℕ)) (entry : ℕ) (file : File) → format.Describes store directory → entry < entries directory
      → IsFile format directory store entry file ↔ IsFileOf format store (entry_of directory entry) file
  file_by_number directory store entry file described inside =
      let own = (movable.described store directory described).root_file in
      (file_of_number format laws directory store own entry inside file, number_of_file format laws directory store own entry inside file)

  -- the files of a volume whose directory is known
  known : (directory : Directory) (store : List (List ℕ)) (all : List File) → format.Describes store directory → HasFiles format store all → IsFiles format directory store all
  known directory store all described has =
      subst (λ (d : Directory). IsFiles format d store all) (laws.one_directory store has.directory directory has.accepted.described described) has.are

  module _ (free : IsFileFree format) (few : Directory) (at : ℕ) (entry : Listed) (within : at ≤ entries few) (is_of_file : is_directory entry ≡ false) where
    pub volume_entered : (old new : List (List ℕ)) (file : File) (others : List File) → IsAccepted format few old → HasSameRest few old new
        → format.Describes new (inserted few at entry) → IsNewFile format few old new entry.root → IsFileOf format new entry file
        → HasFiles format old others → HasFiles format new (insert_at (files_before few at) file others)
    volume_entered old new file others accepted rest described is_new is has = record {
      directory = inserted few at entry;
      accepted = (entered format laws movable free few at entry old new within rest accepted described is_new).accepted;
      are = files_entered format laws movable free few at entry is_of_file within old new file others accepted rest described is
          (known few old others accepted.described has);
    }

    pub files_without : (old new : List (List ℕ)) (all : List File) → format.Takes few.places → IsAccepted format (inserted few at entry) old → HasSameRest few old new
        → format.Describes new few → IsFiles format (inserted few at entry) old all
        → (file : File) × (others : List File) × (all ≡ insert_at (files_before few at) file others) × IsFileOf format old entry file × IsFiles format few new others
    files_without old new all takes accepted rest described are =
        files_left format laws movable free few at entry is_of_file within old new all
        (left format laws movable free few at entry old new within rest accepted described takes).accepted rest accepted.described are

    pub volume_left : (old new : List (List ℕ)) (all : List File) → format.Takes few.places → IsAccepted format (inserted few at entry) old → HasSameRest few old new
        → format.Describes new few → HasFiles format old all
        → (file : File) × (others : List File) × (all ≡ insert_at (files_before few at) file others) × IsFileOf format old entry file × HasFiles format new others
    volume_left old new all takes accepted rest described has =
        let out = files_without old new all takes accepted rest described (known (inserted few at entry) old all accepted.described has) in (
          out.0,
          out.1,
          out.2,
          out.3,
          record {
            directory = few;
            accepted = (left format laws movable free few at entry old new within rest accepted described takes).accepted;
            are = out.4;
          },
        )

  pub volume_rewritten : (directory : Directory) (old new : List (List ℕ)) (file : ℕ) (path bytes : List ℕ) (all : List File) → file < entries directory
      → is_directory (entry_of directory file) ≡ false → IsAccepted format directory old → HasSameRest directory old new
      → format.Describes new (rewritten directory file path bytes) → HasFiles format old all
      → HasFiles format new (rewritten_files all (files_before directory file) path bytes)
  volume_rewritten directory old new file path bytes all inside is_of_file accepted rest described has = record {
    directory = rewritten directory file path bytes;
    accepted = (entry_rewritten format directory old new file path bytes inside accepted rest described).accepted;
    are = list_rewritten format laws movable directory old new file path bytes all inside is_of_file accepted rest described
        (known directory old all accepted.described has);
  }
