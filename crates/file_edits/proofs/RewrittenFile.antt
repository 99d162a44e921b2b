-- What rewriting the entry of the first file with a name does to the volume.
use Rattle.std.specs.Prelude.{◌≡◌, ◌↔◌, ◌<◌, ℕ, false, List, length, slice_set}
use Rattle.std.specs.List.{AllZip}
use Rattle.std.proofs.Common.{sym, ◌∙◌, ap, subst, arith}
use Rattle.vol_format.specs.Accepted.{IsAccepted}
use Rattle.vol_format.specs.Directory.{Directory, Listed, no_entry, entry_of, is_directory, files}
use Rattle.vol_format.specs.Laws.{IsReadable, IsMovable, IsWritable}
use Rattle.vol_format.specs.Meaning.{Meaning}
use Rattle.vol_format.specs.Standing.{IsLost}
use Rattle.vol_format.specs.Files.{File, HasFiles, IsFiles}
use Rattle.vol_laws.specs.Entered.{HasSameRest}
use Rattle.vol_laws.specs.FilesOf.{IsFileOf, file_of, no_file, rewritten_files}
use Rattle.vol_laws.specs.Inserted.{rewritten, files_before}
use Rattle.vol_laws.specs.Rewritten.{HasRewritten}
use Rattle.vol_laws.proofs.FilesOf.{by_entries}
use Rattle.vol_laws.proofs.Numbered.{entry_index}
use Rattle.vol_laws.proofs.Rewriting.{entry_rewritten}
use Rattle.vol_laws.proofs.SystemWrites.{one_unit_rest}
use Rattle.vol_laws.proofs.WholeLists.{volume_rewritten}
use Rattle.vol_laws.proofs.Zipped.{zipped_at}
use Rattle.file_formats.specs.FileNames.{FileNameView}
use Rattle.file_formats.specs.Files.{FileMeaning, IsFirstNamed}
use Rattle.vol_laws.specs.Deleted.{IsLostOn}
use Rattle.edit_formats.specs.Edited.{HasChanged}
use Rattle.edit_formats.specs.Lists.{with_first}
use Rattle.file_edits.proofs.FirstNamed.{named_file, first_changed}

module _ (format : Meaning) (laws : IsReadable format) (movable : IsMovable format) (writable : IsWritable format) (meaning : FileMeaning) (name : FileNameView)
    (store : List (List ℕ)) (directory : Directory) (accepted : IsAccepted format directory store) (file : ℕ) (first : IsFirstNamed meaning directory name file) where
  abbrev entry : Listed
  entry = entry_of directory file

  -- the entry is a file's, and stands in a unit of the volume
  pub first_is_file : is_directory entry ≡ false
  first_is_file = (named_file (is_directory entry) (meaning.matches name entry.path) first.named).0

  pub first_inside : entry.place < length store
  first_inside =
      let below = (movable.described store directory accepted.described).entry_below file first.inside in
      omega (arith, below, laws.all_places store directory accepted.described)

  -- The unit that is written there gives the entry a path and bytes, and `change` does the same to the file of the entry.
  module _ (change : File → File) (new_path bytes : List ℕ)
      (same_file : (f : File) → f.path ≡ entry.path → f.bytes ≡ entry.bytes → record f { path = new_path; bytes = bytes } ≡ change f)
      (unit : List ℕ) (described : format.Describes (slice_set store entry.place unit) (rewritten directory file new_path bytes)) where
    abbrev new : List (List ℕ)
    new = slice_set store entry.place unit

    abbrev after : Directory
    after = rewritten directory file new_path bytes

    rest : HasSameRest directory store new
    rest = one_unit_rest directory store entry.place unit (writable.entry_inside store directory file accepted.described first.inside)

    stands : HasRewritten format directory after store new
    stands = entry_rewritten format directory store new file new_path bytes first.inside accepted rest described

    -- the list of files, changed where the file stands in it
    same_list : (all : List File) → IsFiles format directory store all
        → rewritten_files all (files_before directory file) new_path bytes ≡ with_first meaning name change all
    same_list all are =
        let own = (movable.described store directory accepted.described).root_file in
        let zipped : AllZip (IsFileOf format store) (files directory) all = by_entries format laws directory store own all are in
        let index = entry_index directory file first.inside first_is_file in
        let is : IsFileOf format store entry (file_of all (files_before directory file)) =
        subst (λ (e : Listed). IsFileOf format store e (file_of all (files_before directory file))) index.1
        (zipped_at (IsFileOf format store) (files_before directory file) no_entry no_file (files directory) all index.0 zipped) in
        let changed : with_first meaning name change all ≡ slice_set all (files_before directory file) (change (file_of all (files_before directory file))) =
        first_changed meaning name change (IsFileOf format store) (λ e f of. of.path) directory.listed file all first.inside first.named first.first zipped in
        ap (slice_set all (files_before directory file)) (same_file (file_of all (files_before directory file)) is.path is.bytes) ∙ sym changed

    has_files : (all : List File) → HasFiles format store all → HasFiles format new (with_first meaning name change all)
    has_files all has =
        let same : has.directory ≡ directory = laws.one_directory store has.directory directory has.accepted.described accepted.described in
        let are : IsFiles format directory store all = subst (λ (d : Directory). IsFiles format d store all) same has.are in
        subst (HasFiles format new) (same_list all are)
        (volume_rewritten format laws movable directory store new file new_path bytes all first.inside first_is_file accepted rest described has)

    same_lost : (place : ℕ) → IsLostOn format new place ↔ IsLostOn format store place
    same_lost place = (
      λ lost.
          let same : lost.0 ≡ after = laws.one_directory new lost.0 after lost.1.described described in
          (directory, accepted, (stands.lost place).0 (subst (λ (d : Directory). IsLost format d new place) same lost.2)),
      λ lost.
          let same : lost.0 ≡ directory = laws.one_directory store lost.0 directory lost.1.described accepted.described in
          (after, stands.accepted, (stands.lost place).1 (subst (λ (d : Directory). IsLost format d store place) same lost.2)),
    )

    pub rewrite_changes : HasChanged format (with_first meaning name change) store new
    rewrite_changes = record { volume = (after, stands.accepted); files = has_files; lost = same_lost }
