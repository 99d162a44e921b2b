-- Stores whose files have the same contents, and whose directories have one frame, have the same files.
use Rattle.std.specs.Prelude.{◌≡◌, ◌↔◌, ℕ, not, List, filter, slice_index_or}
use Rattle.std.specs.List.{AllZip, range_with_len}
use Rattle.std.proofs.Common.{refl, sym, ◌∙◌, ap, subst}
use Rattle.std.proofs.Math.ListN.{get_or-map}
use Rattle.std.proofs.lemmas.List.Elements.{filter_agree}
use Rattle.a2_device.specs.Device.{unit_at}
use Rattle.a2_device.specs.declared.part.PartKind.TheVariants.{Body}
use Rattle.vol_format.specs.declared.link.Link.{Link}
use Rattle.vol_format.specs.declared.link.Link.TheVariants.{Null, Wild, Directory as ToDirectory, OtherType, To}
use Rattle.vol_format.specs.Accepted.{IsVolume}
use Rattle.vol_format.specs.Directory.{Directory, Listed, entries, entry_of, no_entry, root_of, is_directory, leads_to_directory, unplaced, frame_of, IsSameFrame}
use Rattle.vol_format.specs.Laws.{IsMovable}
use Rattle.vol_format.specs.Meaning.{Meaning}
use Rattle.vol_format.specs.Reach.{HasContent, SameContents}
use Rattle.vol_format.proofs.Frames.{same_entries, same_root}
use Rattle.vol_format.specs.Files.{Stored, File, IsStored, IsFile, IsFiles, file_numbers, HasFiles, KeepsFiles}
use Rattle.vol_format.proofs.Lists.{zipped_weaker}

-- whether an entry is a directory's does not depend on the place of what it points to
same_lead : (link : Link) → leads_to_directory (unplaced link) ≡ leads_to_directory link
same_lead (To part) = refl
same_lead Null = refl
same_lead Wild = refl
same_lead ToDirectory = refl
same_lead OtherType = refl

module _ (before after : Directory) (frame : IsSameFrame before after) where
  framed : (directory : Directory) (entry : ℕ)
      → slice_index_or (frame_of directory).listed entry no_entry ≡ record (entry_of directory entry) { root = unplaced (root_of directory entry) }
  framed directory entry = get_or-map (λ (listed : Listed). record listed { root = unplaced listed.root }) directory.listed entry no_entry

  same_framed : (entry : ℕ)
      → record (entry_of after entry) { root = unplaced (root_of after entry) } ≡ record (entry_of before entry) { root = unplaced (root_of before entry) }
  same_framed entry = sym (framed after entry) ∙ ap (λ (d : Directory). slice_index_or d.listed entry no_entry) frame ∙ framed before entry

  same_path : (entry : ℕ) → (entry_of after entry).path ≡ (entry_of before entry).path
  same_path entry = ap (λ (listed : Listed). listed.path) (same_framed entry)

  same_bytes : (entry : ℕ) → (entry_of after entry).bytes ≡ (entry_of before entry).bytes
  same_bytes entry = ap (λ (listed : Listed). listed.bytes) (same_framed entry)

  same_numbers : file_numbers after ≡ file_numbers before
  same_numbers =
      ap (λ n. filter (λ entry. not (is_directory (entry_of after entry))) (range_with_len 0 n)) (same_entries before after frame)
      ∙ filter_agree (λ entry. not (is_directory (entry_of after entry))) (λ entry. not (is_directory (entry_of before entry)))
      (λ entry. ap not (sym (same_lead (root_of after entry)) ∙ ap leads_to_directory (same_root before after frame entry) ∙ same_lead (root_of before entry)))
      (range_with_len 0 (entries before))

module _ (format : Meaning) (movable : IsMovable format) where
  -- the content of a unit of the body is the unit
  stored_content : (directory : Directory) (store : List (List ℕ)) (entry : ℕ) (stored : Stored)
      → IsStored format directory store entry stored ↔ HasContent format directory store entry Body stored.number stored.unit
  stored_content directory store entry stored = (
    λ is. record {
      part = is.part;
      reached = is.reached;
      in_file = is.in_file;
      of_kind = is.of_body;
      numbered = is.numbered;
      is = movable.content_of_body directory.places is.part (unit_at store is.part.place) is.of_body ∙ is.stands;
    },
    λ has. record {
      part = has.part;
      reached = has.reached;
      in_file = has.in_file;
      of_body = has.of_kind;
      numbered = has.numbered;
      stands = sym (movable.content_of_body directory.places has.part (unit_at store has.part.place) has.of_kind) ∙ has.is;
    },
  )

  module _ (before after : Directory) (old new : List (List ℕ)) (frame : IsSameFrame before after) (same : SameContents format before after old new) where
    file_kept : (entry : ℕ) (file : File) → IsFile format before old entry file → IsFile format after new entry file
    file_kept entry file is = record {
      path = is.path ∙ sym (same_path before after frame entry);
      bytes = is.bytes ∙ sym (same_bytes before after frame entry);
      members = λ stored.
          let was = stored_content before old entry stored in
          let now = stored_content after new entry stored in
          let contents = same entry Body stored.number stored.unit in (
            λ has. now.1 (contents.0 (was.0 ((is.members stored).0 has))),
            λ is'. (is.members stored).1 (was.1 (contents.1 (now.0 is'))),
          );
      rising = is.rising;
    }

    pub files_kept : (files : List File) → IsFiles format before old files → IsFiles format after new files
    files_kept files are = subst (λ numbers. AllZip (IsFile format after new) numbers files) (sym (same_numbers before after frame))
        (zipped_weaker (IsFile format before old) (IsFile format after new) file_kept (file_numbers before) files are)

  keeps_back : (old new : List (List ℕ)) → KeepsFiles format old new → KeepsFiles format new old
  keeps_back old new keeps before after was now =
      let same = keeps after before now was in
      (λ file kind number content. ((same.0 file kind number content).1, (same.0 file kind number content).0), sym same.1)

  keeps_on : (old new : List (List ℕ)) → KeepsFiles format old new → IsVolume format new → (files : List File) → HasFiles format old files → HasFiles format new files
  keeps_on old new keeps volume files has =
      let same = keeps has.directory volume.0 has.accepted.described volume.1.described in
      record {
        directory = volume.0;
        accepted = volume.1;
        are = files_kept has.directory volume.0 old new same.1 same.0 files has.are;
      }

  pub same_files : (old new : List (List ℕ)) → KeepsFiles format old new → IsVolume format old → IsVolume format new
      → (files : List File) → HasFiles format old files ↔ HasFiles format new files
  same_files old new keeps was now files = (keeps_on old new keeps now files, keeps_on new old (keeps_back old new keeps) was files)
