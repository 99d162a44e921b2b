-- What two directories of one frame share, and what a changed entry or mark leaves of the frame.
use Rattle.std.specs.Prelude.{◌≡◌, ℕ, Bool, List, length, slice_index_or}
use Rattle.std.proofs.Common.{refl, sym, ◌∙◌, ap}
use Rattle.std.proofs.Math.ListN.{get_or-map}
use Rattle.std.proofs.Math.Seq.{map-set_same}
use Rattle.std.proofs.lemmas.List.{length-map}
use Rattle.vol_format.specs.declared.link.Link.{Link}
use Rattle.vol_format.specs.Directory.{Directory, Listed, no_entry, entries, entry_of, root_of, is_system, map_place, unplaced, frame_of, IsSameFrame, turned, remapped}

abbrev without_place : Listed → Listed
without_place entry = record entry { root = unplaced entry.root }

entry_in_frame : (directory : Directory) (file : ℕ) → slice_index_or (frame_of directory).listed file no_entry ≡ without_place (entry_of directory file)
entry_in_frame directory file = get_or-map (λ (entry : Listed). record entry { root = unplaced entry.root }) directory.listed file no_entry

module _ (before after : Directory) (same : IsSameFrame before after) where
  same_entry : (file : ℕ) → without_place (entry_of after file) ≡ without_place (entry_of before file)
  same_entry file = sym (entry_in_frame after file) ∙ ap (λ (d : Directory). slice_index_or d.listed file no_entry) same ∙ entry_in_frame before file

  pub same_entry_place : (file : ℕ) → (entry_of after file).place ≡ (entry_of before file).place
  same_entry_place file = ap (λ (entry : Listed). entry.place) (same_entry file)

  pub same_entry_slot : (file : ℕ) → (entry_of after file).slot ≡ (entry_of before file).slot
  same_entry_slot file = ap (λ (entry : Listed). entry.slot) (same_entry file)

  pub same_root : (file : ℕ) → unplaced (root_of after file) ≡ unplaced (root_of before file)
  same_root file = ap (λ (entry : Listed). entry.root) (same_entry file)

  pub same_entries : entries after ≡ entries before
  same_entries =
      sym (length-map after.listed (λ (entry : Listed). record entry { root = unplaced entry.root }))
      ∙ ap (λ (d : Directory). length d.listed) same
      ∙ length-map before.listed (λ (entry : Listed). record entry { root = unplaced entry.root })

  pub same_places : after.places ≡ before.places
  same_places = ap (λ (d : Directory). d.places) same

  pub same_system : (place : ℕ) → is_system after place ≡ is_system before place
  same_system place = ap (λ (d : Directory). is_system d place) same

  pub same_available : after.available ≡ before.available
  same_available = ap (λ (d : Directory). d.available) same

  pub same_map_place : (place : ℕ) → map_place after place ≡ map_place before place
  same_map_place place = ap (λ (d : Directory). map_place d place) same

-- an entry that points to the same part elsewhere, and a place marked
pub turned_frame : (directory : Directory) (file : ℕ) (root : Link) → unplaced root ≡ unplaced (root_of directory file) → IsSameFrame directory (turned directory file root)
turned_frame directory file root same = ap (λ (listed : List Listed). record (frame_of directory) { listed = listed })
    (map-set_same (λ (entry : Listed). record entry { root = unplaced entry.root }) directory.listed file (record (entry_of directory file) { root = root }) no_entry
    (ap (λ (link : Link). record (entry_of directory file) { root = link }) same))

pub remapped_frame : (directory : Directory) (place : ℕ) (free : Bool) → IsSameFrame directory (remapped directory place free)
remapped_frame directory place free = refl
