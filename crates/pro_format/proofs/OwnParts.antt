-- What the key pointer of one file reaches is what the file has on the volume.
use Rattle.std.specs.Prelude.{◌≡◌, ◌↔◌, ◌<◌, ℕ, Bool, List, length, Some, slice_get, slice_index_or}
use Rattle.std.proofs.Common.{sym, ◌∙◌, ap, arith}
use Rattle.std.proofs.lemmas.Option.{slice_get_within, get_or_from_slice_get}
use Rattle.a2_device.specs.Device.{unit_at}
use Rattle.a2_device.specs.declared.part.Part.{Part}
use Rattle.pro_dir.specs.declared.entry.Entry.{Entry}
use Rattle.pro_dir.specs.Entry.{key_of, storage_of}
use Rattle.pro_dir.specs.Volume.{Directory as Tree, Describes, total_blocks}
use Rattle.pro_dir.specs.lemmas.VolumeLaws.{one_directory}
use Rattle.pro_tree.specs.Reach.{pro_root}
use Rattle.pro_tree.specs.File.{InFile, at_key, at_pointer}
use Rattle.pro_tree.specs.Parts.{IsPartsOf as IsWalkOf}
use Rattle.vol_format.specs.Directory.{Directory, Listed, entries, root_of}
use Rattle.vol_format.specs.Reach.{Reach, at_root, at_child}
use Rattle.vol_format.specs.Layout.{IsPartsOfFile}
use Rattle.pro_format.specs.Pro.{DescribesPro, no_slot, pro_meaning}
use Rattle.pro_format.specs.lemmas.ProDirectory.{length-listed, listed_at}
use Rattle.pro_format.specs.lemmas.ProLaws.{total_is, pro_is_readable}
use Rattle.pro_format.specs.lemmas.ProMovable.{pro_is_movable}

module _ (reserved : List Bool) (store : List (List ℕ)) (directory : Directory) (described : DescribesPro reserved store directory)
    (file storage key : ℕ) (inside : file < entries directory) (root : root_of directory file ≡ pro_root (length store) file storage key) where
  in_file_reached : (part : Part) → InFile store file storage key part → Reach (pro_meaning reserved) directory store part
  in_file_reached part (at_key is) = at_root file inside (root ∙ is)
  in_file_reached part (at_pointer {parent} i above is) = at_child i (in_file_reached parent above) is

  in_file_own : (part : Part) → InFile store file storage key part → part.file ≡ file
  in_file_own part (at_key is) = ((pro_is_movable reserved).described store directory described).root_file file part (root ∙ is)
  in_file_own part (at_pointer {parent} i above is) =
      (pro_is_readable reserved).child_file (length store) parent part (unit_at store parent.place) i is ∙ in_file_own parent above

  reached_in_file : (part : Part) → Reach (pro_meaning reserved) directory store part → part.file ≡ file → InFile store file storage key part
  reached_in_file part (at_root entry within is) own =
      let same : entry ≡ file = sym (((pro_is_movable reserved).described store directory described).root_file entry part is) ∙ own in
      at_key (sym root ∙ ap (root_of directory) (sym same) ∙ is)
  reached_in_file part (at_child {parent} i above is) own =
      at_pointer i (reached_in_file parent above (sym ((pro_is_readable reserved).child_file (length store) parent part (unit_at store parent.place) i is) ∙ own)) is

  of_file : (part : Part) → InFile store file storage key part ↔ (Reach (pro_meaning reserved) directory store part × (part.file ≡ file))
  of_file part = (λ has. (in_file_reached part has, in_file_own part has), λ is. reached_in_file part is.0 is.1)

-- the entry of a number in the directories
module _ (reserved : List Bool) (store : List (List ℕ)) (directory : Directory) (tree : Tree) (file : ℕ) (entry : Entry)
    (described : DescribesPro reserved store directory) (says : Describes store tree) (at : slice_get tree.entries file ≡ Some entry) where
  at' : slice_get described.tree.entries file ≡ Some entry
  at' = ap (λ (t : Tree). slice_get t.entries file) (one_directory store tree described.tree says described.described) ∙ at

  within : file < length described.tree.entries
  within = slice_get_within described.tree.entries file entry at'

  inside_directory : file < entries directory
  inside_directory = omega (
    arith,
    within,
    length-listed (total_blocks described.tree.header) described.tree.entries,
    ap (λ (d : Directory). entries d) described.says,
  )

  root_is : root_of directory file ≡ pro_root (length store) file (storage_of entry.bytes) (key_of entry)
  root_is =
      ap (λ (d : Directory). root_of d file) described.says
      ∙ ap (λ (listed : Listed). listed.root) (listed_at (total_blocks described.tree.header) described.tree.entries file within)
      ∙ ap (λ n. pro_root n file (storage_of (slice_index_or described.tree.entries file no_slot).bytes) (key_of (slice_index_or described.tree.entries file no_slot)))
      (total_is reserved store directory described)
      ∙ ap (λ (e : Entry). pro_root (length store) file (storage_of e.bytes) (key_of e)) (get_or_from_slice_get described.tree.entries file entry no_slot at')

  own : (part : Part) → InFile store file (storage_of entry.bytes) (key_of entry) part ↔ (Reach (pro_meaning reserved) directory store part × (part.file ≡ file))
  own = of_file reserved store directory described file (storage_of entry.bytes) (key_of entry) inside_directory root_is

  own_parts : (parts : List Part) → IsWalkOf store file (storage_of entry.bytes) (key_of entry) parts ↔ IsPartsOfFile (pro_meaning reserved) directory store file parts
  own_parts parts = (
    λ is. record {
      members = λ part. (λ has. (own part).0 ((is.members part).0 has), λ reached. (is.members part).1 ((own part).1 reached));
      ordered = is.ordered;
    },
    λ is. record {
      members = λ part. (λ has. (own part).1 ((is.members part).0 has), λ in_file. (is.members part).1 ((own part).0 in_file));
      ordered = is.ordered;
    },
  )

pub same_part : (reserved : List Bool) (store : List (List ℕ)) (directory : Directory) (tree : Tree) (file : ℕ) (entry : Entry) (part : Part)
    → DescribesPro reserved store directory → Describes store tree → slice_get tree.entries file ≡ Some entry
    → InFile store file (storage_of entry.bytes) (key_of entry) part ↔ (Reach (pro_meaning reserved) directory store part × (part.file ≡ file))
same_part reserved store directory tree file entry part described says at = own reserved store directory tree file entry described says at part

pub same_parts : (reserved : List Bool) (store : List (List ℕ)) (directory : Directory) (tree : Tree) (file : ℕ) (entry : Entry) (parts : List Part)
    → DescribesPro reserved store directory → Describes store tree → slice_get tree.entries file ≡ Some entry
    → IsWalkOf store file (storage_of entry.bytes) (key_of entry) parts ↔ IsPartsOfFile (pro_meaning reserved) directory store file parts
same_parts reserved store directory tree file entry parts described says at = own_parts reserved store directory tree file entry described says at parts
