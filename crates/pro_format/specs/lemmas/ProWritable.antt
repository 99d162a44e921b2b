-- The laws of ProDOS that writes to the system's units ask for.
use Rattle.std.specs.Prelude.{◌≡◌, ◌<◌, ℕ, ◌+◌, ◌/◌, true, Bool, List, length, Contains}
use Rattle.std.proofs.Common.{sym, ◌∙◌, ap, arith, subst}
use Rattle.pro_dir.specs.Volume.{map_first, total_blocks}
use Rattle.vol_format.specs.Directory.{Directory, Listed, entries, entry_of, is_system}
use Rattle.vol_format.specs.Laws.{IsDirectory, IsWritable}
use Rattle.pro_format.specs.Pro.{DescribesPro, map_of, no_slot, pro_meaning}
use Rattle.pro_format.specs.lemmas.ProBits.{length-with_free}
use Rattle.pro_format.specs.lemmas.ProDescribed.{each_stored}
use Rattle.pro_format.specs.lemmas.ProDirectory.{length-listed, listed_at}
use Rattle.pro_format.specs.lemmas.ProKeys.{length-with_root}
use Rattle.pro_format.specs.lemmas.ProMarks.{length-free, places_is, block_in_system, map_in_system, map_place-pro, remap_pro}
use Rattle.pro_format.specs.lemmas.ProMovable.{pro_is_movable}
use Rattle.pro_format.specs.lemmas.ProRoots.{turn_pro}
use Rattle.pro_format.specs.lemmas.ProSystemContents.{root_content, not_of_map, mark_content, frame_content-pro}

module _ (reserved : List Bool) (store : List (List ℕ)) (directory : Directory) (described : DescribesPro reserved store directory) where
  -- an entry stands in a block of the directories
  entry_in_block : (file : ℕ) → file < entries directory → Contains described.tree.blocks (entry_of directory file).place
  entry_in_block file = subst (λ (d : Directory). file < entries d → Contains described.tree.blocks (entry_of d file).place) (sym described.says) (λ within.
      let inside : file < length described.tree.entries = omega (arith, within, length-listed (total_blocks described.tree.header) described.tree.entries) in
      subst (Contains described.tree.blocks) (sym (ap (λ (entry : Listed). entry.place) (listed_at (total_blocks described.tree.header) described.tree.entries file inside)))
      (each_stored store described.tree.blocks described.tree.entries described.described.tree file no_slot inside).has)

  is_directory : IsDirectory (pro_meaning reserved) directory
  is_directory = (pro_is_movable reserved).described store directory described

pub pro_is_writable : (reserved : List Bool) → IsWritable (pro_meaning reserved)
pro_is_writable reserved = record {
  entry_inside = λ store directory file described inside.
      block_in_system reserved store directory described (entry_of directory file).place (entry_in_block reserved store directory described file inside);
  marks = λ store directory described.
      ap (λ (d : Directory). length d.free) described.says ∙ length-free (map_of store described.tree) (total_blocks described.tree.header) ∙ sym (places_is reserved store directory described);
  map_inside = λ store directory place described inside.
      let total = places_is reserved store directory described in
      subst (λ p. is_system directory p ≡ true) (sym (map_place-pro reserved store directory described place inside))
      (map_in_system reserved store directory described (map_first described.tree.header + place / 4096) (omega arith) (omega (arith, inside, total)));
  turn = λ store directory file place part described inside root named whole. turn_pro reserved store directory file place part described inside root named.0 whole;
  remap = λ store directory place free described inside whole. remap_pro reserved store directory described place free inside whole;
  root_length = λ unit slot place. length-with_root unit slot place;
  free_length = λ unit place free. length-with_free unit place free;
  turn_content = λ store directory file place part unit described inside root whole.
      root_content directory file place part unit inside root
      (not_of_map reserved store directory described (entry_of directory file).place (entry_in_block reserved store directory described file inside));
  remap_content = λ store directory place free unit described has whole.
      let is = is_directory reserved store directory described in
      mark_content directory place free unit (is.map_counted place ((is.available_of place).0 has).0) has whole;
  frame_content = λ before after place unit same. frame_content-pro before after place unit same;
}
