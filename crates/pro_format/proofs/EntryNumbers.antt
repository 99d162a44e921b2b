-- Entries by their numbers in the directory of the volume and in the directories.
use Rattle.std.specs.Prelude.{◌≡◌, ◌<◌, ℕ, Bool, List, length, slice_set}
use Rattle.std.proofs.Common.{sym, ◌∙◌, ap, subst, arith, get_or}
use Rattle.pro_dir.specs.declared.entry.Entry.{Entry}
use Rattle.pro_dir.specs.Paths.{path_of}
use Rattle.pro_dir.specs.Volume.{total_blocks}
use Rattle.vol_format.specs.Directory.{Directory, Listed, entries, entry_of}
use Rattle.pro_format.specs.Pro.{DescribesPro, no_slot, pro_entry}
use Rattle.pro_format.specs.lemmas.ProDescribed.{each_stored}
use Rattle.pro_format.specs.lemmas.ProDirectory.{length-listed, listed_at}
use Rattle.vol_laws.specs.Entered.{HasSameRest}
use Rattle.pro_format.proofs.SystemBlocks.{same_rest}

module _ (reserved : List Bool) (store : List (List ℕ)) (directory : Directory) (described : DescribesPro reserved store directory) (file : ℕ) where
  abbrev all : List Entry
  all = described.tree.entries

  abbrev total : ℕ
  total = total_blocks described.tree.header

  pub number_inside : file < entries directory → file < length all
  number_inside within = omega (arith, within, ap (λ (d : Directory). entries d) described.says, length-listed total all)

  pub entry_is : file < length all → entry_of directory file ≡ pro_entry total file (path_of all file) (get_or all file no_slot)
  entry_is inside = ap (λ (d : Directory). entry_of d file) described.says ∙ listed_at total all file inside

  -- the block of an entry is the system's
  pub entry_rest : (unit : List ℕ) → file < entries directory → HasSameRest directory store (slice_set store (entry_of directory file).place unit)
  entry_rest unit within =
      let inside = number_inside within in
      subst (λ (e : Listed). HasSameRest directory store (slice_set store e.place unit)) (sym (entry_is inside))
      (same_rest reserved store directory described (get_or all file no_slot).place unit
      (each_stored store described.tree.blocks all described.described.tree file no_slot inside).has)
