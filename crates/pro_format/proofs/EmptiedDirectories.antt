-- A slot of a directory block that is emptied: the directory of the volume has one entry less.
use Rattle.std.specs.Prelude.{◌≡◌, ◌≤◌, ℕ, Bool, List, length, Contains}
use Rattle.std.proofs.Common.{refl, sym, ◌∙◌, ap, subst, arith}
use Rattle.pro_dir.specs.declared.entry.Entry.{Entry}
use Rattle.pro_dir.specs.Volume.{Directory as Tree, map_blocks, map_first, total_blocks}
use Rattle.vol_format.specs.Directory.{Directory, Listed, entries as entry_count}
use Rattle.pro_format.specs.Pro.{DescribesPro, available_in, map_of, pro_directory, pro_listed}
use Rattle.pro_format.specs.lemmas.ProDirectory.{length-listed}
use Rattle.pro_format.specs.lemmas.ProMarks.{map_block, units-same}
use Rattle.vol_laws.specs.Inserted.{insert_at, inserted}
use Rattle.pro_format.specs.Filled.{IsFilled, IsNoKey, filled_entry, pro_new}
use Rattle.pro_format.specs.Slots.{IsNoHeader}
use Rattle.pro_format.proofs.FilledDirectories.{header_same, system_same}
use Rattle.pro_format.proofs.Numbers.{listed_more}
use Rattle.pro_format.proofs.EmptiedTrees.{tree_emptied}

module _ (less more : List (List ℕ)) (place slot : ℕ) (filled : IsFilled less more place slot) where
  -- A slot of the directories is emptied: the directory was that of the emptier store with one entry more.
  pub record HasProLeft (reserved : List Bool) (directory : Directory) (all : List Entry) : Type 0 where
    pub few : Directory
    pub described : DescribesPro reserved less few
    pub key : ℕ
    pub at : ℕ
    pub within : at ≤ entry_count few
    pub is : directory ≡ inserted few at (pro_new more place slot described.tree key at)
    pub entries_are : all ≡ insert_at at (filled_entry more place slot key) described.tree.entries
    pub inside : at ≤ length described.tree.entries

  pub pro_emptied : (no_header : IsNoHeader place slot 2) (reserved : List Bool) (directory : Directory) (described : DescribesPro reserved more directory) → Contains described.tree.blocks place
      → IsNoKey place slot described.tree.entries → HasProLeft reserved directory described.tree.entries
  pro_emptied no_header reserved directory described has no_key =
      let tree = described.tree in
      let total = total_blocks tree.header in
      let one = tree_emptied less more place slot filled tree.blocks tree.entries described.described.tree has no_header no_key in
      let few_tree : Tree = record tree { entries = one.others } in
      let few : Directory = pro_directory reserved few_tree (map_of less few_tree) in
      let header = header_same less more place slot filled no_header in
      let units : map_of more tree ≡ map_of less few_tree =
      units-same less more (map_first tree.header) (map_blocks total)
      (λ block from below. filled.alike.elsewhere block (λ e. (map_block reserved more directory described block from below).1 (subst (Contains tree.blocks) (sym e) has))) in
      let size : length few.listed ≡ length one.others = length-listed total one.others in
      record {
        few = few;
        described = record {
          size = (omega (arith, filled.alike.size, described.size.0), omega (arith, filled.alike.size, described.size.1));
          tree = few_tree;
          described = record {
            geometry = record {
              kind_is = one.tree.listed.volume.kind_is;
              sizes = one.tree.listed.volume.sizes;
              total = ap total_blocks (sym header) ∙ described.described.geometry.total ∙ filled.alike.size;
            };
            header = described.described.header ∙ header;
            tree = one.tree;
            map = λ block from below.
                let is = described.described.map block from (omega (arith, below, ap map_blocks filled.alike.size)) in
                ((is.0.0, omega (arith, is.0.1, filled.alike.size)), is.1);
          };
          says = refl;
        };
        key = one.key;
        at = one.at;
        within = let low = one.within in omega (arith, low, size);
        is = described.says
            ∙ ap (pro_directory reserved tree) units
            ∙ ap (λ system. record few { listed = pro_listed total tree.entries; system = system; available = available_in system }) (sym (system_same reserved tree one.others))
            ∙ ap (λ es. record few { listed = pro_listed total es }) one.is
            ∙ ap (λ (l : List Listed). record few { listed = l }) (listed_more total one.at (filled_entry more place slot one.key) one.others filled.file one.within);
        entries_are = one.is;
        inside = one.within;
      }
