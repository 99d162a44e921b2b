-- A slot of a ProDOS directory that is filled: the volume's directory has one entry more.
use Rattle.std.specs.Prelude.{◌≡◌, ◌≤◌, ℕ, Bool, List, length, Contains}
use Rattle.std.proofs.Common.{refl, sym, ◌∙◌, ap, subst, arith, inl, inr}
use Rattle.std.proofs.lemmas.Bool.{cases_eq}
use Rattle.a2_device.specs.Device.{unit_at}
use Rattle.pro_dir.specs.declared.entry.Entry.{Entry}
use Rattle.pro_dir.specs.Entry.{slot_bytes}
use Rattle.pro_dir.specs.Volume.{Directory as Tree, Describes, map_blocks, map_first, total_blocks}
use Rattle.vol_format.specs.Directory.{Directory, Listed, entries}
use Rattle.pro_format.specs.Pro.{DescribesPro, available_in, map_of, pro_directory, pro_listed, pro_system}
use Rattle.pro_format.specs.lemmas.ProDirectory.{length-listed}
use Rattle.pro_format.specs.lemmas.ProMarks.{map_block, units-same}
use Rattle.vol_laws.specs.Inserted.{insert_at, inserted}
use Rattle.pro_format.specs.Filled.{IsFilled, IsNoKey, filled_entry, pro_new, HasOneMore}
use Rattle.pro_format.specs.Slots.{IsNoHeader}
use Rattle.pro_format.proofs.Numbers.{listed_more}
use Rattle.pro_format.proofs.FilledTrees.{tree_filled}

pub system_same : (reserved : List Bool) (tree : Tree) (others : List Entry) → pro_system reserved (record tree { entries = others }) ≡ pro_system reserved tree
unfolding pro_system
system_same reserved tree others = refl

module _ (less more : List (List ℕ)) (place slot : ℕ) (filled : IsFilled less more place slot) (no_header : IsNoHeader place slot 2) where
  pub header_same : slot_bytes (unit_at more 2) 0 ≡ slot_bytes (unit_at less 2) 0
  header_same = elim (cases_eq 2 place) [
    | inl same ↦ subst (λ p. slot_bytes (unit_at more p) 0 ≡ slot_bytes (unit_at less p) 0) (sym same) (filled.alike.others 0 (λ first. no_header (sym first) (sym same)))
    | inr differ ↦ ap (λ u. slot_bytes u 0) (filled.alike.elsewhere 2 differ)
  ]

  pub describes_filled : (tree : Tree) → Describes less tree → (one : HasOneMore less more place slot tree.blocks tree.entries)
      → Describes more (record tree { entries = insert_at one.at (filled_entry more place slot one.key) tree.entries })
  describes_filled tree described one = record {
    geometry = record {
      kind_is = one.tree.listed.volume.kind_is;
      sizes = one.tree.listed.volume.sizes;
      total = ap total_blocks header_same ∙ described.geometry.total ∙ sym filled.alike.size;
    };
    header = described.header ∙ sym header_same;
    tree = one.tree;
    map = λ block from below.
        let is = described.map block from (omega (arith, below, ap map_blocks filled.alike.size)) in
        ((is.0.0, omega (arith, is.0.1, filled.alike.size)), is.1);
  }

  -- A slot of the directories is filled with a file's entry: the directory has one entry more.
  pub record HasProEntered (reserved : List Bool) (directory : Directory) (tree : Tree) : Type 0 where
    pub one : HasOneMore less more place slot tree.blocks tree.entries
    pub within : one.at ≤ entries directory
    pub described : DescribesPro reserved more (inserted directory one.at (pro_new more place slot tree one.key one.at))

  pub pro_filled : (reserved : List Bool) (directory : Directory) (described : DescribesPro reserved less directory) → Contains described.tree.blocks place
      → IsNoKey place slot described.tree.entries → HasProEntered reserved directory described.tree
  pro_filled reserved directory described has no_key =
      let tree = described.tree in
      let total = total_blocks tree.header in
      let one = tree_filled less more place slot filled tree.blocks tree.entries described.described.tree has no_header no_key in
      let x = filled_entry more place slot one.key in
      let all = insert_at one.at x tree.entries in
      let before = pro_directory reserved tree (map_of less tree) in
      let units : map_of more (record tree { entries = all }) ≡ map_of less tree =
      units-same less more (map_first tree.header) (map_blocks total)
      (λ block from below. filled.alike.elsewhere block (λ e. (map_block reserved less directory described block from below).1 (subst (Contains tree.blocks) (sym e) has))) in
      let listed = listed_more total one.at x tree.entries filled.file one.within in
      let size : length before.listed ≡ length tree.entries = length-listed total tree.entries in
      record {
        one = one;
        within = subst (λ (d : Directory). one.at ≤ entries d) (sym described.says) (let low = one.within in omega (arith, low, size));
        described = subst (λ (d : Directory). DescribesPro reserved more (inserted d one.at (pro_new more place slot tree one.key one.at))) (sym described.says) (record {
          size = (omega (arith, filled.alike.size, described.size.0), omega (arith, filled.alike.size, described.size.1));
          tree = record tree { entries = all };
          described = describes_filled tree described.described one;
          says = sym (
              ap (pro_directory reserved (record tree { entries = all })) units
              ∙ ap (λ system. record before { listed = pro_listed total all; system = system; available = available_in system }) (system_same reserved tree all)
              ∙ ap (λ (l : List Listed). record before { listed = l }) listed
              );
        });
      }
