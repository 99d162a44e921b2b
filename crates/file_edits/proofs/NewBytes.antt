-- What the bytes of a new directory's entry say, and that its block is an empty directory.
use Rattle.std.specs.Prelude.{◌≡◌, ◌≤◌, ◌<◌, ◌==◌, not, ◌&&◌, ℕ, zero, suc, ◌+◌, ◌-◌, ◌*◌, ◌/◌, ◌%◌, Bool, true, false, List, [], ◌∷◌, ◌++◌, length, map, take, drop, filter, replicate, slice_index, All}
use Rattle.std.specs.List.{range_with_len}
use Rattle.std.proofs.Common.{refl, ◌∙◌, ap, arith, cond, length-append}
use Rattle.std.proofs.lemmas.Bool.{eq-eqb}
use Rattle.std.proofs.lemmas.List.{length-replicate, get_or-append_right, get_or_append_left, get_or-replicate}
use Rattle.std.proofs.lemmas.List.Elements.{All-head, All-tail}
use Rattle.std.proofs.lemmas.List.FromFn.{length-map-range_with_len, get_or-map-range_with_len}
use Rattle.a2_device.specs.Device.{unit_at}
use Rattle.pro_dir.specs.declared.date.ProDate.{ProDate}
use Rattle.pro_dir.specs.declared.slot.NewFile.{NewFile}
use Rattle.pro_dir.specs.Entry.{entry_at, entries_of, is_listed, name_of, slot_bytes, storage_of}
use Rattle.pro_dir.specs.Paths.{folded}
use Rattle.pro_dir.specs.Tree.{next_of}
use Rattle.pro_dir.specs.Writes.{entry_bytes}
use Rattle.pro_format.specs.Slots.{SaysOfFile}
use Rattle.pro_format.proofs.Bytes.{window_cell}
use Rattle.pro_format.proofs.NewEntries.{entry_says}
use Rattle.edit_formats.specs.ProNames.{is_pro_name, pro_name}
use Rattle.edit_formats.specs.lemmas.ProNaming.{front_of_name, length-pro_name, short_name}
use Rattle.edit_formats.specs.declared.target.Slot.{Slot}
use Rattle.edit_formats.specs.ProSaves.{last_name}
use Rattle.file_edits.specs.NewDirectory.{behind_date, behind_name, directory_block, new_entry, new_entry_bytes, up_to_name}
use Rattle.file_edits.specs.Leaf.{IsEmptyDirectory, IsLeafEntry}

-- none of the elements of a list passes
filter_nothing : {X : Type 0} (p : X → Bool) (xs : List X) → All (λ x. p x ≡ false) xs → filter p xs ≡ []
filter_nothing p [] none = refl
filter_nothing p (x ∷ xs) none =
    ap (λ b. cond b (x ∷ filter p xs) (filter p xs)) (All-head (λ x. p x ≡ false) x xs none) ∙ filter_nothing p xs (All-tail (λ x. p x ≡ false) x xs none)

module _ (path : List ℕ) (slot : Slot) (date : ProDate) (named : is_pro_name (last_name path) ≡ true) (dated : length date.0 ≡ 4) where
  short : length (last_name path) ≤ 15
  short = short_name (last_name path) named

  module _ (place : ℕ) where
    -- but for the storage type the entry is that of a file
    abbrev as_file : NewFile
    as_file = record (new_entry path slot place date) { storage = 1 }

    says : SaysOfFile as_file (entry_bytes as_file)
    says = entry_says as_file (record { storage = (omega arith, omega arith); short = short; name = length-pro_name (last_name path) named; date = dated })

    pub leaf_entry : IsLeafEntry place (new_entry_bytes path slot place date)
    leaf_entry = record {
      size = says.is.size;
      storage = omega (arith, short);
      key = says.key_is;
    }

    pub leaf_name : name_of (new_entry_bytes path slot place date) ≡ folded (last_name path)
    leaf_name =
        let same : (16 * 13 + length (last_name path)) % 16 ≡ (16 * 1 + length (last_name path)) % 16 = omega (arith, short) in
        ap (λ n. take n (drop 1 (entry_bytes as_file))) same ∙ says.name_is ∙ front_of_name (last_name path)

  -- the block of the directory
  abbrev unit : List ℕ
  unit = directory_block path slot date

  -- what stands up to the header's date, and up to the header's end
  abbrev dated_part : List ℕ
  dated_part = up_to_name (0xe0 + length (last_name path)) ++ pro_name (last_name path) ++ behind_name ++ date.0

  abbrev last_part : List ℕ
  last_part = behind_date (slot.place % 256) (slot.place / 256) (slot.number + 1)

  dated_size : length dated_part ≡ 32
  dated_size = omega (
    arith,
    length-append (up_to_name (0xe0 + length (last_name path)) ++ pro_name (last_name path) ++ behind_name) date.0,
    length-append (up_to_name (0xe0 + length (last_name path)) ++ pro_name (last_name path)) behind_name,
    length-append (up_to_name (0xe0 + length (last_name path))) (pro_name (last_name path)),
    length-pro_name (last_name path) named,
    dated,
  )

  header_size : length (dated_part ++ last_part) ≡ 43
  header_size = omega (arith, length-append dated_part last_part, dated_size)

  pub block_size : length (directory_block path slot date) ≡ 512
  block_size = omega (arith, length-append (dated_part ++ last_part) (replicate 469 0), header_size, length-replicate {A = ℕ} 469 0)

  kind_there : slice_index unit 0x04 / 16 ≡ 0x0e
  kind_there = omega (arith, short)

  -- a byte behind the date
  in_last : (k : ℕ) → k < 11 → slice_index unit (32 + k) ≡ slice_index last_part k
  in_last k low =
      let back : 32 + k - 32 ≡ k = omega arith in
      get_or_append_left (dated_part ++ last_part) (replicate 469 0) 0 (32 + k) (omega (arith, low, header_size))
      ∙ get_or-append_right dated_part last_part 32 (32 + k) 0 dated_size (omega arith)
      ∙ ap (slice_index last_part) back

  bytes_an_entry : slice_index unit 0x23 ≡ 39
  bytes_an_entry = in_last 3 (omega arith)

  entries_a_block : slice_index unit 0x24 ≡ 13
  entries_a_block = in_last 4 (omega arith)

  -- behind the header there are zeros
  in_zeros : (k : ℕ) → 43 ≤ k → k < 512 → slice_index unit k ≡ 0
  in_zeros k high low =
      get_or-append_right (dated_part ++ last_part) (replicate 469 0) 43 k 0 header_size high
      ∙ get_or-replicate 469 (k - 43) 0 0 (omega (arith, high, low))

  slot_none : (leaf k : ℕ) → k < 13 → is_listed (entry_at leaf leaf unit k) ≡ false
  slot_none leaf zero low = ap (λ b. not (storage_of (slot_bytes unit 0) == 0) && not (b && true)) (eq-eqb leaf leaf refl) ∙ never (not (storage_of (slot_bytes unit 0) == 0))
    where
      never : (b : Bool) → (b && false) ≡ false
      never true = refl
      never false = refl
  slot_none leaf (suc k) low =
      let first : slice_index (slot_bytes unit (suc k)) 0 ≡ 0 =
      window_cell unit (4 + 39 * suc k) 39 0 (omega arith)
      ∙ in_zeros (4 + 39 * suc k + 0) (omega arith) (omega (arith, low)) in
      ap (λ b. not (b / 16 == 0) && not (leaf == leaf && suc k == 0)) first

  block_empty : (leaf : ℕ) → entries_of leaf leaf unit ≡ []
  unfolding entries_of
  block_empty leaf = filter_nothing is_listed (map (entry_at leaf leaf unit) (range_with_len 0 13))
      (λ k d within.
      let low : k < 13 = omega (arith, within, length-map-range_with_len (entry_at leaf leaf unit) 0 13) in
      ap is_listed (get_or-map-range_with_len (entry_at leaf leaf unit) 0 13 k k d low (omega arith)) ∙ slot_none leaf k low)

  -- A store with this block has an empty directory there.
  pub block_is_empty : (store : List (List ℕ)) (leaf : ℕ) → unit_at store leaf ≡ directory_block path slot date → 2 ≤ leaf → leaf < length store → IsEmptyDirectory store leaf
  block_is_empty store leaf there low inside = record {
    is = record {
      run = record {
        rest = [];
        last = leaf;
        is = refl;
        can_link = (low, inside);
        leads = refl;
        ends = ap next_of there;
      };
      kind_is = ap (λ u. slice_index u 0x04 / 16) there ∙ kind_there;
      sizes = (ap (λ u. slice_index u 0x23) there ∙ bytes_an_entry, ap (λ u. slice_index u 0x24) there ∙ entries_a_block);
    };
    empty = ap (λ u. entries_of leaf leaf u ++ []) there ∙ ap (λ es. es ++ []) (block_empty leaf);
  }
