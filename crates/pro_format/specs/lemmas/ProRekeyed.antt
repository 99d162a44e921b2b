-- The entries of a store where one key pointer was written.
use Rattle.std.specs.Prelude.{◌≡◌, ◌≢◌, ◌<◌, ℕ, ◌+◌, ◌*◌, ◌/◌, ◌==◌, not, ◌&&◌, if◌then◌else◌, suc, Bool, true, false, List, [], ◌∷◌, length, map, filter, slice_index, slice_set, All}
use Rattle.std.specs.List.{range_with_len}
use Rattle.std.proofs.Common.{refl, sym, ◌∙◌, ap, arith, subst, inl, inr, cond}
use Rattle.std.proofs.lemmas.Bool.{cases_eq}
use Rattle.std.proofs.lemmas.Bool.Decides.{nat_tests}
use Rattle.std.proofs.lemmas.List.{get_or-set_same, get_or-set_other}
use Rattle.a2_device.specs.Device.{unit_at}
use Rattle.pro_dir.specs.declared.entry.Entry.{Entry}
use Rattle.pro_dir.specs.Entry.{entry_at, entries_of, is_listed, is_header, is_directory, key_of, slot_bytes, storage_of}
use Rattle.pro_dir.specs.Paths.{name_below, path_at, path_below, paths_from}
use Rattle.pro_format.specs.Pro.{pro_with_root}
use Rattle.pro_format.specs.lemmas.ProChanged.{IsKept, KeepsDirectories}
use Rattle.pro_format.specs.lemmas.ProKeys.{keyed, storage-keyed, name-keyed, byte-with_root, slot-there, slot-other}
use Rattle.pro_format.specs.lemmas.ProTree.{each_slot}

-- an entry, with another key pointer where it is a file's and stands in this slot of this block
abbrev pub with_key : ℕ → Entry → Entry
with_key to entry = record entry { bytes = keyed to entry.bytes }

abbrev pub rekeyed : ℕ → ℕ → ℕ → Entry → Entry
rekeyed place slot to entry = if (entry.place == place && entry.slot == slot) && not (is_directory entry) then with_key to entry else entry

-- the subdirectories that are known after an entry
abbrev with_directory : List (ℕ × List ℕ) → Entry → Bool → List (ℕ × List ℕ)
with_directory known entry directory = if directory then ((key_of entry, path_below known entry) ∷ known) else known

module _ (place slot to : ℕ) where
  rekeyed-cases : (P : Entry → Type 0) (entry : Entry) → P entry → P (with_key to entry) → P (rekeyed place slot to entry)
  rekeyed-cases P entry old new = by_test ((entry.place == place && entry.slot == slot) && not (is_directory entry))
    where
      by_test : (b : Bool) → P (if b then with_key to entry else entry)
      by_test true = new
      by_test false = old

  same_directory : (entry : Entry) → is_directory (with_key to entry) ≡ is_directory entry
  same_directory entry = ap (λ s. s == 13) (storage-keyed to entry.bytes)

  pub rekeyed-here : (entry : Entry) → entry.place ≡ place → entry.slot ≡ slot → is_directory entry ≡ false → rekeyed place slot to entry ≡ with_key to entry
  rekeyed-here entry at in' file = by_tests (entry.place == place) (entry.slot == slot) (is_directory entry) refl refl file
    where
      by_tests : (a b c : Bool) → (entry.place == place) ≡ a → (entry.slot == slot) ≡ b → c ≡ false → (if (a && b) && not c then with_key to entry else entry) ≡ with_key to entry
      by_tests true true false is is' no_directory = refl
      by_tests true true true is is' no_directory = absurd (cc)
      by_tests true false c is is' no_directory = let differ : entry.slot ≢ slot = grind (arith, nat_tests) in absurd (differ in')
      by_tests false b c is is' no_directory = let differ : entry.place ≢ place = grind (arith, nat_tests) in absurd (differ at)

  pub rekeyed-other : (entry : Entry) → (entry.place ≡ place → entry.slot ≡ slot → ⊥) → rekeyed place slot to entry ≡ entry
  rekeyed-other entry apart = by_tests (entry.place == place) (entry.slot == slot) (not (is_directory entry)) refl refl
    where
      by_tests : (a b c : Bool) → (entry.place == place) ≡ a → (entry.slot == slot) ≡ b → (if (a && b) && c then with_key to entry else entry) ≡ entry
      by_tests true true c is is' = absurd (apart (grind (arith, nat_tests, is)) (grind (arith, nat_tests, is')))
      by_tests true false c is is' = refl
      by_tests false b c is is' = refl

  pub rekeyed_keeps : KeepsDirectories (rekeyed place slot to)
  rekeyed_keeps = record {
    same_kind = λ entry. rekeyed-cases (λ e. is_directory e ≡ is_directory entry) entry refl (same_directory entry);
    same = λ entry is. by_tests entry (entry.place == place && entry.slot == slot) (is_directory entry) is;
  }
    where
      by_tests : (entry : Entry) (a c : Bool) → c ≡ true → (if a && not c then with_key to entry else entry) ≡ entry
      by_tests entry true true is = refl
      by_tests entry false true is = refl
      by_tests entry a false is = absurd (cc)

  same_listed : (entry : Entry) → is_listed (rekeyed place slot to entry) ≡ is_listed entry
  same_listed entry = rekeyed-cases (λ e. is_listed e ≡ is_listed entry) entry refl (ap (λ s. not (s == 0) && not (is_header entry)) (storage-keyed to entry.bytes))

  -- entries that are listed alike before and after a change
  changed_entries : (old new : ℕ → Entry) (slots : List ℕ) → ((s : ℕ) → new s ≡ rekeyed place slot to (old s))
      → filter is_listed (map new slots) ≡ map (rekeyed place slot to) (filter is_listed (map old slots))
  changed_entries old new [] is = refl
  changed_entries old new (s ∷ slots) is = by_test (changed_entries old new slots is) (is_listed (old s)) refl
    where
      same : is_listed (new s) ≡ is_listed (old s)
      same = ap is_listed (is s) ∙ same_listed (old s)

      by_test : filter is_listed (map new slots) ≡ map (rekeyed place slot to) (filter is_listed (map old slots)) → (b : Bool) → is_listed (old s) ≡ b
          → filter is_listed (map new (s ∷ slots)) ≡ map (rekeyed place slot to) (filter is_listed (map old (s ∷ slots)))
      by_test rest true passes = ap (λ b. cond b (new s ∷ filter is_listed (map new slots)) (filter is_listed (map new slots))) (same ∙ passes)
          ∙ ap (λ e. e ∷ filter is_listed (map new slots)) (is s)
          ∙ ap (λ es. rekeyed place slot to (old s) ∷ es) rest
          ∙ sym (ap (λ b. map (rekeyed place slot to) (cond b (old s ∷ filter is_listed (map old slots)) (filter is_listed (map old slots)))) passes)
      by_test rest false fails = ap (λ b. cond b (new s ∷ filter is_listed (map new slots)) (filter is_listed (map new slots))) (same ∙ fails)
          ∙ rest
          ∙ sym (ap (λ b. map (rekeyed place slot to) (cond b (old s ∷ filter is_listed (map old slots)) (filter is_listed (map old slots)))) fails)

  unchanged : (entries : List Entry) → All (λ entry. rekeyed place slot to entry ≡ entry) entries → map (rekeyed place slot to) entries ≡ entries
  unchanged [] same = refl
  unchanged (entry ∷ entries) same =
      ap (λ e. e ∷ map (rekeyed place slot to) entries) (same 0 entry (omega arith))
      ∙ ap (λ es. entry ∷ es) (unchanged entries (λ k d within. same (suc k) d (omega (arith, within))))

  -- the block that has the slot, and the others
  block_changed : (key : ℕ) (unit : List ℕ) → (storage_of (slot_bytes unit slot) == 13) ≡ false
      → entries_of key place (pro_with_root unit slot to) ≡ map (rekeyed place slot to) (entries_of key place unit)
  unfolding entries_of
  block_changed key unit file = changed_entries (entry_at key place unit) (entry_at key place (pro_with_root unit slot to)) (range_with_len 0 13) (λ s. elim (cases_eq s slot) [
    | inl same ↦ subst (λ n. entry_at key place (pro_with_root unit slot to) n ≡ rekeyed place slot to (entry_at key place unit n)) (sym same)
        (ap (λ (bytes : List ℕ). record (entry_at key place unit slot) { bytes = bytes }) (slot-there unit slot to)
        ∙ sym (rekeyed-here (entry_at key place unit slot) refl refl file))
    | inr differ ↦
        ap (λ (bytes : List ℕ). record (entry_at key place unit s) { bytes = bytes }) (slot-other unit slot to s differ)
        ∙ sym (rekeyed-other (entry_at key place unit s) (λ at in'. differ in'))
  ])

  block_unchanged : (key block : ℕ) (unit : List ℕ) → block ≢ place → entries_of key block unit ≡ map (rekeyed place slot to) (entries_of key block unit)
  block_unchanged key block unit apart = sym (unchanged (entries_of key block unit)
      (each_slot (λ entry. rekeyed place slot to entry ≡ entry) key block unit
      (λ s low used. rekeyed-other (entry_at key block unit s) (λ at in'. apart at))))

  pub block_kept : (store : List (List ℕ)) (block : ℕ) → place < length store → (storage_of (slot_bytes (unit_at store place) slot) == 13) ≡ false
      → IsKept (rekeyed place slot to) store (slice_set store place (pro_with_root (unit_at store place) slot to)) block
  block_kept store block inside file = elim (cases_eq block place) [
    | inl same ↦ subst (IsKept (rekeyed place slot to) store after) (sym same) (record {
      next = ap (λ b. b + 256 * slice_index (unit_at after place) 3) (byte 2 (λ e. omega (arith, e)) (λ e. omega (arith, e)))
          ∙ ap (λ b. slice_index (unit_at store place) 2 + 256 * b) (byte 3 (λ e. omega (arith, e)) (λ e. omega (arith, e)));
      kind = ap (λ b. b / 16) (byte 0x04 (λ e. omega (arith, e)) (λ e. omega (arith, e)));
      entry_size = byte 0x23 (λ e. omega (arith, e)) (λ e. omega (arith, e));
      entry_count = byte 0x24 (λ e. omega (arith, e)) (λ e. omega (arith, e));
      entries = λ key. ap (entries_of key place) there ∙ block_changed key (unit_at store place) file;
    })
    | inr differ ↦
        let at = get_or-set_other store place block (pro_with_root (unit_at store place) slot to) [] differ in record {
          next = ap (λ u. slice_index u 2 + 256 * slice_index u 3) at;
          kind = ap (λ u. slice_index u 0x04 / 16) at;
          entry_size = ap (λ u. slice_index u 0x23) at;
          entry_count = ap (λ u. slice_index u 0x24) at;
          entries = λ key. ap (entries_of key block) at ∙ block_unchanged key block (unit_at store block) differ;
        }
  ]
    where
      after : List (List ℕ)
      after = slice_set store place (pro_with_root (unit_at store place) slot to)

      there : unit_at after place ≡ pro_with_root (unit_at store place) slot to
      there = get_or-set_same store place (pro_with_root (unit_at store place) slot to) [] inside

      byte : (at : ℕ) → at ≢ 4 + 39 * slot + 0x11 → at ≢ 4 + 39 * slot + 0x11 + 1 → slice_index (unit_at after place) at ≡ slice_index (unit_at store place) at
      byte at low high = ap (λ u. slice_index u at) there ∙ byte-with_root (unit_at store place) slot to at low high

  -- the paths stay
  same_path : (known : List (ℕ × List ℕ)) (entry : Entry) → path_below known (rekeyed place slot to entry) ≡ path_below known entry
  same_path known entry = rekeyed-cases (λ e. path_below known e ≡ path_below known entry) entry refl
      (ap (name_below (path_at known entry.directory)) (name-keyed to entry.bytes))

  pub paths_rekeyed : (known : List (ℕ × List ℕ)) (entries : List Entry) → paths_from known (map (rekeyed place slot to) entries) ≡ paths_from known entries
  paths_rekeyed known [] = refl
  paths_rekeyed known (entry ∷ entries) = by_kind (λ others. paths_rekeyed others entries) (is_directory entry) refl
    where
      changed : Entry
      changed = rekeyed place slot to entry

      by_kind : ((others : List (ℕ × List ℕ)) → paths_from others (map (rekeyed place slot to) entries) ≡ paths_from others entries) → (directory : Bool) → is_directory entry ≡ directory
          → paths_from known (changed ∷ map (rekeyed place slot to) entries) ≡ paths_from known (entry ∷ entries)
      by_kind rest true is =
          ap (λ e. paths_from known (e ∷ map (rekeyed place slot to) entries)) (rekeyed_keeps.same entry is)
          ∙ ap (λ paths. path_below known entry ∷ paths) (rest (with_directory known entry (is_directory entry)))
      by_kind rest false is =
          ap (λ b. path_below known changed ∷ paths_from (with_directory known changed b) (map (rekeyed place slot to) entries)) (rekeyed_keeps.same_kind entry ∙ is)
          ∙ ap (λ path. path ∷ paths_from known (map (rekeyed place slot to) entries)) (same_path known entry)
          ∙ ap (λ paths. path_below known entry ∷ paths) (rest known)
          ∙ sym (ap (λ b. path_below known entry ∷ paths_from (with_directory known entry b) entries) is)
