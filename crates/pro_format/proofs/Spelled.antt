-- The entries of the directories, and their paths, where the bytes of one entry are others.
use Rattle.std.specs.Prelude.{◌≡◌, ◌≢◌, ◌<◌, ℕ, ◌+◌, ◌-◌, ◌==◌, not, ◌&&◌, if◌then◌else◌, zero, suc, Bool, true, false, List, [], ◌∷◌, ◌++◌, Option, Some, None, length, map, filter, take, slice_index_or, All}
use Rattle.std.specs.List.{range_with_len}
use Rattle.std.proofs.Common.{refl, sym, ◌∙◌, ap, arith, subst, inl, inr, cond, append_assoc, length-append}
use Rattle.std.proofs.lemmas.Bool.{cases_eq}
use Rattle.std.proofs.lemmas.Bool.Decides.{nat_tests}
use Rattle.std.proofs.lemmas.List.{take_at}
use Rattle.pro_dir.specs.declared.entry.Entry.{Entry}
use Rattle.pro_dir.specs.Entry.{entry_at, entries_of, is_listed, is_header, is_directory, key_of, name_of, slot_bytes, storage_of}
use Rattle.pro_dir.specs.Paths.{name_below, path_at, path_below, paths_from}
use Rattle.pro_format.specs.Pro.{no_slot}
use Rattle.pro_format.specs.lemmas.ProChanged.{KeepsDirectories}
use Rattle.pro_format.specs.lemmas.ProTree.{each_slot}
use Rattle.pro_format.specs.Rewritten.{renamed}

-- an entry, with other bytes where it is a file's and stands in this slot of this block
abbrev pub with_bytes_of : List ℕ → Entry → Entry
with_bytes_of bytes entry = record entry { bytes = bytes }

abbrev pub spelled : ℕ → ℕ → List ℕ → Entry → Entry
spelled place slot bytes entry = if (entry.place == place && entry.slot == slot) && not (is_directory entry) then with_bytes_of bytes entry else entry

-- the subdirectories that are known after an entry
abbrev with_directory : List (ℕ × List ℕ) → Entry → Bool → List (ℕ × List ℕ)
with_directory known entry directory = if directory then ((key_of entry, path_below known entry) ∷ known) else known

-- the path of a file with another name
pub renamed_below : (above : Option (List ℕ)) (old new : List ℕ) → renamed (name_below above old) old new ≡ name_below above new
renamed_below None old new =
    let none : length old - length old ≡ 0 = omega arith in
    ap (λ n. take n old ++ new) none
renamed_below (Some path) old new =
    let front : length (path ++ 0x2f ∷ old) - length old ≡ length path + 1 = omega (arith, length-append path (0x2f ∷ old)) in
    ap (λ n. take n (path ++ 0x2f ∷ old) ++ new) front
    ∙ ap (λ p. take (length path + 1) p ++ new) (sym (append_assoc path (0x2f ∷ []) old))
    ∙ ap (λ p. p ++ new) (take_at (path ++ 0x2f ∷ []) old (length path + 1) (length-append path (0x2f ∷ [])))
    ∙ append_assoc path (0x2f ∷ []) new

module _ (place slot : ℕ) (bytes : List ℕ) where
  spelled-cases : (P : Entry → Type 0) (entry : Entry) → P entry → P (with_bytes_of bytes entry) → P (spelled place slot bytes entry)
  spelled-cases P entry old new = by_test ((entry.place == place && entry.slot == slot) && not (is_directory entry))
    where
      by_test : (b : Bool) → P (if b then with_bytes_of bytes entry else entry)
      by_test true = new
      by_test false = old

  pub spelled-here : (entry : Entry) → entry.place ≡ place → entry.slot ≡ slot → is_directory entry ≡ false → spelled place slot bytes entry ≡ with_bytes_of bytes entry
  spelled-here entry at in' file = by_tests (entry.place == place) (entry.slot == slot) (is_directory entry) refl refl file
    where
      by_tests : (a b c : Bool) → (entry.place == place) ≡ a → (entry.slot == slot) ≡ b → c ≡ false → (if (a && b) && not c then with_bytes_of bytes entry else entry) ≡ with_bytes_of bytes entry
      by_tests true true false is is' no_directory = refl
      by_tests true true true is is' no_directory = absurd (cc)
      by_tests true false c is is' no_directory = let differ : entry.slot ≢ slot = grind (arith, nat_tests) in absurd (differ in')
      by_tests false b c is is' no_directory = let differ : entry.place ≢ place = grind (arith, nat_tests) in absurd (differ at)

  pub spelled-other : (entry : Entry) → (entry.place ≡ place → entry.slot ≡ slot → ⊥) → spelled place slot bytes entry ≡ entry
  spelled-other entry apart = by_tests (entry.place == place) (entry.slot == slot) (not (is_directory entry)) refl refl
    where
      by_tests : (a b c : Bool) → (entry.place == place) ≡ a → (entry.slot == slot) ≡ b → (if (a && b) && c then with_bytes_of bytes entry else entry) ≡ entry
      by_tests true true c is is' = absurd (apart (grind (arith, nat_tests, is)) (grind (arith, nat_tests, is')))
      by_tests true false c is is' = refl
      by_tests false b c is is' = refl

  same_above : (entry : Entry) → (spelled place slot bytes entry).directory ≡ entry.directory
  same_above entry = spelled-cases (λ e. e.directory ≡ entry.directory) entry refl refl

  module _ (file : (storage_of bytes == 13) ≡ false) where
    pub spelled_keeps : KeepsDirectories (spelled place slot bytes)
    spelled_keeps = record {
      same_kind = λ entry. kind entry (entry.place == place && entry.slot == slot) (is_directory entry) refl;
      same = λ entry is. stays entry (entry.place == place && entry.slot == slot) (is_directory entry) is;
    }
      where
        kind : (entry : Entry) (a c : Bool) → is_directory entry ≡ c → is_directory (if a && not c then with_bytes_of bytes entry else entry) ≡ is_directory entry
        kind entry true false is = file ∙ sym is
        kind entry true true is = refl
        kind entry false c is = refl

        stays : (entry : Entry) (a c : Bool) → c ≡ true → (if a && not c then with_bytes_of bytes entry else entry) ≡ entry
        stays entry true true is = refl
        stays entry false true is = refl
        stays entry a false is = absurd (cc)

    -- the subdirectories that are known after an entry are the same
    same_known : (known : List (ℕ × List ℕ)) (entry : Entry)
        → with_directory known (spelled place slot bytes entry) (is_directory (spelled place slot bytes entry)) ≡ with_directory known entry (is_directory entry)
    same_known known entry = by_kind (is_directory entry) refl
      where
        by_kind : (directory : Bool) → is_directory entry ≡ directory
            → with_directory known (spelled place slot bytes entry) (is_directory (spelled place slot bytes entry)) ≡ with_directory known entry (is_directory entry)
        by_kind true is = ap (λ e. with_directory known e (is_directory e)) (spelled_keeps.same entry is)
        by_kind false is =
            ap (with_directory known (spelled place slot bytes entry)) (spelled_keeps.same_kind entry ∙ is)
            ∙ sym (ap (with_directory known entry) is)

    -- each path is the entry's name below the path of the same directory
    pub record HasSamePlace (known : List (ℕ × List ℕ)) (all : List Entry) (k : ℕ) : Type 0 where
      pub above : Option (List ℕ)
      pub before : slice_index_or (paths_from known all) k [] ≡ name_below above (name_of (slice_index_or all k no_slot).bytes)
      pub after : slice_index_or (paths_from known (map (spelled place slot bytes) all)) k []
          ≡ name_below above (name_of (spelled place slot bytes (slice_index_or all k no_slot)).bytes)

    pub paths_spelled : (known : List (ℕ × List ℕ)) (all : List Entry) (k : ℕ) → k < length all → HasSamePlace known all k
    paths_spelled known [] k within = absurd (omega (arith, within))
    paths_spelled known (entry ∷ all) zero within = record {
      above = path_at known entry.directory;
      before = refl;
      after = ap (λ d. name_below (path_at known d) (name_of (spelled place slot bytes entry).bytes)) (same_above entry);
    }
    paths_spelled known (entry ∷ all) (suc k) within =
        let rest = paths_spelled (with_directory known entry (is_directory entry)) all k (omega (arith, within)) in
        record {
          above = rest.above;
          before = rest.before;
          after = ap (λ others. slice_index_or (paths_from others (map (spelled place slot bytes) all)) k []) (same_known known entry) ∙ rest.after;
        }

    -- entries that are listed alike before and after a change
    changed_entries : (old new : ℕ → Entry) (slots : List ℕ) → ((s : ℕ) → new s ≡ spelled place slot bytes (old s)) → ((s : ℕ) → is_listed (new s) ≡ is_listed (old s))
        → filter is_listed (map new slots) ≡ map (spelled place slot bytes) (filter is_listed (map old slots))
    changed_entries old new [] is same = refl
    changed_entries old new (s ∷ slots) is same = by_test (changed_entries old new slots is same) (is_listed (old s)) refl
      where
        by_test : filter is_listed (map new slots) ≡ map (spelled place slot bytes) (filter is_listed (map old slots)) → (b : Bool) → is_listed (old s) ≡ b
            → filter is_listed (map new (s ∷ slots)) ≡ map (spelled place slot bytes) (filter is_listed (map old (s ∷ slots)))
        by_test rest true passes = ap (λ b. cond b (new s ∷ filter is_listed (map new slots)) (filter is_listed (map new slots))) (same s ∙ passes)
            ∙ ap (λ e. e ∷ filter is_listed (map new slots)) (is s)
            ∙ ap (λ es. spelled place slot bytes (old s) ∷ es) rest
            ∙ sym (ap (λ b. map (spelled place slot bytes) (cond b (old s ∷ filter is_listed (map old slots)) (filter is_listed (map old slots)))) passes)
        by_test rest false fails = ap (λ b. cond b (new s ∷ filter is_listed (map new slots)) (filter is_listed (map new slots))) (same s ∙ fails)
            ∙ rest
            ∙ sym (ap (λ b. map (spelled place slot bytes) (cond b (old s ∷ filter is_listed (map old slots)) (filter is_listed (map old slots)))) fails)

    unchanged : (entries : List Entry) → All (λ entry. spelled place slot bytes entry ≡ entry) entries → map (spelled place slot bytes) entries ≡ entries
    unchanged [] same = refl
    unchanged (entry ∷ entries) same =
        ap (λ e. e ∷ map (spelled place slot bytes) entries) (same 0 entry (omega arith))
        ∙ ap (λ es. entry ∷ es) (unchanged entries (λ k d within. same (suc k) d (omega (arith, within))))

    -- a block without the slot
    pub block_unchanged : (key block : ℕ) (unit : List ℕ) → block ≢ place → entries_of key block unit ≡ map (spelled place slot bytes) (entries_of key block unit)
    block_unchanged key block unit apart = sym (unchanged (entries_of key block unit)
        (each_slot (λ entry. spelled place slot bytes entry ≡ entry) key block unit
        (λ s low used. spelled-other (entry_at key block unit s) (λ at in'. apart at))))

    -- the block with the slot
    module _ (old new : List ℕ) (here : slot_bytes new slot ≡ bytes) (others : (other : ℕ) → other ≢ slot → slot_bytes new other ≡ slot_bytes old other)
        (same : storage_of bytes ≡ storage_of (slot_bytes old slot)) where
      entry_changed : (key s : ℕ) → entry_at key place new s ≡ spelled place slot bytes (entry_at key place old s)
      entry_changed key s = elim (cases_eq s slot) [
        | inl at ↦ subst (λ n. entry_at key place new n ≡ spelled place slot bytes (entry_at key place old n)) (sym at)
            (ap (λ (bs : List ℕ). record (entry_at key place old slot) { bytes = bs }) here
            ∙ sym (spelled-here (entry_at key place old slot) refl refl (ap (λ n. n == 13) (sym same) ∙ file)))
        | inr differ ↦
            ap (λ (bs : List ℕ). record (entry_at key place old s) { bytes = bs }) (others s differ)
            ∙ sym (spelled-other (entry_at key place old s) (λ at in'. differ in'))
      ]

      same_listed : (key s : ℕ) → is_listed (entry_at key place new s) ≡ is_listed (entry_at key place old s)
      same_listed key s = elim (cases_eq s slot) [
        | inl at ↦ subst (λ n. is_listed (entry_at key place new n) ≡ is_listed (entry_at key place old n)) (sym at)
            (ap (λ n. not (n == 0) && not (is_header (entry_at key place old slot))) (ap storage_of here ∙ same))
        | inr differ ↦ ap (λ bs. not (storage_of bs == 0) && not (is_header (entry_at key place old s))) (others s differ)
      ]

      pub block_changed : (key : ℕ) → entries_of key place new ≡ map (spelled place slot bytes) (entries_of key place old)
      unfolding entries_of
      block_changed key = changed_entries (entry_at key place old) (entry_at key place new) (range_with_len 0 13) (entry_changed key) (same_listed key)
