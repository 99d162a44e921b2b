-- What is told and written of the name of an entry that was read.
use Rattle.std.proofs.Common.{◌≡◌, ◌<◌, ◌+◌, ◌&&◌, ◌||◌, ◌≤◌, not, nat_lt, nat_le, ◌==◌, ◌∙◌, ℕ, suc, Bool, true, false, List, [], ◌∷◌, length, get_or, bit_and, refl, sym, ap, subst, arith}
use Rattle.std.specs.Prelude.{slice_index, slice_index_or, slice_range, Ok, Err}
use Rattle.std.specs.List.{list_any}
use Rattle.std.specs.Str.{bytes_eq}
use Rattle.std.proofs.lemmas.Bool.{leb-true, le-leb}
use Rattle.std.proofs.lemmas.List.{get_or-drop, get_or_default}
use Rattle.a2_device.specs.declared.fault.Fault.{Fault}
use Rattle.a2_device.specs.declared.fault.WalkError.{WalkError}
use Rattle.a2_device.specs.declared.fault.WalkError.TheVariants as walk
use Rattle.dos_catalog.specs.declared.entry.Entry.{Entry as CatalogEntry}
use Rattle.dos_catalog.specs.Writes.{slot_offset as catalog_offset, with_bytes}
use Rattle.pro_dir.specs.declared.entry.Entry.{Entry}
use Rattle.pro_dir.specs.Parents.{entry_in}
use Rattle.pro_dir.specs.Paths.{folded}
use Rattle.pro_dir.specs.Volume.{Directory as Tree, Describes, VolumeFaultAt}
use Rattle.pro_dir.specs.Writes.{slot_offset}
use Rattle.pro_dir.specs.lemmas.VolumeLaws.{one_directory}
use Rattle.vol_format.specs.Directory.{Listed, entries, entry_of}
use Rattle.dos_format.specs.Dos.{dos_directory, numbered}
use Rattle.pro_format.specs.Pro.{no_slot, directory_with}
use Rattle.pro_format.specs.Rewritten.{access_at, with_name}
use Rattle.file_formats.specs.DosFiles.{dos_name}
use Rattle.file_formats.specs.lemmas.ProShown.{behind_key}
use Rattle.file_formats.proofs.DosEntries.{entry_read}
use Rattle.file_formats.proofs.ProEntries.{in_shown, listed}
use Rattle.edit_formats.specs.DosNames.{dos_names, is_path_of_one}
use Rattle.edit_formats.specs.ProNames.{pro_names, pro_name, is_name_in, HasNameBeside}
use Rattle.edit_formats.specs.Renamed.{IsAnswer, refusal_of_walk}

-- an answer that is a test
test_answer : (answer test : Bool) → answer ≡ test → IsAnswer (test ≡ true) (Ok answer)
test_answer true test is = sym is
test_answer false test is = λ holds. absurd (cc)

-- an entry of the catalog
module _ (data_disk : Bool) (reserved : List Bool) (vtoc : List ℕ) (all shown : List CatalogEntry) (is : shown ≡ all) where
  any_path : (n : ℕ) (some : List CatalogEntry) (name : List ℕ)
      → list_any (λ (entry : CatalogEntry). bytes_eq (slice_range entry.bytes 3 33) name) some ≡ is_path_of_one name (numbered n some)
  any_path n [] name = refl
  any_path n (entry ∷ some) name = ap (λ rest. bytes_eq (slice_range entry.bytes 3 33) name || rest) (any_path (n + 1) some name)

  pub beside-dos : (new stored : List ℕ) (answer : Bool) → stored ≡ dos_name new
      → answer ≡ list_any (λ (entry : CatalogEntry). bytes_eq (slice_range entry.bytes 3 33) stored) shown
      → IsAnswer (is_path_of_one (dos_name new) (dos_directory data_disk reserved vtoc all).listed ≡ true) (Ok answer)
  beside-dos new stored answer stored_is answer_is =
      test_answer answer (is_path_of_one (dos_name new) (numbered 0 all))
      (answer_is
      ∙ ap (λ (name : List ℕ). list_any (λ (entry : CatalogEntry). bytes_eq (slice_range entry.bytes 3 33) name) shown) stored_is
      ∙ ap (λ (es : List CatalogEntry). list_any (λ (entry : CatalogEntry). bytes_eq (slice_range entry.bytes 3 33) (dos_name new)) es) is
      ∙ any_path 0 all (dos_name new))

  module _ (file : ℕ) (e : CatalogEntry) (inside : file < entries (dos_directory data_disk reserved vtoc all)) where
    pub keeps-dos : (answer : Bool) → answer ≡ nat_le 0x80 (slice_index (get_or shown file e).bytes 2)
        → answer ≡ dos_names.keeps (entry_of (dos_directory data_disk reserved vtoc all) file).bytes
    keeps-dos answer answer_is =
        answer_is
        ∙ ap (nat_le 0x80) (sym (get_or-drop 2 (get_or shown file e).bytes 0 0))
        ∙ ap (λ (entry : Listed). dos_names.keeps entry.bytes) (sym (entry_read data_disk reserved vtoc all shown file e is inside))

    pub name-dos : (name stored unit new : List ℕ) → stored ≡ dos_name name → new ≡ with_bytes (catalog_offset (get_or shown file e).slot + 0x03) stored unit
        → new ≡ dos_names.with_name name (entry_of (dos_directory data_disk reserved vtoc all) file) unit
    name-dos name stored unit new stored_is new_is =
        new_is
        ∙ ap (λ (bytes : List ℕ). with_bytes (catalog_offset (get_or shown file e).slot + 0x03) bytes unit) stored_is
        ∙ ap (λ (entry : Listed). dos_names.with_name name entry unit) (sym (entry_read data_disk reserved vtoc all shown file e is inside))

-- an entry of a directory
module _ (system : List Bool) (tree : Tree) (units : List (List ℕ)) (file : ℕ) (inside : file < entries (directory_with system tree units))
    (shown : List Entry) (e : Entry) (is : shown ≡ tree.entries) where
  abbrev stored_entry : Entry
  stored_entry = slice_index_or tree.entries file no_slot

  same_entry : get_or shown file e ≡ stored_entry
  same_entry = get_or_default shown file e no_slot (in_shown system tree units file inside shown is) ∙ ap (λ es. slice_index_or es file no_slot) is

  -- whether its access bits have one
  pub access-pro : (bit access : ℕ) (can : Bool) → access ≡ slice_index (get_or shown file e).bytes 0x1e → can ≡ (bit_and access bit == bit)
      → not can ≡ not (bit_and (slice_index (entry_of (directory_with system tree units) file).bytes access_at) bit == bit)
  access-pro bit access can access_is can_is =
      ap not can_is
      ∙ ap (λ a. not (bit_and a bit == bit)) (access_is ∙ ap (λ (entry : Entry). slice_index entry.bytes 0x1e) same_entry
      ∙ sym (behind_key 0x1c 0x1e stored_entry.bytes (omega arith) (omega arith)))
      ∙ ap (λ (entry : Listed). not (bit_and (slice_index entry.bytes access_at) bit == bit)) (sym (listed system tree units file inside))

  pub name-pro : (name stored unit new : List ℕ) (len : ℕ) → stored ≡ pro_name name → len ≡ length name
      → new ≡ with_name (slot_offset (get_or shown file e).slot) len stored unit
      → new ≡ pro_names.with_name name (entry_of (directory_with system tree units) file) unit
  name-pro name stored unit new len stored_is len_is new_is =
      new_is
      ∙ ap (λ n. with_name (slot_offset (get_or shown file e).slot) n stored unit) len_is
      ∙ ap (λ (bytes : List ℕ). with_name (slot_offset (get_or shown file e).slot) (length name) bytes unit) stored_is
      ∙ ap (λ (entry : Entry). with_name (slot_offset entry.slot) (length name) (pro_name name) unit) same_entry
      ∙ ap (λ (entry : Listed). pro_names.with_name name entry unit) (sym (listed system tree units file inside))

-- the entries of a directory tree that was walked over
abbrev is_beside : List Entry → ℕ → List ℕ → Bool
is_beside all file new = nat_lt file (length all) && is_name_in (entry_in all file).directory (folded new) all

both : (a b : Bool) → (a && b) ≡ true → (a ≡ true) × (b ≡ true)
both true b is = (refl, is)
both false b is = absurd (cc)

and_both : (a b : Bool) → a ≡ true → b ≡ true → (a && b) ≡ true
and_both true b one two = two
and_both false b one two = absurd (cc)

module _ (store : List (List ℕ)) (tree : Tree) (described : Describes store tree) (file : ℕ) (new : List ℕ) where
  has_beside : is_beside tree.entries file new ≡ true → HasNameBeside store file new
  has_beside holds =
      let two = both (nat_lt file (length tree.entries)) (is_name_in (entry_in tree.entries file).directory (folded new) tree.entries) holds in
      let inside : suc file ≤ length tree.entries = leb-true (suc file) (length tree.entries) two.0 in
      record { tree = tree; described = described; inside = omega (arith, inside); named = two.1 }

  is_told : HasNameBeside store file new → is_beside tree.entries file new ≡ true
  is_told has =
      subst (λ (t : Tree). is_beside t.entries file new ≡ true) (one_directory store tree has.tree described has.described)
      (and_both (nat_lt file (length has.tree.entries)) (is_name_in (entry_in has.tree.entries file).directory (folded new) has.tree.entries)
      (le-leb (suc file) (length has.tree.entries) (let inside = has.inside in omega (arith, inside))) has.named)

  by_answer : (answer : Bool) → answer ≡ is_beside tree.entries file new → IsAnswer (HasNameBeside store file new) (Ok answer)
  by_answer true is = has_beside (sym is)
  by_answer false is = λ has. let holds = is_told has in absurd (cc)

  pub beside-pro : (shown : List Entry) → shown ≡ tree.entries → (answer : Bool)
      → answer ≡ (nat_lt file (length shown) && is_name_in (entry_in shown file).directory (folded new) shown)
      → IsAnswer (HasNameBeside store file new) (Ok answer)
  beside-pro shown is answer answer_is = by_answer answer (answer_is ∙ ap (λ (es : List Entry). is_beside es file new) is)

  pub no_fault-pro : (error : WalkError) → ((fault : Fault) → error ≡ walk.Fault fault → VolumeFaultAt store fault × ((other : Tree) → ¬ Describes store other))
      → IsAnswer (HasNameBeside store file new) (Err (refusal_of_walk error))
  no_fault-pro (walk.Fault fault) refused = absurd ((refused fault refl).1 tree described)
  no_fault-pro walk.Device refused = tt
  no_fault-pro walk.Memory refused = tt
