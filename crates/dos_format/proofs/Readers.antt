-- What the readers of a DOS 3.3 volume answer.
use Rattle.std.proofs.Common.{◌≡◌, ◌<◌, ℕ, Bool, true, false, List, [], ◌∷◌, ◌++◌, ◌+◌, append-nil, cond, length, get_or, refl, sym, ◌∙◌, ap, subst, arith}
use Rattle.std.specs.Prelude.{Option, Some, None, IfNone, not, All}
use Rattle.std.specs.List.{Contains}
use Rattle.std.proofs.lemmas.List.{get_or_default}
use Rattle.std.proofs.lemmas.List.FromFn.{get_or-map-range_with_len, filter_of_map_range_with_len_more}
use Rattle.dos_vtoc.specs.Vtoc.{is_free as is_vtoc_free, order_of}
use Rattle.dos_catalog.specs.declared.entry.Entry.{Entry}
use Rattle.dos_tslist.specs.Reach.{entry_pointer}
use Rattle.a2_device.specs.declared.part.PartKind.TheVariants.{List as AList}
use Rattle.vol_format.specs.declared.link.Link.{Link}
use Rattle.vol_format.specs.Directory.{Listed, entries, entry_of, root_of, is_system, is_free}
use Rattle.dos_format.specs.Dos.{link_to, dos_entry, is_dos_system, first_available, dos_available, dos_free, dos_directory}
use Rattle.dos_format.specs.lemmas.DosDirectory.{length-numbered, entry_of-dos, available_of, system_at, few_available}

pub entries-dos : (data_disk : Bool) (reserved : List Bool) (vtoc : List ℕ) (all : List Entry) → length all ≡ entries (dos_directory data_disk reserved vtoc all)
entries-dos data_disk reserved vtoc all = sym (length-numbered 0 all)

pub within : (data_disk : Bool) (reserved : List Bool) (vtoc : List ℕ) (all shown : List Entry) (file : ℕ) → shown ≡ all
    → file < entries (dos_directory data_disk reserved vtoc all) → file < length shown
within data_disk reserved vtoc all shown file is inside = omega (arith, ap length is, length-numbered 0 all, inside)

module _ (data_disk : Bool) (reserved : List Bool) (vtoc : List ℕ) (all shown : List Entry) (file : ℕ) (e : Entry) (is : shown ≡ all)
    (inside : file < entries (dos_directory data_disk reserved vtoc all)) where
  same_entry : entry_of (dos_directory data_disk reserved vtoc all) file ≡ dos_entry file (get_or shown file e)
  same_entry = entry_of-dos data_disk reserved vtoc all file e (omega (arith, length-numbered 0 all, inside)) ∙ ap (λ es. dos_entry file (get_or es file e)) (sym is)

  pub place-dos : (get_or shown file e).place ≡ (entry_of (dos_directory data_disk reserved vtoc all) file).place
  place-dos = sym (ap (λ (entry : Listed). entry.place) same_entry)

  pub slot-dos : (get_or shown file e).slot ≡ (entry_of (dos_directory data_disk reserved vtoc all) file).slot
  slot-dos = sym (ap (λ (entry : Listed). entry.slot) same_entry)

  pub root-dos : (link : Link) (pointer : Option (ℕ × ℕ)) → link ≡ link_to file AList 0 pointer → pointer ≡ entry_pointer (get_or shown file e)
      → link ≡ root_of (dos_directory data_disk reserved vtoc all) file
  root-dos link pointer link_is pointer_is = link_is ∙ ap (link_to file AList 0) pointer_is ∙ sym (ap (λ (entry : Listed). entry.root) same_entry)

pub free-dos : (data_disk : Bool) (reserved : List Bool) (vtoc : List ℕ) (all : List Entry) (place : ℕ) → place < 560
    → is_vtoc_free vtoc place ≡ is_free (dos_directory data_disk reserved vtoc all) place
unfolding dos_free
free-dos data_disk reserved vtoc all place below = sym (get_or-map-range_with_len (is_vtoc_free vtoc) 0 560 place place false below (omega arith))

-- a place that has no number is the system's
pub no_number-dos : (data_disk : Bool) (reserved : List Bool) (vtoc : List ℕ) (all : List Entry) (place : ℕ) (number : Option ℕ) → place < 560
    → IfNone number (Contains (dos_available data_disk reserved) place → ⊥) → IfNone number (is_system (dos_directory data_disk reserved vtoc all) place ≡ true)
no_number-dos data_disk reserved vtoc all place (Some number) below none = tt
no_number-dos data_disk reserved vtoc all place None below none = system_at data_disk reserved vtoc all place below ∙ by_test (is_dos_system data_disk reserved place) refl
  where
    by_test : (b : Bool) → is_dos_system data_disk reserved place ≡ b → is_dos_system data_disk reserved place ≡ true
    by_test true is = is
    by_test false is = absurd (none ((available_of data_disk reserved place).1 (below, is)))

-- the available places are places
pub below_last : (data_disk : Bool) (reserved : List Bool) (places : List ℕ) → places ≡ dos_available data_disk reserved → All (λ place. place < 560) places
below_last data_disk reserved places is k d inside =
    ((available_of data_disk reserved (get_or places k d)).0 (subst (λ xs. Contains xs (get_or places k d)) is (k, inside, get_or_same places k d inside))).0
  where
    get_or_same : (xs : List ℕ) (k d : ℕ) → k < length xs → get_or xs k (get_or xs k d) ≡ get_or xs k d
    get_or_same xs k d h = get_or_default xs k (get_or xs k d) d h

pub few_places : (data_disk : Bool) (reserved : List Bool) (places : List ℕ) → places ≡ dos_available data_disk reserved → length places < 4294967296
few_places data_disk reserved places is = omega (arith, ap length is, few_available data_disk reserved)

-- one place more in the order
pub none_yet : (data_disk : Bool) (reserved : List Bool) → [] ≡ first_available data_disk reserved 0
unfolding first_available
none_yet data_disk reserved = refl

module _ (data_disk : Bool) (reserved : List Bool) (before : List ℕ) (n : ℕ) (is : before ≡ first_available data_disk reserved n) where
  one_more : first_available data_disk reserved (n + 1) ≡ before ++ cond (not (is_dos_system data_disk reserved (order_of n))) (order_of n ∷ []) []
  unfolding first_available
  one_more = filter_of_map_range_with_len_more (λ place. not (is_dos_system data_disk reserved place)) order_of 0 n n (omega arith)
      ∙ ap (λ xs. xs ++ cond (not (is_dos_system data_disk reserved (order_of n))) (order_of n ∷ []) []) (sym is)

  pub taken : (system : Bool) → system ≡ is_dos_system data_disk reserved (order_of n) → system ≡ false → before ++ order_of n ∷ [] ≡ first_available data_disk reserved (n + 1)
  taken system at outside = sym (one_more ∙ ap (λ b. before ++ cond (not b) (order_of n ∷ []) []) (sym at ∙ outside))

  pub passed : (system : Bool) → system ≡ is_dos_system data_disk reserved (order_of n) → system ≡ true → before ≡ first_available data_disk reserved (n + 1)
  passed system at inside = sym (one_more ∙ ap (λ b. before ++ cond (not b) (order_of n ∷ []) []) (sym at ∙ inside) ∙ append-nil before)
