-- The own names of entries, and the directories in which they stand.
use Rattle.std.proofs.Common.{◌≡◌, ◌<◌, ◌≤◌, ◌%◌, ◌∙◌, ℕ, zero, suc, Bool, true, List, [], ◌∷◌, ◌++◌, Option, Some, None, length, take, drop, get_or, refl, sym, ap, subst, arith}
use Rattle.std.specs.Prelude.{IfNone, IfSome, slice_index, slice_index_or, slice_range}
use Rattle.std.proofs.lemmas.List.{get_or_default}
use Rattle.std.proofs.lemmas.Grind.{common_steps}
use Rattle.pro_dir.specs.declared.entry.Entry.{Entry}
use Rattle.pro_dir.specs.Entry.{is_directory as leads_on, key_of, name_of, storage_of}
use Rattle.pro_dir.specs.Parents.{entry_in}
use Rattle.pro_dir.specs.Paths.{path_of}
use Rattle.pro_dir.specs.Volume.{Directory as Tree, total_blocks}
use Rattle.pro_format.specs.Pro.{directory_with, no_slot, without_key}
use Rattle.pro_tree.specs.Reach.{pro_root}
use Rattle.vol_format.specs.Directory.{Listed, entries, entry_of, is_directory, leads_to_directory}
use Rattle.file_formats.proofs.ProEntries.{listed}
use Rattle.volume_extract.specs.Items.{IsAbove}
use Rattle.volume_extract.specs.Names.{pro_own}

-- the front of bytes of which some behind it are left out
same_front : (m n j : ℕ) (bytes : List ℕ) → m ≤ n → n ≤ j → take m (take n bytes ++ drop j bytes) ≡ take m bytes
same_front zero n j bytes low later = refl
same_front (suc m) zero j bytes low later = absurd (omega (arith, low))
same_front (suc m) (suc n) zero bytes low later = absurd (omega (arith, later))
same_front (suc m) (suc n) (suc j) [] low later = refl
same_front (suc m) (suc n) (suc j) (byte ∷ bytes) low later =
    ap (λ (front : List ℕ). byte ∷ front) (same_front m n j bytes (omega (arith, low)) (omega (arith, later)))

pub same_name : (bytes : List ℕ) → name_of (without_key bytes) ≡ name_of bytes
same_name [] = refl
same_name (byte ∷ bytes) = same_front (byte % 16) 16 18 bytes (omega arith) (omega arith)

-- names are short
short_take : (count : ℕ) (bytes : List ℕ) → count ≤ 30 → length (take count bytes) ≤ 30
short_take count bytes few = grind (arith, common_steps, few)

pub short_range : (bytes name : List ℕ) → name ≡ slice_range bytes 3 33 → length name ≤ 30
short_range bytes name is = subst (λ (text : List ℕ). length text ≤ 30) (sym is) (short_take 30 (drop 3 bytes) (omega arith))

pub short_name : (bytes name : List ℕ) → name ≡ name_of bytes → length name ≤ 30
short_name bytes name is = subst (λ (text : List ℕ). length text ≤ 30) (sym is) (short_take (slice_index bytes 0 % 16) (drop 1 bytes) (omega arith))

-- an entry that is shown
pub shown_entry : (shown all : List Entry) (file : ℕ) (e : Entry) → file < length shown → shown ≡ all → get_or shown file e ≡ entry_in all file
shown_entry shown all file e inside is = get_or_default shown file e no_slot inside ∙ ap (λ (es : List Entry). slice_index_or es file no_slot) is

module _ (system : List Bool) (tree : Tree) (units : List (List ℕ)) where
  pub own_name : (file : ℕ) → file < entries (directory_with system tree units)
      → pro_own (entry_of (directory_with system tree units) file) ≡ name_of (entry_in tree.entries file).bytes
  own_name file inside =
      ap (λ (entry : Listed). pro_own entry) (listed system tree units file inside) ∙ same_name (entry_in tree.entries file).bytes

  own_path : (file : ℕ) → file < entries (directory_with system tree units)
      → (entry_of (directory_with system tree units) file).path ≡ path_of tree.entries file
  own_path file inside = ap (λ (entry : Listed). entry.path) (listed system tree units file inside)

  a_directory : (file : ℕ) → file < entries (directory_with system tree units) → leads_on (entry_in tree.entries file) ≡ true
      → is_directory (entry_of (directory_with system tree units) file) ≡ true
  a_directory file inside is =
      let storage : storage_of (entry_in tree.entries file).bytes ≡ 13 = grind (arith, is) in
      ap (λ (entry : Listed). is_directory entry) (listed system tree units file inside)
      ∙ ap (λ (n : ℕ). leads_to_directory (pro_root (total_blocks tree.header) file n (key_of (entry_in tree.entries file)))) storage

  pub is_above : (file : ℕ) → file < entries (directory_with system tree units) → (found : Option ℕ) → IfSome found (λ above. above < file)
      → IfSome found (λ above. leads_on (entry_in tree.entries above) ≡ true)
      → IfSome found (λ above. path_of tree.entries file ≡ path_of tree.entries above ++ 0x2f ∷ name_of (entry_in tree.entries file).bytes)
      → IfNone found (path_of tree.entries file ≡ name_of (entry_in tree.entries file).bytes)
      → IsAbove pro_own (directory_with system tree units) file found
  is_above file inside None before leads path top = own_path file inside ∙ top ∙ sym (own_name file inside)
  is_above file inside (Some above) before leads path top =
      let within : above < entries (directory_with system tree units) = omega (arith, before, inside) in
      record {
        before = before;
        of_directory = a_directory above within leads;
        path = own_path file inside ∙ path
            ∙ ap (λ (front : List ℕ). front ++ 0x2f ∷ name_of (entry_in tree.entries file).bytes) (sym (own_path above within))
            ∙ ap (λ (name : List ℕ). (entry_of (directory_with system tree units) above).path ++ 0x2f ∷ name) (sym (own_name file inside));
      }

  -- the same of entries that are shown
  pub is_above_by : (shown : List Entry) → shown ≡ tree.entries → (file : ℕ) → file < entries (directory_with system tree units) → (found : Option ℕ)
      → IfSome found (λ above. above < file) → IfSome found (λ above. leads_on (entry_in shown above) ≡ true)
      → IfSome found (λ above. path_of shown file ≡ path_of shown above ++ 0x2f ∷ name_of (entry_in shown file).bytes)
      → IfNone found (path_of shown file ≡ name_of (entry_in shown file).bytes) → IsAbove pro_own (directory_with system tree units) file found
  is_above_by shown is file inside found before leads path top =
      is_above file inside found before (subst (λ (es : List Entry). IfSome found (λ above. leads_on (entry_in es above) ≡ true)) is leads)
      (subst (λ (es : List Entry). IfSome found (λ above. path_of es file ≡ path_of es above ++ 0x2f ∷ name_of (entry_in es file).bytes)) is path)
      (subst (λ (es : List Entry). IfNone found (path_of es file ≡ name_of (entry_in es file).bytes)) is top)
