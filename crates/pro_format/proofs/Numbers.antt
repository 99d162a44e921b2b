-- The entries of a ProDOS volume, numbered and with their paths, with one file's entry more.
use Rattle.std.specs.Prelude.{◌≡◌, ◌<◌, ◌≤◌, ◌+◌, ℕ, zero, suc, if◌then◌else◌, false, List, [], ◌∷◌, length, map, slice_index_or}
use Rattle.std.proofs.Common.{refl, sym, ◌∙◌, ap, arith, get_or, inl, inr}
use Rattle.std.proofs.lemmas.Bool.{cases_eq}
use Rattle.std.proofs.lemmas.List.{ext_get_or, length-map, get_or-map}
use Rattle.pro_dir.specs.declared.entry.Entry.{Entry}
use Rattle.pro_dir.specs.Entry.{is_directory, key_of, storage_of}
use Rattle.pro_dir.specs.Paths.{path_below, paths_from, path_of}
use Rattle.pro_format.specs.Pro.{pro_entry, no_slot, entry_number, pro_listed}
use Rattle.pro_format.specs.lemmas.ProDirectory.{length-listed, listed_at}
use Rattle.vol_format.specs.declared.link.Link.{Link}
use Rattle.vol_format.specs.Directory.{Listed, no_entry}
use Rattle.vol_laws.specs.Inserted.{insert_at, shifted, shifted_entry}
use Rattle.vol_laws.proofs.Inserting.{length-insert_at, insert_here, insert_shifted, unshifted}
use Rattle.pro_format.proofs.FileFree.{root_shifted}

entry_shifted : (at places file : ℕ) (path : List ℕ) (entry : Entry) → shifted_entry at (pro_entry places file path entry) ≡ pro_entry places (shifted at file) path entry
entry_shifted at places file path entry =
    ap (λ (link : Link). record (pro_entry places file path entry) { root = link }) (root_shifted at places file (storage_of entry.bytes) (key_of entry))

length-paths : (known : List (ℕ × List ℕ)) (all : List Entry) → length (paths_from known all) ≡ length all
length-paths known [] = refl
length-paths known (entry ∷ all) =
    ap (λ n. suc n) (length-paths (if is_directory entry then ((key_of entry, path_below known entry) ∷ known) else known) all)

-- a file's entry more: one path more
pub paths_more : (i : ℕ) (x : Entry) (known : List (ℕ × List ℕ)) (all : List Entry) → is_directory x ≡ false → i ≤ length all
    → (path : List ℕ) × (paths_from known (insert_at i x all) ≡ insert_at i path (paths_from known all))
paths_more zero x known all file within = (
  path_below known x,
  ap (λ b. path_below known x ∷ paths_from (if b then ((key_of x, path_below known x) ∷ known) else known) all) file,
)
paths_more (suc i) x known [] file within = absurd (omega (arith, within))
paths_more (suc i) x known (entry ∷ all) file within =
    let rest = paths_more i x (if is_directory entry then ((key_of entry, path_below known entry) ∷ known) else known) all file (omega (arith, within)) in
    (rest.0, ap (λ paths. path_below known entry ∷ paths) rest.1)

module _ (places i : ℕ) (x : Entry) (all : List Entry) (file : is_directory x ≡ false) (within : i ≤ length all) where
  abbrev more : List Entry
  more = insert_at i x all

  pub path_kept : (k : ℕ) → path_of more (shifted i k) ≡ path_of all k
  path_kept k =
      let paths = paths_more i x [] all file within in
      ap (λ ps. slice_index_or ps (shifted i k) []) paths.1
      ∙ insert_shifted i k paths.0 (paths_from [] all) [] (omega (arith, within, length-paths [] all))

  abbrev new_listed : Listed
  new_listed = pro_entry places i (path_of more i) x

  pub listed_more : pro_listed places more ≡ insert_at i new_listed (map (shifted_entry i) (pro_listed places all))
  listed_more = ext_get_or no_entry (pro_listed places more) (insert_at i new_listed (map (shifted_entry i) (pro_listed places all)))
      (length-listed places more ∙ length-insert_at i x all ∙ sym (length-insert_at i new_listed (map (shifted_entry i) (pro_listed places all)) ∙ ap (λ n. n + 1) old_length))
      (λ k inside. at k (omega (arith, inside, length-listed places more, length-insert_at i x all)))
    where
      old_length : length (map (shifted_entry i) (pro_listed places all)) ≡ length all
      old_length = length-map (pro_listed places all) (shifted_entry i) ∙ length-listed places all

      in_old : i ≤ length (map (shifted_entry i) (pro_listed places all))
      in_old = omega (arith, old_length, within)

      at : (k : ℕ) → k < length all + 1 → get_or (pro_listed places more) k no_entry ≡ get_or (insert_at i new_listed (map (shifted_entry i) (pro_listed places all))) k no_entry
      at k inside = listed_at places more k (omega (arith, inside, length-insert_at i x all)) ∙ elim (cases_eq k i) [
        | inl same ↦
            ap (entry_number places more) same
            ∙ ap (pro_entry places i (path_of more i)) (insert_here i x all no_slot within)
            ∙ sym (ap (λ n. get_or (insert_at i new_listed (map (shifted_entry i) (pro_listed places all))) n no_entry) same
            ∙ insert_here i new_listed (map (shifted_entry i) (pro_listed places all)) no_entry in_old)
        | inr differ ↦
            let was = unshifted i k (length all) within inside differ in
            ap (entry_number places more) was.2
            ∙ ap (λ path. pro_entry places (shifted i was.0) path (get_or more (shifted i was.0) no_slot)) (path_kept was.0)
            ∙ ap (pro_entry places (shifted i was.0) (path_of all was.0)) (insert_shifted i was.0 x all no_slot within)
            ∙ sym (entry_shifted i places was.0 (path_of all was.0) (get_or all was.0 no_slot))
            ∙ sym (ap (λ n. get_or (insert_at i new_listed (map (shifted_entry i) (pro_listed places all))) n no_entry) was.2
            ∙ insert_shifted i was.0 new_listed (map (shifted_entry i) (pro_listed places all)) no_entry in_old
            ∙ get_or-map (shifted_entry i) (pro_listed places all) was.0 no_entry no_entry (omega (arith, was.1, length-listed places all))
            ∙ ap (shifted_entry i) (listed_at places all was.0 was.1))
      ]
