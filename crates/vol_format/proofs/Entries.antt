-- The numbers of the entries that are files' give these entries, in their order.
use Rattle.std.specs.Prelude.{◌≡◌, ℕ, not, List, [], ◌∷◌, length, map, filter}
use Rattle.std.specs.List.{AllZip, range_with_len}
use Rattle.std.proofs.Common.{refl, sym, ◌∙◌, ap}
use Rattle.std.proofs.lemmas.List.{length-map}
use Rattle.std.proofs.lemmas.List.FromFn.{fill_by_all}
use Rattle.vol_format.specs.Directory.{Directory, Listed, entries, entry_of, no_entry, is_directory, files}
use Rattle.vol_format.specs.Meaning.{Meaning}
use Rattle.vol_format.specs.Files.{File, IsFile, IsFiles, file_numbers}
use Rattle.vol_format.proofs.Lists.{filter_map}

pub numbers_are : (directory : Directory) → map (entry_of directory) (file_numbers directory) ≡ files directory
numbers_are directory =
    filter_map (entry_of directory) (λ (entry : Listed). not (is_directory entry)) (range_with_len 0 (entries directory))
    ∙ ap (filter (λ (entry : Listed). not (is_directory entry)))
    (sym (fill_by_all (entry_of directory) directory.listed (entries directory) no_entry refl (λ k within. refl)))

module _ {X Y Z : Type 0} (R : X → Y → Type 0) (f : X → Z) (g : Y → Z) (same : (x : X) (y : Y) → R x y → g y ≡ f x) where
  pub zipped_same : (xs : List X) (ys : List Y) → AllZip R xs ys → map g ys ≡ map f xs
  zipped_same [] [] zipped = refl
  zipped_same [] (y ∷ ys) zipped = absurd zipped
  zipped_same (x ∷ xs) [] zipped = absurd zipped
  zipped_same (x ∷ xs) (y ∷ ys) zipped = ap (λ z. z ∷ map g ys) (same x y zipped.0) ∙ ap (λ zs. f x ∷ zs) (zipped_same xs ys zipped.1)

map_map : {X Y Z : Type 0} (f : X → Y) (g : Y → Z) (xs : List X) → map g (map f xs) ≡ map (λ x. g (f x)) xs
map_map f g [] = refl
map_map f g (x ∷ xs) = ap (λ zs. g (f x) ∷ zs) (map_map f g xs)

module _ (format : Meaning) (directory : Directory) (store : List (List ℕ)) (all : List File) (are : IsFiles format directory store all) where
  -- what each file shares with its entry
  same_of : {X : Type 0} (of_file : File → X) (of_entry : Listed → X)
      → ((entry : ℕ) (file : File) → IsFile format directory store entry file → of_file file ≡ of_entry (entry_of directory entry))
      → map of_file all ≡ map of_entry (files directory)
  same_of of_file of_entry same =
      zipped_same (IsFile format directory store) (λ entry. of_entry (entry_of directory entry)) of_file same (file_numbers directory) all are
      ∙ sym (map_map (entry_of directory) of_entry (file_numbers directory))
      ∙ ap (map of_entry) (numbers_are directory)

  pub paths_are : map (λ (file : File). file.path) all ≡ map (λ (entry : Listed). entry.path) (files directory)
  paths_are = same_of (λ (file : File). file.path) (λ (entry : Listed). entry.path) (λ entry file is. is.path)

  pub count_is : length all ≡ length (files directory)
  count_is =
      sym (length-map all (λ (file : File). file.path))
      ∙ ap length paths_are
      ∙ length-map (files directory) (λ (entry : Listed). entry.path)

  pub bytes_are : map (λ (file : File). file.bytes) all ≡ map (λ (entry : Listed). entry.bytes) (files directory)
  bytes_are = same_of (λ (file : File). file.bytes) (λ (entry : Listed). entry.bytes) (λ entry file is. is.bytes)
