-- The number of an entry, and its index among the entries that are files'.
use Rattle.std.specs.Prelude.{◌≡◌, ◌<◌, ℕ, not, Bool, false, List, length, take, filter, slice_index_or}
use Rattle.std.specs.List.{range_with_len}
use Rattle.std.proofs.Common.{refl, sym, ◌∙◌, ap, subst, arith}
use Rattle.std.proofs.lemmas.List.{length-map, take-map}
use Rattle.std.proofs.lemmas.List.FromFn.{fill_by_all, get_or-range_with_len, length-range_with_len}
use Rattle.vol_format.specs.Directory.{Directory, Listed, no_entry, entries, entry_of, is_directory, files}
use Rattle.vol_format.specs.Files.{file_numbers}
use Rattle.vol_format.proofs.Lists.{filter_map}
use Rattle.vol_laws.specs.Inserted.{files_before}
use Rattle.vol_laws.proofs.Filtered.{place_in_filter}

module _ (directory : Directory) (file : ℕ) (inside : file < entries directory) (is_of_file : is_directory (entry_of directory file) ≡ false) where
  abbrev is_file : Listed → Bool
  is_file entry = not (is_directory entry)

  abbrev is_files : ℕ → Bool
  is_files entry = is_file (entry_of directory entry)

  abbrev range : List ℕ
  range = range_with_len 0 (entries directory)

  pub entry_index : (files_before directory file < length (files directory))
      × (slice_index_or (files directory) (files_before directory file) no_entry ≡ entry_of directory file)
  entry_index = place_in_filter is_file file no_entry directory.listed inside (ap not is_of_file)

  -- as many numbers stand before it as entries
  same_before : length (filter is_files (take file range)) ≡ files_before directory file
  same_before =
      sym (length-map (filter is_files (take file range)) (entry_of directory))
      ∙ ap length (filter_map (entry_of directory) is_file (take file range))
      ∙ ap (λ l. length (filter is_file l)) (sym (take-map (entry_of directory) file range))
      ∙ ap (λ l. length (filter is_file (take file l))) (sym (fill_by_all (entry_of directory) directory.listed (entries directory) no_entry refl (λ k within. refl)))

  itself : slice_index_or range file 0 ≡ file
  itself = omega (arith, get_or-range_with_len 0 (entries directory) file 0 inside)

  pub number_index : (files_before directory file < length (file_numbers directory))
      × (slice_index_or (file_numbers directory) (files_before directory file) 0 ≡ file)
  number_index =
      let place = place_in_filter is_files file 0 range (omega (arith, inside, length-range_with_len 0 (entries directory))) (ap is_files itself ∙ ap not is_of_file) in (
        subst (λ n. n < length (file_numbers directory)) same_before place.0,
        subst (λ n. slice_index_or (file_numbers directory) n 0 ≡ file) same_before (place.1 ∙ itself),
      )
