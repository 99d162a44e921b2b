-- The number of an entry in the directory that it is entered into, and the parts of the file of a number.
use Rattle.std.specs.Prelude.{◌≡◌, ◌↔◌, ◌<◌, ◌≤◌, ℕ, zero, suc, List, [], ◌∷◌, length, map, take, filter}
use Rattle.std.proofs.Common.{refl, sym, ◌∙◌, ap, subst, arith}
use Rattle.std.proofs.lemmas.List.{length-map, take-map}
use Rattle.a2_device.specs.declared.part.Part.{Part}
use Rattle.vol_format.specs.Directory.{Directory, Listed, no_entry, entries, entry_of, root_of}
use Rattle.vol_format.specs.Laws.{IsReadable, IsMovable}
use Rattle.vol_format.specs.Meaning.{Meaning}
use Rattle.vol_format.specs.Reach.{Reach}
use Rattle.vol_laws.specs.Inserted.{insert_at, inserted, shifted_entry, files_before}
use Rattle.vol_laws.specs.PartsOf.{PartOf}
use Rattle.vol_laws.proofs.FileLists.{is_file, same_kind}
use Rattle.vol_laws.proofs.Filtered.{filter_map_same}
use Rattle.vol_laws.proofs.Inserting.{insert_here}
use Rattle.vol_laws.proofs.Parts.{reach_of, of_reach, file_of_part}

take_before : {X : Type 0} (i : ℕ) (x : X) (xs : List X) → i ≤ length xs → take i (insert_at i x xs) ≡ take i xs
take_before zero x xs within = refl
take_before (suc i) x [] within = absurd (omega (arith, within))
take_before (suc i) x (y ∷ xs) within = ap (λ l. y ∷ l) (take_before i x xs (omega (arith, within)))

module _ (few : Directory) (at : ℕ) (entry : Listed) (within : at ≤ entries few) where
  abbrev moved_up : List Listed
  moved_up = map (shifted_entry at) few.listed

  within_map : at ≤ length moved_up
  within_map = omega (arith, within, length-map few.listed (shifted_entry at))

  pub entry_there : entry_of (inserted few at entry) at ≡ entry
  entry_there = insert_here at entry moved_up no_entry within_map

  pub files_before_same : files_before (inserted few at entry) at ≡ files_before few at
  files_before_same =
      ap (λ l. length (filter is_file l)) (take_before at entry moved_up within_map ∙ take-map (shifted_entry at) at few.listed)
      ∙ ap length (filter_map_same is_file (shifted_entry at) (take at few.listed) (same_kind at))
      ∙ length-map (filter is_file (take at few.listed)) (shifted_entry at)

pub parts_of_number : (format : Meaning) (laws : IsReadable format) (movable : IsMovable format) (directory : Directory) (store : List (List ℕ)) (file : ℕ) (part : Part)
    → format.Describes store directory → file < entries directory
    → PartOf format store (root_of directory file) part ↔ (Reach format directory store part × (part.file ≡ file))
parts_of_number format laws movable directory store file part described inside =
    let own = (movable.described store directory described).root_file in (
      λ of. (reach_of format directory store file part inside of, file_of_part format laws store (root_of directory file) file (own file) part of),
      λ is.
          let of = of_reach format directory store part is.0 in
          let number : of.0 ≡ file = sym (file_of_part format laws store (root_of directory of.0) of.0 (own of.0) part of.2) ∙ is.1 in
          subst (λ n. PartOf format store (root_of directory n) part) number of.2,
    )
