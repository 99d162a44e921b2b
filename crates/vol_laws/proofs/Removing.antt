-- The first file that has one of some paths, taken out of the list of files.
use Rattle.std.specs.Prelude.{◌≡◌, ◌<◌, ◌≤◌, ℕ, zero, suc, Bool, true, false, not, ◌&&◌, if◌then◌else◌, List, [], ◌∷◌, length, filter, take}
use Rattle.std.specs.List.{AllZip}
use Rattle.std.proofs.Common.{refl, sym, ◌∙◌, ap, subst, arith, get_or}
use Rattle.vol_format.specs.Directory.{Listed, no_entry, is_directory}
use Rattle.vol_format.specs.Files.{File}
use Rattle.vol_laws.specs.Inserted.{insert_at}
use Rattle.vol_laws.specs.Lists.{without_first, is_file_named}

-- an entry that has one of the paths is a file's
pub named_file : (directory named : Bool) → (not directory && named) ≡ true → (directory ≡ false) × (named ≡ true)
named_file true named is = absurd (cc)
named_file false named is = (refl, is)

module _ (is_named : List ℕ → Bool) (R : Listed → File → Type 0) (same_path : (entry : Listed) (file : File) → R entry file → file.path ≡ entry.path) where
  abbrev those : List Listed → List Listed
  those listed = filter (λ (entry : Listed). not (is_directory entry)) listed

  abbrev other : List File → List File
  other all = without_first is_named all

  at_front : (entry : Listed) (file : File) (rest : List File) → is_named entry.path ≡ true → R entry file → other (file ∷ rest) ≡ rest
  at_front entry file rest named is =
      ap (λ b. if b then rest else (file ∷ other rest)) (ap is_named (same_path entry file is) ∙ named)

  behind : (entry : Listed) (file : File) (rest : List File) → is_named entry.path ≡ false → R entry file → other (file ∷ rest) ≡ file ∷ other rest
  behind entry file rest named is =
      ap (λ b. if b then rest else (file ∷ other rest)) (ap is_named (same_path entry file is) ∙ named)

  -- one file further on
  later : (entry : Listed) (rest : List Listed) (k : ℕ) (file : File) (others : List File) → suc k ≤ length others → is_named entry.path ≡ false
      → AllZip R (entry ∷ rest) (insert_at (suc k) file others)
      → ((more : List File) → k ≤ length more → AllZip R rest (insert_at k file more) → other (insert_at k file more) ≡ more)
      → other (insert_at (suc k) file others) ≡ others
  later entry rest k file [] within named zipped more = absurd (omega (arith, within))
  later entry rest k file (head ∷ others) within named zipped more =
      behind entry head (insert_at k file others) named zipped.0 ∙ ap (λ (l : List File). head ∷ l) (more others (omega (arith, within)) zipped.1)

  pub first_removed : (listed : List Listed) (n : ℕ) (file : File) (others : List File) → n < length listed
      → is_file_named is_named (get_or listed n no_entry) ≡ true
      → ((earlier : ℕ) → earlier < n → is_file_named is_named (get_or listed earlier no_entry) ≡ false)
      → length (those (take n listed)) ≤ length others
      → AllZip R (those listed) (insert_at (length (those (take n listed))) file others)
      → other (insert_at (length (those (take n listed))) file others) ≡ others
  first_removed [] n file others inside named first within zipped = absurd (omega (arith, inside))
  first_removed (entry ∷ listed) zero file others inside named first within zipped =
      let both = named_file (is_directory entry) (is_named entry.path) named in
      let front : AllZip R (entry ∷ those listed) (file ∷ others) =
      subst (λ b. AllZip R (if not b then entry ∷ those listed else those listed) (file ∷ others)) both.0 zipped in
      at_front entry file others both.1 front.0
  first_removed (entry ∷ listed) (suc n) file others inside named first within zipped =
      by_test (λ more k zip. first_removed listed n file more (omega (arith, inside)) named (λ earlier before. first (suc earlier) (omega (arith, before))) k zip)
      (first 0 (omega arith)) (is_directory entry) refl within zipped
    where
      by_test : ((more : List File) → length (those (take n listed)) ≤ length more → AllZip R (those listed) (insert_at (length (those (take n listed))) file more)
          → other (insert_at (length (those (take n listed))) file more) ≡ more)
          → is_file_named is_named entry ≡ false → (b : Bool) → is_directory entry ≡ b
          → length (if not b then entry ∷ those (take n listed) else those (take n listed)) ≤ length others
          → AllZip R (if not b then entry ∷ those listed else those listed)
          (insert_at (length (if not b then entry ∷ those (take n listed) else those (take n listed))) file others)
          → other (insert_at (length (if not b then entry ∷ those (take n listed) else those (take n listed))) file others) ≡ others
      by_test more none true is within' zip = more others within' zip
      by_test more none false is within' zip =
          later entry (those listed) (length (those (take n listed))) file others within'
          (ap (λ b. not b && is_named entry.path) (sym is) ∙ none) zip more
