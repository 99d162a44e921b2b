-- The first file with a name, in the list of files and among the entries.
use Rattle.std.specs.Prelude.{◌≡◌, ◌<◌, ℕ, zero, suc, Bool, true, false, not, ◌&&◌, if◌then◌else◌, List, [], ◌∷◌, length, filter, take, slice_set}
use Rattle.std.specs.List.{AllZip}
use Rattle.std.proofs.Common.{refl, sym, ◌∙◌, ap, subst, arith, get_or}
use Rattle.vol_format.specs.Directory.{Listed, no_entry, is_directory}
use Rattle.vol_format.specs.Files.{File}
use Rattle.vol_laws.specs.FilesOf.{no_file}
use Rattle.file_formats.specs.FileNames.{FileNameView}
use Rattle.file_formats.specs.Files.{FileMeaning, is_named}
use Rattle.edit_formats.specs.Lists.{with_first}

-- an entry with a name is a file's, and the name is that of its path
pub named_file : (directory matches : Bool) → (not directory && matches) ≡ true → (directory ≡ false) × (matches ≡ true)
named_file true matches is = absurd (cc)
named_file false matches is = (refl, is)

module _ (files : FileMeaning) (name : FileNameView) (change : File → File) (R : Listed → File → Type 0) (same_path : (entry : Listed) (file : File) → R entry file → file.path ≡ entry.path) where
  abbrev those : List Listed → List Listed
  those listed = filter (λ (entry : Listed). not (is_directory entry)) listed

  abbrev changed : List File → List File
  changed all = with_first files name change all

  -- the list with one file changed
  abbrev changed_at : List File → ℕ → List File
  changed_at all k = slice_set all k (change (get_or all k no_file))

  at_front : (entry : Listed) (rest : List Listed) (all : List File) → files.matches name entry.path ≡ true → AllZip R (entry ∷ rest) all → changed all ≡ changed_at all 0
  at_front entry rest [] matches zipped = absurd zipped
  at_front entry rest (file ∷ all) matches zipped =
      ap (λ b. if b then change file ∷ all else (file ∷ changed all)) (ap (files.matches name) (same_path entry file zipped.0) ∙ matches)

  behind : (entry : Listed) (rest : List Listed) (k : ℕ) (all : List File) → files.matches name entry.path ≡ false → AllZip R (entry ∷ rest) all
      → ((later : List File) → AllZip R rest later → changed later ≡ changed_at later k) → changed all ≡ changed_at all (suc k)
  behind entry rest k [] matches zipped more = absurd zipped
  behind entry rest k (file ∷ all) matches zipped more =
      ap (λ b. if b then change file ∷ all else (file ∷ changed all)) (ap (files.matches name) (same_path entry file zipped.0) ∙ matches)
      ∙ ap (λ (later : List File). file ∷ later) (more all zipped.1)

  pub first_changed : (listed : List Listed) (n : ℕ) (all : List File) → n < length listed → is_named files name (get_or listed n no_entry) ≡ true
      → ((earlier : ℕ) → earlier < n → is_named files name (get_or listed earlier no_entry) ≡ false)
      → AllZip R (those listed) all → changed all ≡ changed_at all (length (those (take n listed)))
  first_changed [] n all inside named first zipped = absurd (omega (arith, inside))
  first_changed (entry ∷ listed) zero all inside named first zipped =
      let both = named_file (is_directory entry) (files.matches name entry.path) named in
      at_front entry (those listed) all both.1
      (subst (λ b. AllZip R (if not b then entry ∷ those listed else those listed) all) both.0 zipped)
  first_changed (entry ∷ listed) (suc n) all inside named first zipped =
      by_test (λ later. first_changed listed n later (omega (arith, inside)) named (λ earlier before. first (suc earlier) (omega (arith, before))))
      (first 0 (omega arith)) (is_directory entry) refl zipped
    where
      by_test : ((later : List File) → AllZip R (those listed) later → changed later ≡ changed_at later (length (those (take n listed))))
          → is_named files name entry ≡ false → (b : Bool) → is_directory entry ≡ b
          → AllZip R (if not b then entry ∷ those listed else those listed) all
          → changed all ≡ changed_at all (length (if not b then entry ∷ those (take n listed) else those (take n listed)))
      by_test more none true is zipped = more all zipped
      by_test more none false is zipped =
          behind entry (those listed) (length (those (take n listed))) all
          (ap (λ b. not b && files.matches name entry.path) (sym is) ∙ none) zipped more
