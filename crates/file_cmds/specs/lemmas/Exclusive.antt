-- The answers of a read exclude one another.
use Rattle.std.specs.Prelude.{◌≡◌, ◌<◌, ℕ, Bool, true, false, List}
use Rattle.std.proofs.Common.{refl, subst, arith, ⊎_elim}
use Rattle.std.proofs.lemmas.Bool.Decides.{nat_tests}
use Rattle.std.specs.Prelude.{nat_lt}
use Rattle.vol_format.specs.Directory.{Directory, entry_of}
use Rattle.vol_format.specs.Meaning.{Meaning}
use Rattle.vol_format.specs.Laws.{IsReadable}
use Rattle.file_formats.specs.FileNames.{FileNameView}
use Rattle.file_formats.specs.Files.{FileMeaning, is_named, IsFirstNamed, NamesNone}
use Rattle.file_cmds.specs.Text.{OwnFault}
use Rattle.file_cmds.specs.Read.{IsTextAt, IsBroken, IsUnreadable, HasNoFile}

true_not_false : (b : Bool) → b ≡ true → b ≡ false → ⊥
true_not_false b is other = cc

module _ (format : Meaning) (laws : IsReadable format) (files : FileMeaning) (store : List (List ℕ)) (name : FileNameView) where
  not_before : (directory : Directory) (file other : ℕ) → IsFirstNamed files directory name file → IsFirstNamed files directory name other → file < other → ⊥
  not_before directory file other first is less = true_not_false (is_named files name (entry_of directory file)) first.named (is.first file less)

  -- a name has one first file
  pub one_first : (directory : Directory) (file other : ℕ) → IsFirstNamed files directory name file → IsFirstNamed files directory name other → file ≡ other
  one_first directory file other first is = by_tests (nat_lt file other) (nat_lt other file) refl refl
    where
      by_tests : (less more : Bool) → nat_lt file other ≡ less → nat_lt other file ≡ more → file ≡ other
      by_tests true more less_is more_is = absurd (not_before directory file other first is (grind (arith, nat_tests)))
      by_tests false true less_is more_is = absurd (not_before directory other file is first (grind (arith, nat_tests)))
      by_tests false false less_is more_is = grind (arith, nat_tests)

  pub found_or_not : (directory : Directory) (file : ℕ) → format.Describes store directory → IsFirstNamed files directory name file → HasNoFile format files store name → ⊥
  found_or_not directory file described first none =
      let names_none : NamesNone files directory name =
      subst (λ (d : Directory). NamesNone files d name) (laws.one_directory store none.0 directory none.1 described) none.2 in
      true_not_false (is_named files name (entry_of directory file)) first.named (names_none file first.inside)

  pub text_or_none : (whole : Bool) (text : List ℕ) → IsTextAt format files store name whole text → HasNoFile format files store name → ⊥
  text_or_none whole text is none = found_or_not is.directory is.file is.described is.first none

  pub fault_or_none : IsUnreadable format files store name → HasNoFile format files store name → ⊥
  fault_or_none fault none =
      ⊎_elim (λ header. laws.header_fault store none.0 header.0 header.1 none.1) (λ broken. found_or_not broken.directory broken.file broken.described broken.first none) fault

  pub text_or_fault : (whole : Bool) (text : List ℕ) → IsTextAt format files store name whole text → IsUnreadable format files store name → ⊥
  text_or_fault whole text is fault =
      ⊎_elim (λ header. laws.header_fault store is.directory header.0 header.1 is.described) (λ broken. both broken) fault
    where
      both : IsBroken format files store name → ⊥
      both broken =
          let same : broken.directory ≡ is.directory = laws.one_directory store broken.directory is.directory broken.described is.described in
          let first : IsFirstNamed files is.directory name broken.file = subst (λ (d : Directory). IsFirstNamed files d name broken.file) same broken.first in
          let fault_here : OwnFault format is.directory store broken.file = subst (λ (d : Directory). OwnFault format d store broken.file) same broken.fault in
          is.read.faultless (subst (OwnFault format is.directory store) (one_first is.directory broken.file is.file first is.first) fault_here)
