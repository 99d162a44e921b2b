-- A volume has one answer to a command: the causes are weighed one after another, and the first that is there ends it.
use Rattle.std.specs.Prelude.{◌≡◌, ◌<◌, ◌+◌, ◌-◌, ℕ, zero, suc, List}
use Rattle.std.proofs.Common.{subst, arith, inl, inr}
use Rattle.std.proofs.lemmas.Bool.{cases_order}
use Rattle.vol_format.specs.Accepted.{IsAccepted}
use Rattle.vol_format.specs.Directory.{Directory}
use Rattle.vol_format.specs.Laws.{IsReadable}
use Rattle.vol_format.specs.Meaning.{Meaning}
use Rattle.file_formats.specs.FileNames.{FileNameView}
use Rattle.file_formats.specs.Files.{FileMeaning, IsFirstNamed, NamesNone}
use Rattle.edit_formats.specs.Edited.{HasNoSuchFile}
use Rattle.edit_formats.specs.Renamed.{HasFirst}

-- what is said of an entry
abbrev pub OfEntry : Type 1
OfEntry = Directory → ℕ → Type 0

abbrev pub Any : OfEntry
Any directory file = Unit {0}

-- what is said of the first entry with a name
module _ (format : Meaning) (laws : IsReadable format) (files : FileMeaning) (store : List (List ℕ))
    (name : FileNameView) where
  abbrev First : OfEntry → Type 0
  First Is = HasFirst format files store name Is

  pub also : (P Q : OfEntry) → ((directory : Directory) (file : ℕ) → P directory file → Q directory file)
      → First P → First Q
  also P Q follows has = record {
    directory = has.directory;
    accepted = has.accepted;
    file = has.file;
    first = has.first;
    is = follows has.directory has.file has.is;
  }

  not_before : (directory : Directory) (file other : ℕ) → IsFirstNamed files directory name file
      → IsFirstNamed files directory name other → file < other → ⊥
  not_before directory file other first is less = let named = first.named in let none = is.first file less in cc

  one_first : (directory : Directory) (file other : ℕ) → IsFirstNamed files directory name file
      → IsFirstNamed files directory name other → file ≡ other
  one_first directory file other first is = elim (cases_order file other) [
    | inl same ↦ same
    | inr apart ↦ elim apart [
      | inl less ↦ absurd (not_before directory file other first is less)
      | inr more ↦ absurd (not_before directory other file is first more)
    ]
  ]

  one_directory : (directory other : Directory) → IsAccepted format directory store → IsAccepted format other store
      → directory ≡ other
  one_directory directory other is also_is = laws.one_directory store directory other is.described also_is.described

  pub not_both : (P Q : OfEntry) → ((directory : Directory) (file : ℕ) → P directory file → Q directory file → ⊥)
      → First P → First Q → ⊥
  not_both P Q against one other =
      let same : other.directory ≡ one.directory =
      one_directory other.directory one.directory other.accepted one.accepted in
      let first : IsFirstNamed files one.directory name other.file =
      subst (λ (d : Directory). IsFirstNamed files d name other.file) same other.first in
      let here : Q one.directory other.file = subst (λ (d : Directory). Q d other.file) same other.is in
      against one.directory one.file one.is
      (subst (Q one.directory) (one_first one.directory other.file one.file first one.first) here)

  pub not_none : HasNoSuchFile format files store name → First Any → ⊥
  not_none none has =
      let same : none.directory ≡ has.directory =
      one_directory none.directory has.directory none.accepted has.accepted in
      let no_name : NamesNone files has.directory name =
      subst (λ (d : Directory). NamesNone files d name) same none.none in
      let named = has.first.named in
      let unnamed = no_name has.file has.first.inside in
      cc

-- Each stage that is passed lies behind those before it; a command ends at one that is passed and the next one is not.
module _ (Passed : ℕ → Type 0) (fewer : (n : ℕ) → Passed (suc n) → Passed n) where
  all_fewer : (more n : ℕ) → Passed (more + n) → Passed n
  all_fewer zero n passed = let none : 0 + n ≡ n = omega arith in subst Passed none passed
  all_fewer (suc more) n passed =
      let one : suc more + n ≡ suc (more + n) = omega arith in
      all_fewer more n (fewer (more + n) (subst Passed one passed))

  abbrev pub Ends : ℕ → Type 0
  Ends n = Passed n × (Passed (suc n) → ⊥)

  not_later : (m n : ℕ) → m < n → Ends m → Ends n → ⊥
  not_later m n less one other =
      let apart : n ≡ (n - suc m) + suc m = omega (arith, less) in
      one.1 (all_fewer (n - suc m) (suc m) (subst Passed apart other.0))

  pub one_end : (m n : ℕ) → Ends m → Ends n → m ≡ n
  one_end m n one other = elim (cases_order m n) [
    | inl same ↦ same
    | inr apart ↦ elim apart [
      | inl less ↦ absurd (not_later m n less one other)
      | inr more ↦ absurd (not_later n m more other one)
    ]
  ]
