-- Where nothing but that files are the same is told, each file has a partner with the same content.
use Rattle.std.specs.Prelude.{◌≡◌, ◌<◌, ◌+◌, ℕ, Bool, true, List, ◌++◌, Option, Some, None, length}
use Rattle.std.proofs.Common.{refl, sym, ◌∙◌, ap, subst, arith, ⊎_elim}
use Rattle.std.proofs.lemmas.List.{get_or-append-add, get_or_append_left, length-append, length-map}
use Rattle.std.proofs.lemmas.List.Elements.{All-get_or}
use Rattle.std.proofs.lemmas.List.Sums.{AllPass-from_list_all}
use Rattle.a2_device.specs.Device.{DeviceState}
use Rattle.vol_layout.specs.declared.form.PlaceForm.{PlaceForm}
use Rattle.vol_format.specs.Directory.{entries}
use Rattle.vol_format.specs.Meaning.{Meaning}
use Rattle.file_formats.specs.Files.{FileMeaning}
use Rattle.volume_compare.specs.Comparison.{IsComparison, TellsAll}
use Rattle.volume_compare.specs.CompareText.{are_equal, is_alike, is_same}
use Rattle.volume_compare.specs.Contents.{IsContent, IsJudged}
use Rattle.volume_compare.specs.Findings.{Compared, IsFinding, IsFindingAlone, IsTold, IsToldAlone, Told, compared_in, paths_in, told_at}
use Rattle.volume_compare.specs.Pairs.{IsPartner, file_path, path_at}
use Rattle.volume_compare.specs.SameFiles.{AreSameVolumes, HasAlike, HaveSameFiles}
use Rattle.volume_compare.specs.declared.finding.Finding.{Finding}
use Rattle.volume_compare.specs.declared.finding.Finding.TheVariants.{Unreadable, Only, Body, Entry, Same}
use Rattle.volume_compare.specs.declared.finding.Found.{Found}
use Rattle.volume_compare.specs.declared.report.Comparison.{Comparison}
use Rattle.volume_compare.proofs.Ranks.{has_entry, one_partner}

module _ (compared : Compared) (told others : List (Option Told)) (equal : are_equal (told ++ others) ≡ true) where
  alike : (at : ℕ) → at < length (told ++ others) → is_alike (told_at (told ++ others) at) ≡ true
  alike at low = All-get_or (λ (any : Option Told). is_alike any ≡ true) (told ++ others) at None low (AllPass-from_list_all is_alike (told ++ others) equal)

  told_alike : (file : ℕ) → file < length told → is_alike (told_at told file) ≡ true
  told_alike file low =
      ap is_alike (sym (get_or_append_left told others None file low)) ∙ alike file (omega (arith, length-append told others))

  others_alike : (other : ℕ) → other < length others → is_alike (told_at others other) ≡ true
  others_alike other low =
      ap is_alike (sym (get_or-append-add told others other None)) ∙ alike (length told + other) (omega (arith, length-append told others))

  -- a file of which it is found that it is the same
  of_finding : (file : ℕ) (found : Found) (finding : Finding) → found.finding ≡ finding → is_same finding ≡ true → IsFinding compared file found finding
      → (other : ℕ) × HasAlike compared.first compared.second file other
  of_finding file found Same is so both =
      let same : both.content ≡ both.other_content = subst (IsJudged both.content both.other_content) is both.judged in (
        both.other,
        record {
          partners = both.partners;
          content = both.content;
          is_content = both.is_content;
          is_other = subst (IsContent compared.second both.other) (sym same) both.is_other;
        },
      )
  of_finding file found Body is so both = absurd (cc)
  of_finding file found Entry is so both = absurd (cc)
  of_finding file found (Only side) is so both = absurd (cc)
  of_finding file found (Unreadable side) is so both = absurd (cc)

  of_told : (file : ℕ) (path : List ℕ) (one : Option Told) → IsTold compared file one → is_alike one ≡ true → path_at (paths_in compared.first) file ≡ Some path
      → (other : ℕ) × HasAlike compared.first compared.second file other
  of_told file path (Some one) is so has = of_finding file one.found one.found.finding refl so is.1
  of_told file path None is so has = absurd (cc)

  -- a file of the second of which nothing is told is a partner
  not_alone : (other : ℕ) (found : Found) (finding : Finding) → is_same finding ≡ true → IsFindingAlone compared other found finding → ⊥
  not_alone other found Same so is = is
  not_alone other found Body so is = is
  not_alone other found Entry so is = is
  not_alone other found (Only side) so is = absurd (cc)
  not_alone other found (Unreadable side) so is = absurd (cc)

  of_other : (other : ℕ) (path : List ℕ) (one : Option Told) → IsToldAlone compared other one → is_alike one ≡ true → path_at (paths_in compared.second) other ≡ Some path
      → (file : ℕ) × IsPartner (paths_in compared.first) (paths_in compared.second) file other
  of_other other path (Some one) is so has = absurd (not_alone other one.found one.found.finding so is.2)
  of_other other path None is so has = ⊎_elim (λ none. absurd (cc)) (λ pair. pair) is

-- the files of volumes that are told to be equal
pub same_files : (compared : Compared) (all : Bool) (form : PlaceForm) (most : ℕ) (comparison : Comparison) → TellsAll all form compared most comparison
    → comparison.equal ≡ true → HaveSameFiles compared.first compared.second
same_files compared all form most comparison tells equal = record { of_first = of_first; of_second = of_second }
  where
    alike : are_equal (tells.told ++ tells.others) ≡ true
    alike = sym tells.equal ∙ equal

    of_first : (file : ℕ) (path : List ℕ) → path_at (paths_in compared.first) file ≡ Some path → (other : ℕ) × HasAlike compared.first compared.second file other
    of_first file path has =
        let low : file < entries compared.first.directory =
        omega (arith, has_entry (paths_in compared.first) file path has, length-map compared.first.directory.listed (file_path compared.first.files)) in
        let long = tells.are_told.long in
        of_told compared tells.told tells.others alike file path (told_at tells.told file) (tells.are_told.each file low)
        (told_alike compared tells.told tells.others alike file (omega arith)) has

    of_second : (other : ℕ) (path : List ℕ) → path_at (paths_in compared.second) other ≡ Some path → (file : ℕ) × HasAlike compared.first compared.second file other
    of_second other path has =
        let low : other < entries compared.second.directory =
        omega (arith, has_entry (paths_in compared.second) other path has, length-map compared.second.directory.listed (file_path compared.second.files)) in
        let long = tells.are_others.long in
        let pair = of_other compared tells.told tells.others alike other path (told_at tells.others other) (tells.are_others.each other low)
        (others_alike compared tells.told tells.others alike other (omega arith)) has in
        let found = of_first pair.0 pair.1.path pair.1.of_file in
        let same : found.0 ≡ other = one_partner (paths_in compared.first) (paths_in compared.second) pair.0 found.0 other found.1.partners pair.1 in
        (pair.0, subst (HasAlike compared.first compared.second pair.0) same found.1)

pub same_volumes : (all : Bool) (form : PlaceForm) (files : FileMeaning) (format : Meaning) (most : ℕ) (device device_now other other_now : DeviceState) (comparison : Comparison)
    → IsComparison all form files format most device device_now other other_now comparison → comparison.equal ≡ true
    → AreSameVolumes form files format device.store other.store
same_volumes all form files format most device device_now other other_now comparison is equal = record {
  first = is.first;
  second = is.second;
  described = is.described;
  other_described = is.other_described;
  same = same_files (compared_in form files format is.first is.second device device_now other other_now) all form most comparison is.tells equal;
}
