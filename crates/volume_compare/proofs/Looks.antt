-- What is found of a file by what was read.
use Rattle.std.specs.Prelude.{◌≡◌, ◌<◌, ℕ, Bool, true, false, List, Option, None, length}
use Rattle.std.proofs.Common.{refl, sym, subst, arith, get_or}
use Rattle.std.proofs.lemmas.List.{length-map}
use Rattle.vol_format.specs.Directory.{Directory, entries}
use Rattle.file_formats.specs.Files.{FileMeaning}
use Rattle.volume_compare.specs.Contents.{FileContent, IsContent, IsJudged, IsUnread}
use Rattle.volume_compare.specs.Findings.{ArePartners, AreBothRead, Compared, HasBytes, IsFinding, IsFound, IsFoundAlone}
use Rattle.volume_compare.specs.Pairs.{ArePairs, IsPartner, IsPartnerOf, IsTakenBefore, file_path, paths_of, taken_at}
use Rattle.volume_compare.specs.declared.finding.Finding.{Finding}
use Rattle.volume_compare.specs.declared.finding.Finding.TheVariants.{Unreadable, Only, Body, Entry, Same}
use Rattle.volume_compare.specs.declared.finding.Found.{Found}
use Rattle.volume_compare.specs.declared.finding.Side.TheVariants.{First, Second}
use Rattle.volume_compare.proofs.Ranks.{has_entry}

module _ (compared : Compared) (file : ℕ) (found : Found) where
  pub unreadable_first : IsUnread compared.first compared.first_failed file
      → found ≡ record { finding = Unreadable First; first_bytes = 0; second_bytes = 0 } → IsFound compared file found
  unreadable_first unread is = subst (IsFound compared file) (sym is) (record { unread = unread; bytes = (refl, refl) })

  module _ (content : FileContent) (is_content : IsContent compared.first file content) where
    pub only_first : ((other : ℕ) → ¬ ArePartners compared file other)
        → found ≡ record { finding = Only First; first_bytes = length content.text; second_bytes = 0 } → IsFound compared file found
    only_first alone is = subst (IsFound compared file) (sym is) (record { content = content; is_content = is_content; alone = alone; bytes = (refl, refl) })

    module _ (other : ℕ) (partners : ArePartners compared file other) where
      pub unreadable_second : IsUnread compared.second compared.second_failed other
          → found ≡ record { finding = Unreadable Second; first_bytes = length content.text; second_bytes = 0 } → IsFound compared file found
      unreadable_second unread is =
          subst (IsFound compared file) (sym is)
          (record { content = content; is_content = is_content; other = other; partners = partners; unread = unread; bytes = (refl, refl) })

      pub both_read : (other_content : FileContent) → IsContent compared.second other other_content → IsJudged content other_content found.finding
          → HasBytes found (length content.text) (length other_content.text) → IsFound compared file found
      both_read other_content is_other judged bytes = by_finding found.finding judged
        where
          both : AreBothRead compared file found
          both = record {
            content = content;
            is_content = is_content;
            other = other;
            partners = partners;
            other_content = other_content;
            is_other = is_other;
            judged = judged;
            bytes = bytes;
          }

          by_finding : (finding : Finding) → IsJudged content other_content finding → IsFinding compared file found finding
          by_finding Body judged = both
          by_finding Entry judged = both
          by_finding Same judged = both
          by_finding (Only side) judged = absurd judged
          by_finding (Unreadable side) judged = absurd judged

module _ (compared : Compared) (other : ℕ) (found : Found) where
  pub unreadable_alone : IsUnread compared.second compared.second_failed other
      → found ≡ record { finding = Unreadable Second; first_bytes = 0; second_bytes = 0 } → IsFoundAlone compared other found
  unreadable_alone unread is = subst (IsFoundAlone compared other) (sym is) (record { unread = unread; bytes = (refl, refl) })

  pub only_second : (content : FileContent) → IsContent compared.second other content
      → found ≡ record { finding = Only Second; first_bytes = 0; second_bytes = length content.text } → IsFoundAlone compared other found
  only_second content is_content is =
      subst (IsFoundAlone compared other) (sym is) (record { content = content; is_content = is_content; bytes = (refl, refl) })

-- ---- partners

module _ (files : FileMeaning) (first second : Directory) (partners : List (Option ℕ)) (file : ℕ) where
  -- the partner of a file, as the pairs have it
  pub partner_told : (taken : List _) → ArePairs (paths_of files first) (paths_of files second) partners taken → file < entries first
      → (partner : Option ℕ) → get_or partners file None ≡ partner → IsPartnerOf (paths_of files first) (paths_of files second) file partner
  partner_told taken pairs inside partner is =
      subst (IsPartnerOf (paths_of files first) (paths_of files second) file) is (pairs.each file (omega (arith, length-map first.listed (file_path files))))

-- a partner is the file of an entry
pub partner_inside : (files : FileMeaning) (first second : Directory) (file other : ℕ) → IsPartner (paths_of files first) (paths_of files second) file other
    → other < entries second
partner_inside files first second file other pair =
    omega (arith, has_entry (paths_of files second) other pair.path pair.of_other, length-map second.listed (file_path files))

-- a file of the second volume is a partner, or it isn't
module _ (first second : List (Option (List ℕ))) (partners : List (Option ℕ)) (taken : List Bool) (pairs : ArePairs first second partners taken) (other : ℕ) where
  pub taken_partner : taken_at taken other ≡ true → (file : ℕ) × IsPartner first second file other
  taken_partner is = let taker = subst (IsTakenBefore first second (length first) other) is (pairs.others other) in (taker.0, taker.2)

  pub free_alone : taken_at taken other ≡ false → (file : ℕ) → ¬ IsPartner first second file other
  free_alone is file pair = subst (IsTakenBefore first second (length first) other) is (pairs.others other) file (has_entry first file pair.path pair.of_file) pair
