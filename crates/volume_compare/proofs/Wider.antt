-- What is found among some reads is so among more of them.
use Rattle.std.specs.Prelude.{◌≡◌, ◌+◌, ℕ, List, [], ◌∷◌, ◌++◌, Option, Some, None, IsTrue}
use Rattle.std.proofs.Common.{sym, ◌∙◌, ap, subst, arith, ⊎_elim, inl, inr}
use Rattle.std.proofs.lemmas.Bool.{cases_lt}
use Rattle.std.proofs.lemmas.List.{get_or_append_left, get_or_push, length_push}
use Rattle.a2_device.specs.Device.{DeviceState}
use Rattle.vol_layout.specs.declared.form.PlaceForm.{PlaceForm}
use Rattle.vol_format.specs.Directory.{Directory}
use Rattle.vol_format.specs.Meaning.{Meaning}
use Rattle.file_formats.specs.Files.{FileMeaning}
use Rattle.file_cmds.specs.ReadingOn.{FailedInFile, ReadsOn}
use Rattle.file_cmds.specs.lemmas.Reading.{failed_in_file_before, failed_in_file_since}
use Rattle.volume_compare.specs.Contents.{IsUnread, SeenVolume, volume_in}
use Rattle.volume_compare.specs.Findings.{AreToldAloneUpTo, AreToldUpTo, Compared, IsFinding, IsFindingAlone, IsTold, IsToldAlone, Told, compared_in, told_at}
use Rattle.volume_compare.specs.declared.finding.Finding.{Finding}
use Rattle.volume_compare.specs.declared.finding.Finding.TheVariants.{Unreadable, Only, Body, Entry, Same}
use Rattle.volume_compare.specs.declared.finding.Found.{Found}
use Rattle.volume_compare.specs.declared.finding.Side.TheVariants.{First, Second}

pub wider_unread : (volume : SeenVolume) (failed more : ℕ → Type 0) (file : ℕ) (on : failed file → more file) → IsUnread volume failed file → IsUnread volume more file
wider_unread volume failed more file on unread = ⊎_elim (λ fault. inl fault) (λ fails. inr (on fails)) unread

module _ (compared : Compared) (first_more second_more : ℕ → Type 0) (on_first : (file : ℕ) → compared.first_failed file → first_more file)
    (on_second : (file : ℕ) → compared.second_failed file → second_more file) where
  abbrev wider : Compared
  wider = record compared { first_failed = first_more; second_failed = second_more }

  wider_finding : (file : ℕ) (found : Found) (finding : Finding) → IsFinding compared file found finding → IsFinding wider file found finding
  wider_finding file found (Unreadable First) is =
      record { unread = wider_unread compared.first compared.first_failed first_more file (on_first file) is.unread; bytes = is.bytes }
  wider_finding file found (Unreadable Second) is = record {
    content = is.content;
    is_content = is.is_content;
    other = is.other;
    partners = is.partners;
    unread = wider_unread compared.second compared.second_failed second_more is.other (on_second is.other) is.unread;
    bytes = is.bytes;
  }
  wider_finding file found (Only First) is = record { content = is.content; is_content = is.is_content; alone = is.alone; bytes = is.bytes }
  wider_finding file found (Only Second) is = absurd is
  wider_finding file found Body is = record { content = is.content; is_content = is.is_content; other = is.other; partners = is.partners; other_content = is.other_content; is_other = is.is_other; judged = is.judged; bytes = is.bytes }
  wider_finding file found Entry is = record { content = is.content; is_content = is.is_content; other = is.other; partners = is.partners; other_content = is.other_content; is_other = is.is_other; judged = is.judged; bytes = is.bytes }
  wider_finding file found Same is = record { content = is.content; is_content = is.is_content; other = is.other; partners = is.partners; other_content = is.other_content; is_other = is.is_other; judged = is.judged; bytes = is.bytes }

  pub wider_told : (file : ℕ) (told : Option Told) → IsTold compared file told → IsTold wider file told
  wider_told file (Some told) is = (is.0, wider_finding file told.found told.found.finding is.1)
  wider_told file None is = is

  wider_alone : (other : ℕ) (found : Found) (finding : Finding) → IsFindingAlone compared other found finding → IsFindingAlone wider other found finding
  wider_alone other found (Unreadable Second) is =
      record { unread = wider_unread compared.second compared.second_failed second_more other (on_second other) is.unread; bytes = is.bytes }
  wider_alone other found (Unreadable First) is = absurd is
  wider_alone other found (Only Second) is = record { content = is.content; is_content = is.is_content; bytes = is.bytes }
  wider_alone other found (Only First) is = absurd is
  wider_alone other found Body is = absurd is
  wider_alone other found Entry is = absurd is
  wider_alone other found Same is = absurd is

  pub wider_told_alone : (other : ℕ) (told : Option Told) → IsToldAlone compared other told → IsToldAlone wider other told
  wider_told_alone other (Some told) is = (is.0, is.1, wider_alone other told.found told.found.finding is.2)
  wider_told_alone other None is = is

-- one more told of
module _ (compared : Compared) (many : ℕ) (told : List (Option Told)) (next : Option Told) where
  pub told_more : AreToldUpTo compared many told → IsTold compared many next → AreToldUpTo compared (many + 1) (told ++ next ∷ [])
  told_more are is = record {
    long = length_push told next ∙ ap (λ (n : ℕ). n + 1) are.long;
    each = λ file low. elim (cases_lt file many) [
      | inl old ↦
          subst (IsTold compared file) (sym (get_or_append_left told (next ∷ []) None file (let long = are.long in omega arith))) (are.each file old)
      | inr high ↦
          let here : many ≡ file = omega arith in
          subst (IsTold compared file) (sym (get_or_push told next None file (are.long ∙ here))) (subst (λ (k : ℕ). IsTold compared k next) here is)
    ];
  }

  pub told_alone_more : AreToldAloneUpTo compared many told → IsToldAlone compared many next → AreToldAloneUpTo compared (many + 1) (told ++ next ∷ [])
  told_alone_more are is = record {
    long = length_push told next ∙ ap (λ (n : ℕ). n + 1) are.long;
    each = λ file low. elim (cases_lt file many) [
      | inl old ↦
          subst (IsToldAlone compared file) (sym (get_or_append_left told (next ∷ []) None file (let long = are.long in omega arith))) (are.each file old)
      | inr high ↦
          let here : many ≡ file = omega arith in
          subst (IsToldAlone compared file) (sym (get_or_push told next None file (are.long ∙ here))) (subst (λ (k : ℕ). IsToldAlone compared k next) here is)
    ];
  }

-- ---- two devices, each as it was at first, then, and after more reads
module _ (form : PlaceForm) (files : FileMeaning) (format : Meaning) (first second : Directory) (start now after other other_now other_after : DeviceState)
    (reads : ReadsOn start now) (more : ReadsOn now after) (other_reads : ReadsOn other other_now) (other_more : ReadsOn other_now other_after) where
  abbrev by_now : Compared
  by_now = compared_in form files format first second start now other other_now

  abbrev since_now : Compared
  since_now = compared_in form files format first second now after other_now other_after

  abbrev in_all : Compared
  in_all = compared_in form files format first second start after other other_after

  abbrev first_in_all : ℕ → Type 0
  first_in_all = FailedInFile format first start after

  abbrev second_in_all : ℕ → Type 0
  second_in_all = FailedInFile format second other other_after

  on_early : (file : ℕ) → FailedInFile format first start now file → FailedInFile format first start after file
  on_early file failed = failed_in_file_before format first start now after file more failed

  on_other_early : (file : ℕ) → FailedInFile format second other other_now file → FailedInFile format second other other_after file
  on_other_early file failed = failed_in_file_before format second other other_now other_after file other_more failed

  pub early_told : (many : ℕ) (told : List (Option Told)) → AreToldUpTo by_now many told → AreToldUpTo in_all many told
  early_told many told are = record {
    long = are.long;
    each = λ file low. wider_told by_now first_in_all second_in_all on_early on_other_early file (told_at told file) (are.each file low);
  }

  pub early_told_alone : (many : ℕ) (told : List (Option Told)) → AreToldAloneUpTo by_now many told → AreToldAloneUpTo in_all many told
  early_told_alone many told are = record {
    long = are.long;
    each = λ file low. wider_told_alone by_now first_in_all second_in_all on_early on_other_early file (told_at told file) (are.each file low);
  }

  module _ (honest : IsTrue start.honest) (other_honest : IsTrue other.honest) where
    -- what stood on the devices when they were read later
    abbrev with_stores : List (List ℕ) → List (List ℕ) → Compared
    with_stores store other_store = record {
      first = volume_in form files format first store;
      second = volume_in form files format second other_store;
      first_failed = first_in_all;
      second_failed = second_in_all;
    }

    on_late : (file : ℕ) → FailedInFile format first now after file → FailedInFile format first start after file
    on_late file failed = failed_in_file_since format first start now after file honest reads failed

    on_other_late : (file : ℕ) → FailedInFile format second other_now other_after file → FailedInFile format second other other_after file
    on_other_late file failed = failed_in_file_since format second other other_now other_after file other_honest other_reads failed

    same_store : now.store ≡ start.store
    same_store = ap (λ (device : DeviceState). device.store) (reads.kept honest)

    same_other : other_now.store ≡ other.store
    same_other = ap (λ (device : DeviceState). device.store) (other_reads.kept other_honest)

    pub late_told : (file : ℕ) (told : Option Told) → IsTold since_now file told → IsTold in_all file told
    late_told file told is =
        subst (λ (store : List (List ℕ)). IsTold (with_stores store other.store) file told) same_store
        (subst (λ (store : List (List ℕ)). IsTold (with_stores now.store store) file told) same_other
        (wider_told since_now first_in_all second_in_all on_late on_other_late file told is))

    pub late_told_alone : (file : ℕ) (told : Option Told) → IsToldAlone since_now file told → IsToldAlone in_all file told
    late_told_alone file told is =
        subst (λ (store : List (List ℕ)). IsToldAlone (with_stores store other.store) file told) same_store
        (subst (λ (store : List (List ℕ)). IsToldAlone (with_stores now.store store) file told) same_other
        (wider_told_alone since_now first_in_all second_in_all on_late on_other_late file told is))
