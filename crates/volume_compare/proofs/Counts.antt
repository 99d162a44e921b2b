-- How many bytes the files of the first entries have.
use Rattle.std.specs.Prelude.{◌≡◌, ◌<◌, ◌+◌, ℕ, List, [], ◌∷◌, ◌++◌, IsTrue, length, slice_index, sum}
use Rattle.std.proofs.Common.{sym, ◌∙◌, ap, subst, arith, ⊎_elim, inl, inr}
use Rattle.std.proofs.lemmas.Bool.{cases_lt}
use Rattle.std.proofs.lemmas.List.{get_or_append_left, get_or_push, length_push}
use Rattle.std.proofs.lemmas.List.Sums.{sum_by_push}
use Rattle.a2_device.specs.Device.{DeviceState}
use Rattle.vol_layout.specs.declared.form.PlaceForm.{PlaceForm}
use Rattle.vol_format.specs.Directory.{Directory, entries}
use Rattle.vol_format.specs.Meaning.{Meaning}
use Rattle.file_formats.specs.Files.{FileMeaning}
use Rattle.file_cmds.specs.ReadingOn.{FailedInFile, ReadsOn}
use Rattle.file_cmds.specs.lemmas.Reading.{failed_in_file_before, failed_in_file_since}
use Rattle.volume_compare.specs.Contents.{SeenVolume, volume_in}
use Rattle.volume_compare.specs.TooLarge.{AreCounts, HasFew, HasTooMany, IsCount, IsCountedTo}
use Rattle.volume_compare.proofs.Wider.{wider_unread}

pub wider_count : (volume : SeenVolume) (failed more : ℕ → Type 0) (on : (file : ℕ) → failed file → more file) (file count : ℕ) → IsCount volume failed file count → IsCount volume more file count
wider_count volume failed more on file count is =
    ⊎_elim
    (λ none. inl (none.0, ⊎_elim (λ directory. inl directory) (λ unread. inr (wider_unread volume failed more file (on file) unread)) none.1))
    (λ content. inr content)
    is

pub wider_counts : (volume : SeenVolume) (failed more : ℕ → Type 0) (on : (file : ℕ) → failed file → more file) (counts : List ℕ) → AreCounts volume failed counts → AreCounts volume more counts
wider_counts volume failed more on counts are = record {
  within = are.within;
  each = λ file low. wider_count volume failed more on file (slice_index counts file) (are.each file low);
}

module _ (form : PlaceForm) (files : FileMeaning) (format : Meaning) (directory : Directory) (start now after : DeviceState)
    (honest : IsTrue start.honest) (reads : ReadsOn start now) (more : ReadsOn now after) where
  abbrev volume : SeenVolume
  volume = volume_in form files format directory start.store

  abbrev volume_now : SeenVolume
  volume_now = volume_in form files format directory now.store

  late_count : (file count : ℕ) → IsCount volume_now (FailedInFile format directory now after) file count → IsCount volume (FailedInFile format directory start after) file count
  late_count file count is =
      subst (λ (store : List (List ℕ)). IsCount (volume_in form files format directory store) (FailedInFile format directory start after) file count)
      (ap (λ (device : DeviceState). device.store) (reads.kept honest))
      (wider_count volume_now (FailedInFile format directory now after) (FailedInFile format directory start after) (λ other failed. failed_in_file_since format directory start now after other honest reads failed) file count is)

  module _ (most many left : ℕ) (before : IsCountedTo volume (FailedInFile format directory start now) most many left) (low : many < entries directory)
      (count : ℕ) (is : IsCount volume_now (FailedInFile format directory now after) many count) where
    abbrev counts : List ℕ
    counts = before.counts ++ count ∷ []

    long : length counts ≡ many + 1
    long = length_push before.counts count ∙ ap (λ (n : ℕ). n + 1) before.long

    total : sum counts ≡ sum before.counts + count
    total = sum_by_push (λ (n : ℕ). n) before.counts count

    are : AreCounts volume (FailedInFile format directory start after) counts
    are = record { within = omega (arith, long); each = each }
      where
        old : AreCounts volume (FailedInFile format directory start after) before.counts
        old = wider_counts volume (FailedInFile format directory start now) (FailedInFile format directory start after) (λ other failed. failed_in_file_before format directory start now after other more failed)
            before.counts before.are_counts

        each : (file : ℕ) → file < length counts → IsCount volume (FailedInFile format directory start after) file (slice_index counts file)
        each file inside = elim (cases_lt file many) [
          | inl earlier ↦
              let within : file < length before.counts = omega (arith, before.long) in
              subst (IsCount volume (FailedInFile format directory start after) file) (sym (get_or_append_left before.counts (count ∷ []) 0 file within)) (old.each file within)
          | inr high ↦
              let here : many ≡ file = omega (arith, inside, long) in
              subst (IsCount volume (FailedInFile format directory start after) file) (sym (get_or_push before.counts count 0 file (before.long ∙ here)))
              (subst (λ (k : ℕ). IsCount volume (FailedInFile format directory start after) k count) here (late_count many count is))
        ]

    pub counted_more : (less : ℕ) → less + count ≡ left → IsCountedTo volume (FailedInFile format directory start after) most (many + 1) less
    counted_more less fits = record { counts = counts; long = long; are_counts = are; rest = omega (arith, before.rest, total) }

    pub counted_over : left < count → HasTooMany volume (FailedInFile format directory start after) most
    counted_over over = (counts, are, omega (arith, before.rest, total))

-- all are counted, and have no more than they may
pub counted_all : (volume : SeenVolume) (failed : ℕ → Type 0) (most many left : ℕ) → many ≡ entries volume.directory → IsCountedTo volume failed most many left → HasFew volume failed most
counted_all volume failed most many left all is = (is.counts, is.are_counts, is.long ∙ all, omega (arith, is.rest))
