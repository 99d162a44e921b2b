-- The line of a file, by what was read of it.
use Rattle.std.specs.Prelude.{◌≡◌, ℕ, List, Option, Some, IfOk, IsTrue, Result, Ok, Err}
use Rattle.std.specs.declared.alloc.AllocError.{AllocError}
use Rattle.std.proofs.Common.{subst, sym, arith, ⊎_elim}
use Rattle.a2_device.specs.Device.{DeviceState, UsesRead}
use Rattle.vol_check.specs.Failures.{FailsInFile}
use Rattle.vol_format.specs.Directory.{entry_of}
use Rattle.vol_format.specs.Reach.{Reach}
use Rattle.volume_compare.specs.Contents.{SeenVolume}
use Rattle.image_survey.specs.FileLine.{IsLineOf, IsWhole, LacksUnitOf, line_by}
use Rattle.image_survey.specs.declared.file_line.FileLine.{FileLine}

-- where a line comes, it is that of the text
pub lines_if : (volume : SeenVolume) (unreadable : List ℕ) (file : ℕ) (whole : Option (List ℕ)) → IsWhole volume unreadable file whole
    → (result : Result FileLine AllocError)
    → IfOk result (λ told. told ≡ line_by volume.form volume.files (entry_of volume.directory file) whole) → IfOk result (IsLineOf volume unreadable file)
lines_if volume unreadable file whole is_whole (Ok told) is = record { whole = whole; is_whole = is_whole; is = is }
lines_if volume unreadable file whole is_whole (Err error) is = tt

-- a read of a file that failed where no failure is to come was of a unit that can't be read
pub lacks_in_file : (volume : SeenVolume) (old new : DeviceState) (file : ℕ) → volume.store ≡ old.store → IsTrue old.honest → old.read_failures ≡ Some 0
    → FailsInFile volume.meaning volume.directory old new file → LacksUnitOf volume old.unreadable file
lacks_in_file volume old new file same honest never fails = record {
  part = fails.part;
  reached = subst (λ store. Reach volume.meaning volume.directory store fails.part) (sym same) fails.reached;
  in_file = fails.in_file;
  lacks =
      ⊎_elim
      (λ met. let used = subst (λ failures. UsesRead failures new.read_failures) never met.0 in absurd (omega (arith, used.1)))
      (λ lacks. lacks.0)
      fails.failed;
}
