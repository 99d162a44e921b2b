-- A unit that is ready to be written.
use Rattle.std.specs.Prelude.{◌≡◌, ◌<◌, ℕ, true, false, List, ◌∷◌, length, All, Result, Ok, Err, IsTrue, slice_index_or}
use Rattle.std.specs.Result.{IsErrAnd}
use Rattle.std.proofs.Common.{refl, subst, sym}
use Rattle.std.proofs.lemmas.Result.{err_from_is_err_and}
use Rattle.a2_device.specs.Device.{DeviceState, OnlyReads}
use Rattle.vol_format.specs.Laws.{IsDirectory}
use Rattle.vol_format.specs.Meaning.{Meaning}
use Rattle.vol_laws.specs.declared.mark.Mark.{Mark}
use Rattle.vol_mover.specs.Tasks.{Course, Task, Map}
use Rattle.vol_mover.specs.Present.{Present, IsSession}
use Rattle.vol_mover.specs.Steps.{IsNextWrite, Prepares}
use Rattle.vol_mover.specs.declared.progress.StepError.{StepError}
use Rattle.vol_mover.specs.declared.progress.StepError.TheVariants.{Read}
use Rattle.vol_mover.proofs.NextWrites.{first_fits}

module _ (format : Meaning) (old : Present) (device : DeviceState) (unit : List ℕ) (size : length unit ≡ length old.unit) where
  pub prepared : (place : ℕ) → OnlyReads false old.device device → place < old.device.places
      → (IsTrue old.device.honest → old.closed ≡ false → (course : Course) → IsSession format old course → IsNextWrite format old course place unit)
      → Prepares format old (record old { device = device; unit = unit }) (Ok place)
  prepared place reads inside write = record {
    only = refl;
    size = size;
    reads = reads;
    error = λ err. absurd (cc (err));
    inside = inside;
    write = write;
  }

  -- where the unit was not read
  pub unprepared : (result : Result ℕ StepError) → result ≡ Err Read → OnlyReads true old.device device
      → Prepares format old (record old { device = device; unit = unit }) result
  unprepared result is reads =
      subst (λ (r : Result ℕ StepError). Prepares format old (record old { device = device; unit = unit }) r) (sym is)
      (record { only = refl; size = size; reads = reads; error = λ err. refl; inside = tt; write = λ honest opened course session. tt })

-- an error that is passed on, which tells that a read failed
pub read_failed : {S T : Type 0} (given : Result S StepError) (result : Result T StepError) (error : StepError) → IsErrAnd result (λ e. e ≡ error)
    → given ≡ Err error → given ≡ Err Read → result ≡ Err Read
read_failed given result error passed was is = let told = err_from_is_err_and result passed in cc (told.1, told.2, was, is)

-- the marks of a write of the map are of places that a format takes
pub marks_inside : (format : Meaning) (old : Present) (course : Course) → IsDirectory format old.opening → IsSession format old course → (at : ℕ) (marks : List Mark) (rest : List Task)
    → old.tasks ≡ Map at marks ∷ rest → (places : ℕ) × format.Takes places × All (λ (mark : Mark). mark.place < places) marks
marks_inside format old course is session at marks rest next =
    let fits = (first_fits format old course session (Map at marks) rest next).0 in (
      old.opening.places,
      session.takes,
      λ i d within. ((is.available_of (slice_index_or marks i d).place).0 (fits.2 i d within).available).0,
    )
