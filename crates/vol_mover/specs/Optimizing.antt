-- How an optimizer ends.
use Rattle.std.specs.Prelude.{◌≡◌, ◌⊎◌, ◌↔◌, ◌<◌, ◌≤◌, ℕ, false, List, [], length, Err, IsTrue}
use Rattle.a2_device.specs.Device.{DeviceState, OnlyReads}
use Rattle.move_plan.specs.declared.answer.Plan.{Plan}
use Rattle.vol_format.specs.Meaning.{Meaning}
use Rattle.vol_mover.specs.Refused.{is_device_error, IsRefusal}
use Rattle.vol_mover.specs.declared.opening.Options.{Options}
use Rattle.vol_mover.specs.Tasks.{Task}
use Rattle.vol_mover.specs.Begun.{IsBegun}
use Rattle.vol_mover.specs.Present.{Present}
use Rattle.vol_mover.specs.Report.{IsStopped}
use Rattle.vol_mover.specs.Runs.{IsRun}
use Rattle.vol_mover.specs.Steps.{IsStep}
use Rattle.vol_mover.specs.declared.report.OptError.{OptError}
use Rattle.vol_mover.specs.declared.report.OptError.TheVariants.{Open, Step, Memory}
use Rattle.vol_mover.specs.declared.report.Report.{Report}

-- a session was run up to so many writes, and what is reported is what it shows
pub record HasWorked {A : Type 0} (format : Meaning) (limit : ℕ) (first : Present) (plan : Plan A) (text : List ℕ)
    (now : DeviceState) (report : Report A) : Type 0 where
  pub last : Present
  pub made : List Task
  pub run : IsRun format first last made
  pub within : length made ≤ limit
  pub all : (length made ≡ limit) ⊎ (last.tasks ≡ [])
  pub device : now ≡ last.device
  pub moves : report.moves ≡ last.moves
  pub map_writes : report.map_writes ≡ last.map_writes
  pub finished : IsTrue report.finished ↔ (last.tasks ≡ [])
  pub rings : report.rings ≡ length plan.rings.items
  pub misplaced : report.misplaced ≡ length plan.misplaced.items
  pub cert : report.cert.items ≡ text

-- a session was run until a step answered an error
abbrev pub StopsWork : {A : Type 0} → Meaning → ℕ → Present → DeviceState → OptError A → Type 0
StopsWork format limit first device (Step error) =
    (made : List Task) × (mid : Present) × (last : Present) × IsRun format first mid made × (length made < limit)
    × IsStep format mid last (Err error)
    × (device ≡ last.device)
StopsWork format limit first device error = ⊥

-- an error of which no device is the cause
abbrev pub IsNoFailure : {A : Type 0} → OptError A → Type 0
IsNoFailure (Open error) = is_device_error {T = Unit {0}} (Err error) ≡ false
IsNoFailure (Step error) = ⊥
IsNoFailure Memory = Unit {0}

-- The volume was not opened; or there was no room for the certificate, and the volume was opened, but nothing written;
-- or a step failed.
abbrev pub IsRefused : {A : Type 0} → Meaning → Options → ℕ → DeviceState → DeviceState → OptError A → Type 0
IsRefused format options limit old new (Open error) =
    OnlyReads (is_device_error {T = Unit {0}} (Err error)) old new
    × (IsTrue old.honest → IsRefusal format old.store options error)
IsRefused format options limit old new (Step error) = IsStopped format options limit old new error
IsRefused format options limit old new Memory =
    (first : Present) × IsBegun format options old first × (new ≡ first.device)
