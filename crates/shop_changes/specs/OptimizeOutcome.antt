-- What becomes of a volume that is optimized where it stands.
use Rattle.std.specs.Prelude.{◌≡◌, ℕ, Bool}
use Rattle.std.specs.declared.alloc.Global.{Global}
use Rattle.a2_device.specs.Device.{DeviceState}
use Rattle.vol_format.specs.Meaning.{Meaning}
use Rattle.vol_mover.specs.Failing.{CannotFail}
use Rattle.vol_mover.specs.Optimizing.{IsNoFailure, IsRefused}
use Rattle.vol_mover.specs.Report.{IsReported, IsStopped}
use Rattle.vol_mover.specs.declared.progress.StepError.{StepError}
use Rattle.vol_mover.specs.declared.report.OptError.{OptError}
use Rattle.vol_mover.specs.declared.report.OptError.TheVariants.{Open, Step, Memory}
use Rattle.shop_replies.specs.declared.refusal.Failure.TheVariants as failures
use Rattle.shop_replies.specs.declared.reply.Reply.{Reply}
use Rattle.shop_replies.specs.Reply.{failed}
use Rattle.shop_volumes.specs.Unopened.{TellsOpening}
use Rattle.shop_changes.specs.declared.outcome.Outcome.{Outcome}
use Rattle.shop_changes.specs.declared.outcome.Outcome.TheVariants.{Optimized, Changed, Stopped, Unfinished}

-- the reply to a volume that is not opened, and to want of memory; a step that failed has none
abbrev pub TellsError : {A : Type 0} → OptError A → Reply → Type 0
TellsError (Open error) reply = TellsOpening error reply
TellsError (Step error) reply = ⊥
TellsError Memory reply = reply ≡ failed failures.Memory

-- what an error becomes: `Stopped` where a step failed, else what its reply tells
abbrev pub EndsAs : {A : Type 0} → OptError A → Outcome → Type 0
EndsAs error (Optimized report) = ⊥
EndsAs error Changed = ⊥
EndsAs error Stopped = (step : StepError) × (error ≡ Step step)
EndsAs error (Unfinished reply) = TellsError error reply

-- The volume was optimized as the report says; or a step failed, and this stands; or the work was refused, as the reply
-- tells. Where nothing of the device can fail, no step does, and no failure of it is the cause of a refusal.
abbrev pub IsOptimizeOutcome : Bool → ℕ → Meaning → DeviceState → DeviceState → Outcome → Type 0
IsOptimizeOutcome reclaim limit format old new (Optimized report) =
    IsReported format (record { reclaim = reclaim }) limit old new report
IsOptimizeOutcome reclaim limit format old new Changed = ⊥
IsOptimizeOutcome reclaim limit format old new Stopped =
    (error : StepError) × IsStopped format (record { reclaim = reclaim }) limit old new error × (¬ CannotFail old)
IsOptimizeOutcome reclaim limit format old new (Unfinished reply) =
    (error : OptError Global) × IsRefused format (record { reclaim = reclaim }) limit old new error
    × TellsError error reply
    × (CannotFail old → IsNoFailure error)
