-- What is pending while a file is walked over is the file's own, and so is a unit of it whose read fails.
use Rattle.std.specs.Prelude.{◌≡◌, ◌+◌, ℕ, List, [], ◌∷◌, ◌++◌, Contains}
use Rattle.std.proofs.Common.{arith, subst, sym}
use Rattle.a2_device.specs.Device.{DeviceState, FailsRead}
use Rattle.vol_format.specs.Directory.{Directory}
use Rattle.vol_format.specs.Meaning.{Meaning}
use Rattle.vol_check.specs.Failures.{FailsInFile, FailsNext}
use Rattle.vol_check.specs.Walk.{Lists}
use Rattle.vol_check.specs.Walking.{IsWalking, None}
use Rattle.vol_check.specs.declared.walk.Pending.{Pending}
use Rattle.vol_check.specs.declared.walk.Pending.TheVariants.{Visit, Tell}
use Rattle.vol_check.proofs.Pushed.{at_end}

pub fails_in_file : (format : Meaning) (directory : Directory) (file : ℕ) (start mid new : DeviceState) (walk : Lists) (rest : List Pending) (next : Pending)
    → mid ≡ start → IsWalking format directory start.store (file + 1) None walk → walk.pending ≡ rest ++ next ∷ [] → FailsNext next mid new
    → FailsInFile format directory start new file
fails_in_file format directory file start mid new walk rest (Visit part) kept walking top fails =
    let waits = subst (λ (pending : List Pending). Contains pending (Visit part)) (sym top) (at_end rest (Visit part)) in
    record {
      part = part;
      reached = walking.waiting part waits;
      in_file = omega (arith, walking.waiting_file part waits);
      failed = subst (λ (d : DeviceState). FailsRead part.place d new) kept fails;
    }
fails_in_file format directory file start mid new walk rest (Tell fault) kept walking top fails = absurd fails
