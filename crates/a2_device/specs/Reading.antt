-- Runs of calls that read alone.
use Rattle.std.specs.Prelude.{ℕ, Bool, true, false, Result, Err, IsTrue, if◌then◌else◌}
use Rattle.std.proofs.Common.{refl, sym, ◌∙◌, ap, subst}
use Rattle.a2_device.specs.declared.fault.WalkError.{WalkError}
use Rattle.a2_device.specs.declared.fault.WalkError.TheVariants.{Device}
use Rattle.a2_device.specs.Device.{DeviceState, OnlyReads, FailsRead, counted}

-- whether a walk met a failure of the device
abbrev pub met_device : {T : Type 0} → Result T WalkError → Bool
met_device (Err Device) = true
met_device result = false

-- no call at all
pub unread : (device : DeviceState) → OnlyReads false device device
unread device = record {
  same = record { places = refl; unit_size = refl; image = refl; honest = refl; unreadable = refl };
  faults = refl;
  kept = λ _ _. refl;
  met = λ _ failed. cc;
}

-- one more
pub then_reads : (failed : Bool) (old mid new : DeviceState) → OnlyReads false old mid → OnlyReads failed mid new
    → OnlyReads failed old new
then_reads failed old mid new first next = record {
  same = record {
    places = next.same.places ∙ first.same.places;
    unit_size = next.same.unit_size ∙ first.same.unit_size;
    image = next.same.image ∙ first.same.image;
    honest = next.same.honest ∙ first.same.honest;
    unreadable = next.same.unreadable ∙ first.same.unreadable;
  };
  faults = next.faults ∙ ap (λ n. if failed then counted n else n) first.faults;
  kept = λ honest ok. next.kept (still honest) ok ∙ first.kept honest refl;
  met = λ honest failed'. subst (λ d. (place : ℕ) × FailsRead place d new) (first.kept honest refl)
      (next.met (still honest) failed');
}
  where
    still : IsTrue old.honest → IsTrue mid.honest
    still honest = subst IsTrue (sym first.same.honest) honest
