-- A read at a place that can't be read.
use Rattle.std.proofs.Common.{◌≡◌, ℕ, true, refl, sym, subst, inr}
use Rattle.std.specs.Prelude.{Contains}
use Rattle.a2_device.specs.Device.{DeviceState, OnlyReads, counted}

pub failed_read : (old new : DeviceState) (place : ℕ) → Contains old.unreadable place → new ≡ record old { faults = counted old.faults } → OnlyReads true old new
failed_read old new place lacks is = subst (OnlyReads true old) (sym is) (record {
  same = record { places = refl; unit_size = refl; image = refl; honest = refl; unreadable = refl };
  faults = refl;
  kept = λ _ never. absurd (cc);
  met = λ _ _. (place, inr (lacks, refl));
})
