-- What an edit leaves of its device, put together.
use Rattle.std.specs.Prelude.{◌≡◌, ◌⊎◌, ℕ, true, false, List, [], ◌∷◌, Result, Ok, Err, IsTrue, IsErr, OnOk, if◌then◌else◌}
use Rattle.std.proofs.Common.{refl, sym, ◌∙◌, ap, subst, arith, inl, inr}
use Rattle.a2_device.specs.Device.{DeviceState, IsSameDevice, OnlyReads, counted, faults_after, written}
use Rattle.edit_formats.specs.declared.error.EditError.{EditError}
use Rattle.edit_formats.specs.declared.error.EditError.TheVariants.{Device}
use Rattle.edit_formats.specs.Refusal.{told_device}
use Rattle.vol_laws.specs.Writes.{Write}
use Rattle.edit_formats.specs.Writes.{HasEdited, StopsIn, RefusesWrite, device_after}

module _ {T : Type 0} (result : Result T EditError) (old new : DeviceState) where
  -- an edit after reads that all came
  pub edited_after : (IsEdit : List Write → Type 0) (mid : DeviceState) → OnlyReads false old mid → HasEdited IsEdit result mid new → HasEdited IsEdit result old new
  edited_after IsEdit mid reads edit = record {
    same = record {
      places = edit.same.places ∙ reads.same.places;
      unit_size = edit.same.unit_size ∙ reads.same.unit_size;
      image = edit.same.image ∙ reads.same.image;
      honest = edit.same.honest ∙ reads.same.honest;
      unreadable = edit.same.unreadable ∙ reads.same.unreadable;
    };
    faults = edit.faults ∙ ap (λ n. if told_device result then counted n else n) reads.faults;
    done = λ honest. subst (λ (d : DeviceState). OnOk result ((writes : List Write) × IsEdit writes × (new ≡ device_after writes d))) (kept honest) (edit.done (still honest));
    stopped = λ honest is.
        subst (λ (d : DeviceState). OnlyReads true d new ⊎ ((writes : List Write) × IsEdit writes × StopsIn writes d new)) (kept honest) (edit.stopped (still honest) is);
    refused = λ honest error is differs. edit.refused (still honest) error is differs ∙ kept honest;
  }
    where
      kept : IsTrue old.honest → mid ≡ old
      kept honest = reads.kept honest refl

      still : IsTrue old.honest → IsTrue mid.honest
      still honest = subst IsTrue (sym reads.same.honest) honest

  -- an edit by what else is known of its writes
  pub edited_as : (IsEdit IsOther : List Write → Type 0) → (IsTrue old.honest → (writes : List Write) → IsEdit writes → IsOther writes)
      → HasEdited IsEdit result old new → HasEdited IsOther result old new
  edited_as IsEdit IsOther follows edit = record {
    same = edit.same;
    faults = edit.faults;
    done = λ honest. by_result honest result (edit.done honest);
    stopped = λ honest is. by_cause honest (edit.stopped honest is);
    refused = edit.refused;
  }
    where
      by_result : IsTrue old.honest → (r : Result T EditError) → OnOk r ((writes : List Write) × IsEdit writes × (new ≡ device_after writes old))
          → OnOk r ((writes : List Write) × IsOther writes × (new ≡ device_after writes old))
      by_result honest (Ok x) done = (done.0, follows honest done.0 done.1, done.2)
      by_result honest (Err e) done = tt

      by_cause : IsTrue old.honest → OnlyReads true old new ⊎ ((writes : List Write) × IsEdit writes × StopsIn writes old new)
          → OnlyReads true old new ⊎ ((writes : List Write) × IsOther writes × StopsIn writes old new)
      by_cause honest (inl reads) = inl reads
      by_cause honest (inr stops) = inr (stops.0, follows honest stops.0 stops.1, stops.2)

-- the error that is told
abbrev error_in : {T : Type 0} → Result T EditError → EditError
error_in (Ok x) = Device
error_in (Err e) = e

-- an edit of one write
pub one_write : {T : Type 0} (place : ℕ) (unit : List ℕ) (result : Result T EditError) (old new : DeviceState) → IsSameDevice old new
    → new.faults ≡ faults_after result old.faults → (IsErr result → result ≡ Err Device)
    → (IsTrue old.honest → OnOk result (new ≡ written place unit old))
    → (IsTrue old.honest → IsErr result → RefusesWrite (record { place = place; unit = unit }) old new)
    → HasEdited (λ (writes : List Write). writes ≡ record { place = place; unit = unit } ∷ []) result old new
one_write place unit (Ok x) old new same faults error stands refused = record {
  same = same;
  faults = faults;
  done = λ honest. (record { place = place; unit = unit } ∷ [], refl, stands honest);
  stopped = λ honest is. absurd (cc);
  refused = λ honest other is differs. absurd (cc);
}
one_write {T} place unit (Err e) old new same faults error stands refused = record {
  same = same;
  faults = faults ∙ sym (ap (λ (r : Result T EditError). if told_device r then counted old.faults else old.faults) (error refl));
  done = λ honest. tt;
  stopped = λ honest is. inr (
    record { place = place; unit = unit } ∷ [],
    refl,
    record { made = 0; below = omega arith; refused = refused honest refl },
  );
  refused = λ honest other is differs. absurd (differs (sym (ap error_in is) ∙ ap error_in (error refl)));
}
