-- What an edit of one write leaves of the volume of an honest device.
use Rattle.std.specs.Prelude.{◌≡◌, ◌⊎◌, ◌<◌, ℕ, zero, suc, ◌+◌, Bool, true, false, List, [], ◌∷◌, slice_index_or, slice_set, take, Result, Ok, Err, IsTrue, OnOk, if◌then◌else◌}
use Rattle.std.proofs.Common.{refl, sym, ◌∙◌, ap, subst, arith, inl, inr}
use Rattle.a2_device.specs.Device.{DeviceState, OnlyReads, FailsRead, counted, written}
use Rattle.vol_format.specs.Meaning.{Meaning}
use Rattle.vol_format.specs.Files.{File}
use Rattle.edit_formats.specs.declared.error.EditError.{EditError}
use Rattle.edit_formats.specs.declared.error.EditError.TheVariants.{Device}
use Rattle.edit_formats.specs.Edited.{HasChanged, IsOldOrChanged}
use Rattle.vol_laws.specs.Writes.{Write}
use Rattle.edit_formats.specs.Writes.{HasEdited, StopsIn, RefusesWrite, device_after, no_write}

-- a read that failed leaves the store, and a write that was refused leaves the old unit or the new one
pub read_keeps : (old new : DeviceState) → IsTrue old.honest → OnlyReads true old new → new.store ≡ old.store
read_keeps old new honest reads = by_cause (reads.met honest refl).1
  where
    by_cause : FailsRead (reads.met honest refl).0 old new → new.store ≡ old.store
    by_cause (inl meets) = ap (λ (d : DeviceState). d.store) meets.1
    by_cause (inr unreadable) = ap (λ (d : DeviceState). d.store) unreadable.1

pub write_leaves : (write : Write) (old new : DeviceState) → RefusesWrite write old new
    → (new.store ≡ old.store) ⊎ (new.store ≡ slice_set old.store write.place write.unit)
write_leaves write old new (inl spent) = inl (ap (λ (d : DeviceState). d.store) spent.1)
write_leaves write old new (inr (inl meets)) = by_order meets.0 meets.3
  where
    by_order : (took : Bool) → new ≡ record (if took then written write.place write.unit old else (record old { writes = old.writes + 1; passes = new.passes })) {
      faults = counted old.faults;
      write_failures = new.write_failures;
    } → (new.store ≡ old.store) ⊎ (new.store ≡ slice_set old.store write.place write.unit)
    by_order true is = inr (ap (λ (d : DeviceState). d.store) is)
    by_order false is = inl (ap (λ (d : DeviceState). d.store) is)
write_leaves write old new (inr (inr closed)) = inl (ap (λ (d : DeviceState). d.store) closed.1)

-- the edit is one write, which changes the list of files so
abbrev pub IsOneChange : Meaning → (List File → List File) → List (List ℕ) → List Write → Type 0
IsOneChange format changed store writes =
    (write : Write) × (writes ≡ write ∷ []) × HasChanged format changed store (slice_set store write.place write.unit)

module _ (format : Meaning) (changed : List File → List File) (IsEdit : List Write → Type 0) (old new : DeviceState)
    (one_change : (writes : List Write) → IsEdit writes → IsOneChange format changed old.store writes) where
  pub done_changed : {T : Type 0} (result : Result T EditError) → IsTrue old.honest → HasEdited IsEdit result old new
      → OnOk result (HasChanged format changed old.store new.store)
  done_changed {T} result honest edit = by_result result (edit.done honest)
    where
      by_result : (r : Result T EditError) → OnOk r ((writes : List Write) × IsEdit writes × (new ≡ device_after writes old))
          → OnOk r (HasChanged format changed old.store new.store)
      by_result (Ok x) done =
          let one = one_change done.0 done.1 in
          subst (HasChanged format changed old.store) (sym (ap (λ (d : DeviceState). d.store) done.2 ∙ ap (λ (writes : List Write). (device_after writes old).store) one.1)) one.2
      by_result (Err e) done = tt

  pub stopped_changed : {T : Type 0} (result : Result T EditError) → IsTrue old.honest → HasEdited IsEdit result old new → result ≡ Err Device
      → IsOldOrChanged format changed old.store new.store
  stopped_changed result honest edit is = by_cause (edit.stopped honest is)
    where
      by_store : (write : Write) → HasChanged format changed old.store (slice_set old.store write.place write.unit)
          → (new.store ≡ old.store) ⊎ (new.store ≡ slice_set old.store write.place write.unit) → IsOldOrChanged format changed old.store new.store
      by_store write has (inl same) = inl same
      by_store write has (inr stands) = inr (subst (HasChanged format changed old.store) (sym stands) has)

      by_number : (write : Write) (made : ℕ) → made < 1 → RefusesWrite (slice_index_or (write ∷ []) made no_write) (device_after (take made (write ∷ [])) old) new
          → RefusesWrite write old new
      by_number write zero below refused = refused
      by_number write (suc made) below refused = absurd (omega (arith, below))

      by_cause : OnlyReads true old new ⊎ ((writes : List Write) × IsEdit writes × StopsIn writes old new) → IsOldOrChanged format changed old.store new.store
      by_cause (inl reads) = inl (read_keeps old new honest reads)
      by_cause (inr stops) =
          let one = one_change stops.0 stops.1 in
          let stopped : StopsIn (one.0 ∷ []) old new = subst (λ (writes : List Write). StopsIn writes old new) one.1 stops.2 in
          by_store one.0 one.2 (write_leaves one.0 old new (by_number one.0 stopped.made stopped.below stopped.refused))
