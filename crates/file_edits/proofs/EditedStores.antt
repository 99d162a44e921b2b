-- The store of an honest device after the writes of an edit, all of them or a front of them.
use Rattle.std.specs.Prelude.{◌≡◌, ◌⊎◌, ◌<◌, ◌+◌, ℕ, true, List, [], ◌∷◌, length, take, slice_index_or, slice_set, Result, Ok, Err, IsTrue, OnOk}
use Rattle.std.proofs.Common.{sym, ◌∙◌, ap, subst, inl, inr}
use Rattle.std.proofs.lemmas.List.{take_more}
use Rattle.a2_device.specs.Device.{DeviceState, OnlyReads}
use Rattle.vol_laws.specs.Writes.{Write, store_after}
use Rattle.vol_laws.proofs.Fronts.{after_both}
use Rattle.edit_formats.specs.declared.error.EditError.{EditError}
use Rattle.edit_formats.specs.declared.error.EditError.TheVariants.{Device}
use Rattle.edit_formats.specs.Writes.{HasEdited, StopsIn, device_after, no_write}
use Rattle.edit_formats.proofs.Changed.{read_keeps, write_leaves}
use Rattle.edit_formats.proofs.MadeDeletion.{store_of}

module _ (IsEdit : List Write → Type 0) (P : List (List ℕ) → Type 0) (old new : DeviceState) where
  -- what is true of the store after all writes
  pub store_done : {T : Type 0} → ((writes : List Write) → IsEdit writes → P (store_after writes old.store))
      → (result : Result T EditError) → IsTrue old.honest → HasEdited IsEdit result old new → OnOk result (P new.store)
  store_done {T} whole result honest edited = by_result result (edited.done honest)
    where
      by_result : (r : Result T EditError) → OnOk r ((writes : List Write) × IsEdit writes × (new ≡ device_after writes old)) → OnOk r (P new.store)
      by_result (Ok x) done = subst P (sym (ap (λ (d : DeviceState). d.store) done.2 ∙ store_of done.0 old)) (whole done.0 done.1)
      by_result (Err e) done = tt

  -- what is true of the store after each front of the writes
  pub store_stopped : {T : Type 0} → ((writes : List Write) → IsEdit writes → (n : ℕ) → P (store_after (take n writes) old.store))
      → (result : Result T EditError) → IsTrue old.honest → HasEdited IsEdit result old new → result ≡ Err Device → (new.store ≡ old.store) ⊎ P new.store
  store_stopped fronts result honest edited is = by_cause (edited.stopped honest is)
    where
      by_write : (writes : List Write) → IsEdit writes → (made : ℕ) → made < length writes
          → let write = slice_index_or writes made no_write in
          let before = device_after (take made writes) old in
          (new.store ≡ before.store) ⊎ (new.store ≡ slice_set before.store write.place write.unit) → P new.store
      by_write writes edit made below (inl same) = subst P (sym (same ∙ store_of (take made writes) old)) (fronts writes edit made)
      by_write writes edit made below (inr stands) =
          let write = slice_index_or writes made no_write in
          subst P
          (sym (stands ∙ ap (λ (s : List (List ℕ)). slice_set s write.place write.unit) (store_of (take made writes) old)
          ∙ sym (after_both (take made writes) (write ∷ []) old.store)
          ∙ ap (λ (l : List Write). store_after l old.store) (sym (take_more writes made no_write below))))
          (fronts writes edit (made + 1))

      by_cause : OnlyReads true old new ⊎ ((writes : List Write) × IsEdit writes × StopsIn writes old new) → (new.store ≡ old.store) ⊎ P new.store
      by_cause (inl reads) = inl (read_keeps old new honest reads)
      by_cause (inr stops) =
          let write = slice_index_or stops.0 stops.2.made no_write in
          inr (by_write stops.0 stops.1 stops.2.made stops.2.below (write_leaves write (device_after (take stops.2.made stops.0) old) new stops.2.refused))
