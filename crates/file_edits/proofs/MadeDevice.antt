-- What making a directory leaves of the volume of an honest device.
use Rattle.std.specs.Prelude.{◌≡◌, ◌⊎◌, ◌<◌, ◌≤◌, ◌+◌, ℕ, true, List, [], ◌∷◌, length, take, slice_index_or, slice_set, Result, Ok, Err, IsTrue, OnOk}
use Rattle.std.proofs.Common.{sym, ◌∙◌, ap, subst, arith, inl, inr}
use Rattle.std.proofs.lemmas.Bool.{cases_lt}
use Rattle.std.proofs.lemmas.List.{take_all, take_more}
use Rattle.a2_device.specs.Device.{DeviceState, OnlyReads}
use Rattle.pro_format.specs.Pro.{pro_meaning}
use Rattle.vol_laws.specs.Writes.{Write, store_after}
use Rattle.vol_laws.proofs.Fronts.{after_both}
use Rattle.edit_formats.specs.declared.error.EditError.{EditError}
use Rattle.edit_formats.specs.declared.error.EditError.TheVariants.{Device}
use Rattle.edit_formats.specs.Erasing.{HasWholeUnits}
use Rattle.edit_formats.specs.Writes.{HasEdited, StopsIn, device_after, no_write}
use Rattle.edit_formats.proofs.Changed.{read_keeps, write_leaves}
use Rattle.edit_formats.proofs.MadeDeletion.{store_of}
use Rattle.file_edits.specs.Making.{Making}
use Rattle.file_edits.specs.Made.{IsMaking, HasMade, HasNotMade, IsOldOrMade}
use Rattle.file_edits.proofs.Made.{made, not_made, three_writes}

module _ (making : Making) (old new : DeviceState) (same : making.store ≡ old.store) (whole : HasWholeUnits (pro_meaning making.reserved) making.store) where
  -- the store is that after a front of the writes
  front : (writes : List Write) → IsMaking making writes → (n : ℕ) → n ≤ length writes → new.store ≡ store_after (take n writes) making.store → IsOldOrMade making new.store
  front writes edit n below is = elim (cases_lt 2 n) [
    | inl above ↦ inr (inr (subst (HasMade making) (sym is) (made making whole writes edit n above below)))
    | inr before ↦ inr (inl (subst (HasNotMade making) (sym is) (not_made making whole writes edit n (omega (arith, before)))))
  ]

  pub making_done : {T : Type 0} (result : Result T EditError) → IsTrue old.honest → HasEdited (IsMaking making) result old new → OnOk result (HasMade making new.store)
  making_done {T} result honest edited = by_result result (edited.done honest)
    where
      by_result : (r : Result T EditError) → OnOk r ((writes : List Write) × IsMaking making writes × (new ≡ device_after writes old)) → OnOk r (HasMade making new.store)
      by_result (Ok x) done =
          subst (HasMade making)
          (ap (λ (l : List Write). store_after l making.store) (take_all (length done.0) done.0 (omega arith)) ∙ ap (store_after done.0) same
          ∙ sym (ap (λ (d : DeviceState). d.store) done.2 ∙ store_of done.0 old))
          (made making whole done.0 done.1 (length done.0) (three_writes making whole done.0 done.1) (omega arith))
      by_result (Err e) done = tt

  pub making_stopped : {T : Type 0} (result : Result T EditError) → IsTrue old.honest → HasEdited (IsMaking making) result old new → result ≡ Err Device → IsOldOrMade making new.store
  making_stopped result honest edited is = by_cause (edited.stopped honest is)
    where
      by_write : (writes : List Write) → IsMaking making writes → (made : ℕ) → made < length writes
          → let write = slice_index_or writes made no_write in
          let before = device_after (take made writes) old in
          (new.store ≡ before.store) ⊎ (new.store ≡ slice_set before.store write.place write.unit)
          → IsOldOrMade making new.store
      by_write writes edit made below (inl is) =
          front writes edit made (omega (arith, below)) (is ∙ store_of (take made writes) old ∙ ap (store_after (take made writes)) (sym same))
      by_write writes edit made below (inr stands) =
          let write = slice_index_or writes made no_write in
          front writes edit (made + 1) (omega (arith, below))
          (stands ∙ ap (λ (s : List (List ℕ)). slice_set s write.place write.unit) (store_of (take made writes) old)
          ∙ sym (after_both (take made writes) (write ∷ []) old.store)
          ∙ ap (λ (l : List Write). store_after l old.store) (sym (take_more writes made no_write below))
          ∙ ap (store_after (take (made + 1) writes)) (sym same))

      by_cause : OnlyReads true old new ⊎ ((writes : List Write) × IsMaking making writes × StopsIn writes old new) → IsOldOrMade making new.store
      by_cause (inl reads) = inl (read_keeps old new honest reads ∙ sym same)
      by_cause (inr stops) =
          let write = slice_index_or stops.0 stops.2.made no_write in
          by_write stops.0 stops.1 stops.2.made stops.2.below
          (write_leaves write (device_after (take stops.2.made stops.0) old) new stops.2.refused)
