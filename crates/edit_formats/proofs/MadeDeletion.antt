-- What the writes of a deletion leave of the volume of an honest device.
use Rattle.std.specs.Prelude.{◌≡◌, ◌⊎◌, ◌<◌, ◌≤◌, ◌+◌, ℕ, zero, suc, true, List, [], ◌∷◌, length, take, slice_index_or, slice_set, Result, Ok, Err, IsTrue, OnOk}
use Rattle.std.proofs.Common.{refl, sym, ◌∙◌, ap, subst, arith, inl, inr}
use Rattle.std.proofs.lemmas.List.{take_more}
use Rattle.a2_device.specs.Device.{DeviceState, OnlyReads, written}
use Rattle.vol_format.specs.Laws.{IsReadable, IsMovable, IsWritable}
use Rattle.vol_format.specs.Meaning.{Meaning}
use Rattle.vol_laws.specs.EditLaws.{IsFileFree}
use Rattle.vol_laws.specs.Deleted.{HasEntryErased, HasFileDeleted}
use Rattle.vol_laws.specs.Lists.{IsFirst}
use Rattle.vol_laws.specs.Writes.{Write, store_after}
use Rattle.vol_laws.proofs.Fronts.{after_both}
use Rattle.vol_laws.proofs.WholeDeletion as whole
use Rattle.file_formats.specs.FileNames.{FileNameView}
use Rattle.file_formats.specs.Files.{FileMeaning}
use Rattle.edit_formats.specs.declared.error.EditError.{EditError}
use Rattle.edit_formats.specs.declared.error.EditError.TheVariants.{Device}
use Rattle.edit_formats.specs.Deleted.{IsDeleteEdit, IsOldOrErased}
use Rattle.edit_formats.specs.Edited.{HasChanged}
use Rattle.edit_formats.specs.Erasing.{EraseMeaning, HasWholeUnits}
use Rattle.edit_formats.specs.Lists.{without_named}
use Rattle.edit_formats.specs.Writes.{HasEdited, StopsIn, device_after, no_write}
use Rattle.edit_formats.proofs.Changed.{read_keeps, write_leaves}

-- the store of a device after some writes
pub store_of : (writes : List Write) (device : DeviceState) → (device_after writes device).store ≡ store_after writes device.store
store_of [] device = refl
store_of (write ∷ writes) device = store_of writes (written write.place write.unit device)

module _ (format : Meaning) (laws : IsReadable format) (movable : IsMovable format) (writable : IsWritable format) (free : IsFileFree format)
    (files : FileMeaning) (erasures : EraseMeaning) (name : FileNameView) (old new : DeviceState) (full : HasWholeUnits format old.store) where
  abbrev IsEdit : List Write → Type 0
  IsEdit writes = IsDeleteEdit format files erasures old.store name writes

  first_of : (writes : List Write) (edit : IsEdit writes) → IsFirst (files.matches name) edit.directory edit.file
  first_of writes edit = record { inside = edit.first.inside; named = edit.first.named; first = edit.first.first }

  pub deletion_done : {T : Type 0} (result : Result T EditError) → IsTrue old.honest → HasEdited IsEdit result old new
      → OnOk result (HasFileDeleted format (files.matches name) old.store new.store)
  deletion_done {T} result honest edited = by_result result (edited.done honest)
    where
      by_result : (r : Result T EditError) → OnOk r ((writes : List Write) × IsEdit writes × (new ≡ device_after writes old))
          → OnOk r (HasFileDeleted format (files.matches name) old.store new.store)
      by_result (Ok x) done =
          subst (HasFileDeleted format (files.matches name) old.store)
          (sym (ap (λ (d : DeviceState). d.store) done.2 ∙ store_of done.0 old))
          (whole.done format laws movable writable free (files.matches name) done.1.directory done.1.file old.store done.0 done.1.accepted full
          (first_of done.0 done.1) done.1.deletion)
      by_result (Err e) done = tt

  pub deletion_changed : {T : Type 0} (result : Result T EditError) → IsTrue old.honest → HasEdited IsEdit result old new
      → OnOk result (HasChanged format (without_named files name) old.store new.store)
  deletion_changed {T} result honest edited = by_result result (deletion_done result honest edited)
    where
      by_result : (r : Result T EditError) → OnOk r (HasFileDeleted format (files.matches name) old.store new.store) → OnOk r (HasChanged format (without_named files name) old.store new.store)
      by_result (Ok x) deleted = record { volume = deleted.volume; files = deleted.files; lost = deleted.lost }
      by_result (Err e) deleted = tt

  -- the store is that after a front of the writes
  front : (writes : List Write) → IsEdit writes → (n : ℕ) → n ≤ length writes → new.store ≡ store_after (take n writes) old.store
      → IsOldOrErased format files name old.store new.store
  front [] edit zero below same = inl same
  front (write ∷ writes) edit zero below same = inl same
  front writes edit (suc n) below same = inr (record {
    directory = edit.directory;
    accepted = edit.accepted;
    file = edit.file;
    first = edit.first;
    erased = subst (λ (s : List (List ℕ)). HasEntryErased format (files.matches name) edit.directory edit.file old.store s) (sym same)
        (whole.stopped format laws movable writable free (files.matches name) edit.directory edit.file old.store writes edit.accepted full
        (first_of writes edit) edit.deletion (suc n) (omega arith) below);
  })

  pub deletion_stopped : {T : Type 0} (result : Result T EditError) → IsTrue old.honest → HasEdited IsEdit result old new → result ≡ Err Device
      → IsOldOrErased format files name old.store new.store
  deletion_stopped result honest edited is = by_cause (edited.stopped honest is)
    where
      by_write : (writes : List Write) → IsEdit writes → (made : ℕ) → made < length writes
          → let write = slice_index_or writes made no_write in
          let before = device_after (take made writes) old in
          (new.store ≡ before.store) ⊎ (new.store ≡ slice_set before.store write.place write.unit)
          → IsOldOrErased format files name old.store new.store
      by_write writes edit made below (inl same) =
          front writes edit made (omega (arith, below)) (same ∙ store_of (take made writes) old)
      by_write writes edit made below (inr stands) =
          let write = slice_index_or writes made no_write in
          front writes edit (made + 1) (omega (arith, below))
          (stands ∙ ap (λ (s : List (List ℕ)). slice_set s write.place write.unit) (store_of (take made writes) old)
          ∙ sym (after_both (take made writes) (write ∷ []) old.store)
          ∙ ap (λ (l : List Write). store_after l old.store) (sym (take_more writes made no_write below)))

      by_cause : OnlyReads true old new ⊎ ((writes : List Write) × IsEdit writes × StopsIn writes old new) → IsOldOrErased format files name old.store new.store
      by_cause (inl reads) = inl (read_keeps old new honest reads)
      by_cause (inr stops) =
          let write = slice_index_or stops.0 stops.2.made no_write in
          by_write stops.0 stops.1 stops.2.made stops.2.below
          (write_leaves write (device_after (take stops.2.made stops.0) old) new stops.2.refused)
