-- What the writes of a saving leave of the volume of an honest device.
use Rattle.std.specs.Prelude.{◌≡◌, ◌⊎◌, ◌<◌, ◌≤◌, ◌+◌, ℕ, Bool, true, List, [], ◌∷◌, length, take, slice_index_or, slice_set, Result, Ok, Err, IsTrue, OnOk}
use Rattle.std.proofs.Common.{refl, sym, ◌∙◌, ap, subst, arith, inl, inr}
use Rattle.std.proofs.lemmas.Bool.{cases_lt}
use Rattle.std.proofs.lemmas.List.{take_all, take_more}
use Rattle.a2_device.specs.Device.{DeviceState, OnlyReads}
use Rattle.vol_format.specs.Laws.{IsReadable, IsMovable, IsWritable}
use Rattle.vol_format.specs.Meaning.{Meaning}
use Rattle.vol_laws.specs.Built.{IsBodyOf}
use Rattle.vol_laws.specs.EditLaws.{IsFileFree}
use Rattle.vol_laws.specs.Writes.{Write, store_after}
use Rattle.vol_laws.proofs.Fronts.{after_both}
use Rattle.vol_laws.specs.Saved.{HasNothingSaved}
use Rattle.vol_laws.proofs.WholeSaving as whole
use Rattle.edit_formats.specs.Placed.{stored_units}
use Rattle.edit_formats.proofs.Bodies.{body_placed}
use Rattle.edit_formats.specs.declared.error.EditError.{EditError}
use Rattle.edit_formats.specs.declared.error.EditError.TheVariants.{Device}
use Rattle.edit_formats.specs.Erasing.{HasWholeUnits}
use Rattle.edit_formats.specs.Writes.{HasEdited, StopsIn, device_after, no_write}
use Rattle.edit_formats.proofs.Changed.{read_keeps, write_leaves}
use Rattle.edit_formats.proofs.MadeDeletion.{store_of}
use Rattle.edit_formats.specs.declared.target.Attributes.{Attributes}
use Rattle.edit_formats.specs.Saves.{SaveMeaning, IsSavable}
use Rattle.file_edits.specs.Saved.{IsSaveEdit, HasSaved, HasNotSaved, IsOldOrSaved, kept_units, new_places, saved_file}
use Rattle.file_edits.proofs.NewPlaces.{count_is}
use Rattle.file_edits.proofs.Plans.{planned_places}

module _ (format : Meaning) (laws : IsReadable format) (movable : IsMovable format) (writable : IsWritable format) (free : IsFileFree format)
    (saves : SaveMeaning) (savable : IsSavable format saves) (path : List ℕ) (attributes : Attributes) (stored : List Bool) (text : List ℕ)
    (old new : DeviceState) (full : HasWholeUnits format old.store) where
  abbrev IsEdit : List Write → Type 0
  IsEdit writes = IsSaveEdit format saves old.store path attributes stored text writes

  module _ (writes : List Write) (edit : IsEdit writes) where
    body : IsBodyOf edit.planned (stored_units (saves.kept stored) (kept_units format.unit_size saves stored text))
    body = body_placed edit.at (saves.kept stored) (kept_units format.unit_size saves stored text) (saves.parts stored) (new_places saves edit.directory stored) edit.planned
        (savable.units stored (savable.shorter attributes.eof (length stored) edit.short)) edit.placed edit.bodies

    -- once the entry is written
    saved : (made : ℕ) → length writes < made + length edit.saving.system → made ≤ length writes
        → HasSaved format saves path attributes stored text old.store (store_after (take made writes) old.store)
    saved made above below = record {
      directory = edit.directory;
      accepted = edit.accepted;
      slot = edit.slot;
      target = edit.target;
      at = edit.at;
      entry = edit.entry;
      is = edit.is;
      saved = whole.done format laws movable writable edit.directory edit.at edit.entry edit.planned old.store writes edit.accepted full edit.saving
          (saved_file format.unit_size saves stored text edit.entry) free refl refl body made above below;
    }

    -- before it
    not_saved : (made : ℕ) → made + length edit.saving.system ≤ length writes → HasNotSaved format saves stored old.store (store_after (take made writes) old.store)
    not_saved made below = record {
      directory = edit.directory;
      accepted = edit.accepted;
      unsaved = subst (λ (places : List ℕ). HasNothingSaved format places old.store (store_after (take made writes) old.store))
          (planned_places edit.at (saves.parts stored) (new_places saves edit.directory stored) edit.planned edit.placed
          (count_is edit.directory (length (saves.parts stored)) format (movable.described old.store edit.directory edit.accepted.described) edit.enough))
          (whole.stopped format laws movable writable edit.directory edit.at edit.entry edit.planned old.store writes edit.accepted full edit.saving made below);
    }

    -- the store is that after a front of the writes
    front : (n : ℕ) → n ≤ length writes → new.store ≡ store_after (take n writes) old.store → IsOldOrSaved format saves path attributes stored text old.store new.store
    front n below same = elim (cases_lt (length writes) (n + length edit.saving.system)) [
      | inl above ↦ inr (inr (subst (HasSaved format saves path attributes stored text old.store) (sym same) (saved n above below)))
      | inr before ↦ inr (inl (subst (HasNotSaved format saves stored old.store) (sym same) (not_saved n before)))
    ]

  pub saving_done : {T : Type 0} (result : Result T EditError) → IsTrue old.honest → HasEdited IsEdit result old new
      → OnOk result (HasSaved format saves path attributes stored text old.store new.store)
  saving_done {T} result honest edited = by_result result (edited.done honest)
    where
      by_result : (r : Result T EditError) → OnOk r ((writes : List Write) × IsEdit writes × (new ≡ device_after writes old))
          → OnOk r (HasSaved format saves path attributes stored text old.store new.store)
      by_result (Ok x) done =
          subst (HasSaved format saves path attributes stored text old.store)
          (ap (λ (l : List Write). store_after l old.store) (take_all (length done.0) done.0 (omega arith))
          ∙ sym (ap (λ (d : DeviceState). d.store) done.2 ∙ store_of done.0 old))
          (saved done.0 done.1 (length done.0) (omega (arith, done.1.saving.enters)) (omega arith))
      by_result (Err e) done = tt

  pub saving_stopped : {T : Type 0} (result : Result T EditError) → IsTrue old.honest → HasEdited IsEdit result old new → result ≡ Err Device
      → IsOldOrSaved format saves path attributes stored text old.store new.store
  saving_stopped result honest edited is = by_cause (edited.stopped honest is)
    where
      by_write : (writes : List Write) → IsEdit writes → (made : ℕ) → made < length writes
          → let write = slice_index_or writes made no_write in
          let before = device_after (take made writes) old in
          (new.store ≡ before.store) ⊎ (new.store ≡ slice_set before.store write.place write.unit)
          → IsOldOrSaved format saves path attributes stored text old.store new.store
      by_write writes edit made below (inl same) =
          front writes edit made (omega (arith, below)) (same ∙ store_of (take made writes) old)
      by_write writes edit made below (inr stands) =
          let write = slice_index_or writes made no_write in
          front writes edit (made + 1) (omega (arith, below))
          (stands ∙ ap (λ (s : List (List ℕ)). slice_set s write.place write.unit) (store_of (take made writes) old)
          ∙ sym (after_both (take made writes) (write ∷ []) old.store)
          ∙ ap (λ (l : List Write). store_after l old.store) (sym (take_more writes made no_write below)))

      by_cause : OnlyReads true old new ⊎ ((writes : List Write) × IsEdit writes × StopsIn writes old new)
          → IsOldOrSaved format saves path attributes stored text old.store new.store
      by_cause (inl reads) = inl (read_keeps old new honest reads)
      by_cause (inr stops) =
          let write = slice_index_or stops.0 stops.2.made no_write in
          by_write stops.0 stops.1 stops.2.made stops.2.below
          (write_leaves write (device_after (take stops.2.made stops.0) old) new stops.2.refused)
