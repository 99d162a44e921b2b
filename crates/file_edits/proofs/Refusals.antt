-- What is told of a directory that is not made.
use Rattle.std.specs.Prelude.{◌≡◌, ◌⊎◌, ◌<◌, ℕ, List, [], ◌∷◌, length, slice_index_or, All, Result, Ok, Err, IfErr, IfOk}
use Rattle.std.proofs.Common.{refl, sym, ap, subst, arith, inl, inr}
use Rattle.a2_device.specs.Device.{DeviceState, OnlyReads}
use Rattle.a2_device.specs.Reading.{unread}
use Rattle.vol_format.specs.Accepted.{IsAccepted}
use Rattle.vol_format.specs.Directory.{Directory}
use Rattle.vol_format.specs.Laws.{IsDirectory}
use Rattle.vol_format.specs.Meaning.{Meaning}
use Rattle.pro_format.specs.Pro.{pro_meaning}
use Rattle.edit_formats.specs.declared.error.EditError.{EditError}
use Rattle.edit_formats.specs.declared.error.EditError.TheVariants.{Check, NotFound, Name, Exists, Locked, TooLong, DirFull, VolumeFull, Device, Memory}
use Rattle.edit_formats.specs.Refusal.{told_device}
use Rattle.edit_formats.specs.declared.target.Slot.{Slot}
use Rattle.edit_formats.specs.declared.target.Target.TheVariants.{NoDirectory, NoName, InUse, Full, At}
use Rattle.edit_formats.specs.ProSaves.{pro_saves, IsProTarget}
use Rattle.file_edits.specs.Places.{first_places, free_places}
use Rattle.file_edits.proofs.NewPlaces.{are_inside}
use Rattle.file_edits.specs.Making.{Making}
use Rattle.file_edits.specs.Made.{IsTold}
use Rattle.file_edits.specs.DirectorySlots.{IsPlaceRefusal, IsSlotRefusal, IsSlotTold}

pub if_err : {T E : Type 0} (result : Result T E) (P Q : E → Type 0) → ((error : E) → result ≡ Err error → P error → Q error) → IfErr result P → IfErr result Q
if_err (Ok x) P Q follows told = told
if_err (Err error) P Q follows told = follows error refl told

-- why there is no place
pub few_refusal : (error : EditError) → (error ≡ VolumeFull) ⊎ (error ≡ Memory) → IsPlaceRefusal error
few_refusal error (inl is) = subst IsPlaceRefusal (sym is) tt
few_refusal error (inr is) = subst IsPlaceRefusal (sym is) tt

-- and the device was not asked
pub few_reads : (T : Type 0) (error : EditError) → (error ≡ VolumeFull) ⊎ (error ≡ Memory) → (device : DeviceState) → OnlyReads (told_device {T = T} (Err error)) device device
few_reads T error (inl is) device = subst (λ e. OnlyReads (told_device {T = T} (Err e)) device device) (sym is) (unread device)
few_reads T error (inr is) device = subst (λ e. OnlyReads (told_device {T = T} (Err e)) device device) (sym is) (unread device)

module _ (making : Making) (directory : Directory) (accepted : IsAccepted (pro_meaning making.reserved) directory making.store) where
  pub slot_told : (error : EditError) → IsSlotRefusal error → IsSlotTold pro_saves making.store making.path (Err error) → IsTold making error
  slot_told Check is told = tt
  slot_told NotFound is told = record { directory = directory; accepted = accepted; target = NoDirectory; leads = told; is = refl }
  slot_told Name is told = record { directory = directory; accepted = accepted; target = NoName; leads = told; is = refl }
  slot_told Exists is told = record { directory = directory; accepted = accepted; target = InUse; leads = told; is = refl }
  slot_told Locked is told = tt
  slot_told TooLong is told = tt
  slot_told DirFull is told = record { directory = directory; accepted = accepted; target = Full; leads = told; is = refl }
  slot_told VolumeFull is told = absurd is
  slot_told Device is told = tt
  slot_told Memory is told = tt

  pub place_told : (slot : Slot) → IsProTarget making.store making.path (At slot) → (error : EditError) → IsPlaceRefusal error
      → (error ≡ VolumeFull → free_places directory ≡ []) → IsTold making error
  place_told slot target Check is full = tt
  place_told slot target NotFound is full = absurd is
  place_told slot target Name is full = absurd is
  place_told slot target Exists is full = absurd is
  place_told slot target Locked is full = tt
  place_told slot target TooLong is full = tt
  place_told slot target DirFull is full = absurd is
  place_told slot target VolumeFull is full = record { directory = directory; accepted = accepted; target = At slot; leads = target; is = ((slot, refl), full refl) }
  place_told slot target Device is full = tt
  place_told slot target Memory is full = tt

pub none_left : (directory : Directory) → length (free_places directory) < 1 → free_places directory ≡ []
none_left directory few = by_list (free_places directory) few
  where
    by_list : (places : List ℕ) → length places < 1 → places ≡ []
    by_list [] few' = refl
    by_list (place ∷ places) few' = absurd (omega (arith, few'))

abbrev pub error_in : {T : Type 0} → Result T EditError → EditError
error_in (Ok x) = Device
error_in (Err error) = error

pub if_ok_both : {T E : Type 0} (result : Result T E) (P Q R : T → Type 0) → ((value : T) → P value → Q value → R value) → IfOk result P → IfOk result Q → IfOk result R
if_ok_both (Ok x) P Q R follows one two = follows x one two
if_ok_both (Err error) P Q R follows one two = tt

-- one place
pub one_place : (items : List ℕ) (place : ℕ) → length items ≡ 1 → place ≡ slice_index_or items 0 place → items ≡ place ∷ []
one_place [] place size is = absurd (omega (arith, size))
one_place (first ∷ []) place size is = ap (λ p. p ∷ []) (sym is)
one_place (first ∷ second ∷ rest) place size is = absurd (omega (arith, size))

pub first_inside : (directory : Directory) (format : Meaning) → IsDirectory format directory → (place : ℕ) → first_places directory 1 ≡ place ∷ [] → place < directory.places
first_inside directory format is place first = subst (All (λ p. p < directory.places)) first (are_inside directory 1 format is) 0 0 (omega arith)
