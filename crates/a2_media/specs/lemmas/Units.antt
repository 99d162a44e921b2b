-- The units of a file: each is there, and a write over one leaves the others.
use Rattle.std.proofs.Common.{◌≡◌, ◌≢◌, ◌∙◌, ◌⊎◌, ℕ, ◌+◌, ◌*◌, ◌<◌, ◌≤◌, ◌-◌, List, [], length, drop, sym, ap, subst, refl, arith, inl, inr, ⊎_elim, length-take, length-drop}
use Rattle.std.specs.Prelude.{true, false, slice_range, slice_set}
use Rattle.std.proofs.lemmas.Bool.{cases_order}
use Rattle.std.proofs.lemmas.List.FromFn.{get_or-map-range_with_len, length-map-range_with_len}
use Rattle.a2_image.specs.Lending.{written}
use Rattle.a2_image.proofs.LentSectors.{written_here, written_elsewhere}
use Rattle.a2_image.proofs.Sectors.{map_set}
use Rattle.a2_media.specs.declared.units.UnitKind.{UnitKind}
use Rattle.a2_media.specs.declared.units.UnitKind.TheVariants.{Sector, Block}
use Rattle.a2_device.specs.Device.{DeviceState, FailsWrite, IsWhole, counted, unit_at}
use Rattle.a2_device.specs.Device.{written as written_unit}
use Rattle.a2_media.specs.ImageDevice.{unit_bytes}
use Rattle.a2_media.specs.File.{FileState, after_write}
use Rattle.a2_media.specs.FileDevice.{file_device_state, file_unit, file_units}

module _ (size places : ℕ) (bytes : List ℕ) (fits : (k : ℕ) → k < places → size * k + size ≤ length bytes) where
  unit_here : (place : ℕ) → place < places → unit_at (file_units size places bytes) place ≡ file_unit size bytes place
  unit_here place within = get_or-map-range_with_len (file_unit size bytes) 0 places place place [] within (omega arith)

  unit_sized : (place : ℕ) → place < places → length (unit_at (file_units size places bytes) place) ≡ size
  unit_sized place within =
      let room = fits place within in
      ap length (unit_here place within)
      ∙ omega (arith, room, length-take (size * place + size - size * place) (drop (size * place) bytes), length-drop (size * place) bytes)

  -- one unit is written over
  unit_written : ((j k : ℕ) → j ≢ k → (size * j + size ≤ size * k) ⊎ (size * k + size ≤ size * j)) → (place : ℕ) (unit : List ℕ) → place < places → length unit ≡ size
      → file_units size places (written bytes (size * place) unit) ≡ slice_set (file_units size places bytes) place unit
  unit_written apart place unit within long =
      let room = fits place within in
      let all : size * place + length unit ≤ length bytes = omega (arith, room, long) in
      let end : size * place + size ≡ size * place + length unit = omega (arith, long) in
      map_set (file_unit size bytes) (file_unit size (written bytes (size * place) unit)) places place unit [] within
      (ap (slice_range (written bytes (size * place) unit) (size * place)) end ∙ written_here bytes (size * place) unit all)
      (λ k below differ. written_elsewhere bytes (size * place) unit all (size * k) (size * k + size) (omega arith)
      (⊎_elim (λ before. inl before) (λ behind. inr (omega (arith, behind, long))) (apart k place differ)))

-- the units of a file lie within it, and apart
fits_in : (kind : UnitKind) (places : ℕ) (bytes : List ℕ) → unit_bytes kind * places ≡ length bytes → (k : ℕ) → k < places → unit_bytes kind * k + unit_bytes kind ≤ length bytes
fits_in Sector places bytes long k within = omega (arith, long, within)
fits_in Block places bytes long k within = omega (arith, long, within)

stand_apart : (kind : UnitKind) (j k : ℕ) → j ≢ k → (unit_bytes kind * j + unit_bytes kind ≤ unit_bytes kind * k) ⊎ (unit_bytes kind * k + unit_bytes kind ≤ unit_bytes kind * j)
stand_apart Sector j k differ = ⊎_elim (λ same. absurd (differ same)) (λ order. ⊎_elim (λ less. inl (omega (arith, less))) (λ more. inr (omega (arith, more))) order) (cases_order j k)
stand_apart Block j k differ = ⊎_elim (λ same. absurd (differ same)) (λ order. ⊎_elim (λ less. inl (omega (arith, less))) (λ more. inr (omega (arith, more))) order) (cases_order j k)

pub whole_file : (kind : UnitKind) (places writes faults : ℕ) (file : FileState) → length file.bytes ≡ file.size → unit_bytes kind * places ≡ file.size
    → IsWhole (file_device_state kind places writes faults file)
whole_file kind places writes faults file whole long = record {
  all = length-map-range_with_len (file_unit (unit_bytes kind) file.bytes) 0 places;
  units = unit_sized (unit_bytes kind) places file.bytes (fits_in kind places file.bytes (long ∙ sym whole));
}

-- the store after a write of a unit
pub store_written : (kind : UnitKind) (places place : ℕ) (unit : List ℕ) (file : FileState) → length file.bytes ≡ file.size → unit_bytes kind * places ≡ file.size → place < places
    → length unit ≡ unit_bytes kind → file_units (unit_bytes kind) places (after_write (unit_bytes kind * place) unit file).bytes
    ≡ slice_set (file_units (unit_bytes kind) places file.bytes) place unit
store_written kind places place unit file whole long within sized =
    unit_written (unit_bytes kind) places file.bytes (fits_in kind places file.bytes (long ∙ sym whole)) (stand_apart kind) place unit within sized

-- the unit at a place
pub unit_of_file : (kind : UnitKind) (places place : ℕ) (bytes : List ℕ) → place < places
    → unit_at (file_units (unit_bytes kind) places bytes) place ≡ slice_range bytes (unit_bytes kind * place) (unit_bytes kind * place + unit_bytes kind)
unit_of_file kind places place bytes within = get_or-map-range_with_len (file_unit (unit_bytes kind) bytes) 0 places place place [] within (omega arith)

-- where a unit stands
place_first : (kind : UnitKind) (place position : ℕ) → position ≡ place * unit_bytes kind → position ≡ unit_bytes kind * place
place_first Sector place position is = omega (arith, is)
place_first Block place position is = omega (arith, is)

-- what is read there is the unit
pub read_at : (kind : UnitKind) (places place position count : ℕ) (bytes read : List ℕ) → place < places → position ≡ place * unit_bytes kind → count ≡ unit_bytes kind
    → read ≡ slice_range bytes position (position + count) → read ≡ unit_at (file_units (unit_bytes kind) places bytes) place
read_at kind places place position count bytes read within is counted reads =
    reads
    ∙ ap (λ p. slice_range bytes p (p + count)) (place_first kind place position is)
    ∙ ap (λ n. slice_range bytes (unit_bytes kind * place) (unit_bytes kind * place + n)) counted
    ∙ sym (unit_of_file kind places place bytes within)

module _ (kind : UnitKind) (places place position writes faults : ℕ) (unit : List ℕ) (old new : FileState) (whole : length old.bytes ≡ old.size)
    (long : unit_bytes kind * places ≡ old.size) (within : place < places) (sized : length unit ≡ unit_bytes kind) (is : position ≡ place * unit_bytes kind) where
  -- the device after a write that stands
  pub state_written : new ≡ after_write position unit old → file_device_state kind places (writes + 1) faults new ≡ written_unit place unit (file_device_state kind places writes faults old)
  state_written made =
      ap (λ (file : FileState). file_device_state kind places (writes + 1) faults file) (made ∙ ap (λ p. after_write p unit old) (place_first kind place position is))
      ∙ ap (λ (store : List (List ℕ)). record (file_device_state kind places (writes + 1) faults old) { store = store; standing = old.standing + 1 })
      (store_written kind places place unit old whole long within sized)

  -- and after one that failed
  pub state_failed : (device : DeviceState) → device ≡ record (file_device_state kind places (writes + 1) faults new) { faults = counted faults }
      → (new ≡ old) ⊎ (new ≡ after_write position unit old) → FailsWrite place unit (file_device_state kind places writes faults old) device
  state_failed device told made =
      subst (λ (d : DeviceState). FailsWrite place unit (file_device_state kind places writes faults old) d) (sym told) (elim made [
        | inl same ↦ subst (λ (file : FileState). FailsWrite place unit (file_device_state kind places writes faults old) (record (file_device_state kind places (writes + 1) faults file) { faults = counted faults }))
            (sym same) (inl (false, tt, inl refl, refl))
        | inr stands ↦ inl (true, tt, inl refl, ap (λ (d : DeviceState). record d { faults = counted faults }) (state_written stands))
      ])
