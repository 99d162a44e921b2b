-- The plan of a new file, from the writes of its parts.
use Rattle.std.specs.Prelude.{◌≡◌, ◌<◌, ℕ, Bool, List, length, map, slice_index, slice_index_or}
use Rattle.std.proofs.Common.{refl, sym, ◌∙◌, ap, subst, arith}
use Rattle.std.proofs.lemmas.List.{ext_get_or, get_or-map, get_or_default, length-map}
use Rattle.std.proofs.lemmas.List.FromFn.{get_or-map-range_with_len}
use Rattle.a2_device.specs.declared.part.PartKind.TheVariants.{Body}
use Rattle.vol_laws.specs.Built.{Planned, no_plan, plan_of, place_of, unit_of}
use Rattle.vol_laws.specs.Writes.{Write}
use Rattle.vol_laws.specs.Saving.{unit_write, places_of}
use Rattle.edit_formats.specs.declared.new_part.NewPart.{NewPart}
use Rattle.edit_formats.specs.Order.{HasStored, part_at}
use Rattle.edit_formats.specs.Parts.{new_part}
use Rattle.edit_formats.specs.lemmas.Membership.{inside_file}
use Rattle.edit_formats.specs.Placed.{HasPlaced, HasBodyUnits, plan_with}
use Rattle.edit_formats.proofs.Bodies.{plan_placed, plan_unit}
use Rattle.edit_formats.specs.lemmas.Parts.{part_is, plan_place}
use Rattle.edit_formats.specs.Writes.{no_write}
use Rattle.edit_formats.specs.Saves.{SaveMeaning, HasTables}
use Rattle.file_edits.specs.Given.{given_unit, given_units}
use Rattle.file_edits.specs.Parts.{HasPartWrites}

-- a unit of the body is one of those that are kept
pub body_within : (kept : List Bool) (parts : List NewPart) → HasStored kept parts → (k : ℕ) → k < length parts → (part_at parts k).kind ≡ Body
    → (part_at parts k).number < length kept
body_within kept parts has k within body =
    let number = (part_at parts k).number in
    let same = part_is (part_at parts k) Body number body refl in
    inside_file kept number ((has number).0 (k, within, get_or_default parts k (new_part Body number) _ within ∙ same))

module _ (saves : SaveMeaning) (size : ℕ) (parts : List NewPart) (places : List ℕ) (stored : List Bool) (text : List ℕ) (writes : List Write)
    (are : HasPartWrites saves size parts places stored text (length parts) writes) (at : ℕ) where
  abbrev units : List (List ℕ)
  units = map (λ (write : Write). write.unit) writes

  abbrev pub planned : List Planned
  planned = plan_with at parts places units

  pub placed : HasPlaced at parts places planned
  placed = plan_placed at parts places units

  in_writes : (k : ℕ) → k < length parts → k < length writes
  in_writes k within = omega (arith, within, are.count_is)

  unit_is : (k : ℕ) → k < length parts → unit_of planned k ≡ (slice_index_or writes k no_write).unit
  unit_is k within = plan_unit at parts places units k within ∙ get_or-map (λ (write : Write). write.unit) writes k no_write _ (in_writes k within)

  place_is : (k : ℕ) → k < length parts → place_of planned k ≡ slice_index places k
  place_is k within = plan_place at parts places planned placed k within

  same_write : (k : ℕ) → k < length parts → unit_write (plan_of planned k) ≡ slice_index_or writes k no_write
  same_write k within =
      let write = slice_index_or writes k no_write in
      let first : unit_write (plan_of planned k) ≡ record { place = write.place; unit = unit_of planned k } =
      ap (λ n. record { place = n; unit = unit_of planned k }) (place_is k within ∙ sym (are.each k within).place) in
      let then : record { place = write.place; unit = unit_of planned k } ≡ write = ap (λ u. record { place = write.place; unit = u }) (unit_is k within) in
      first ∙ then

  -- whatever the number of the file
  pub same_writes : map unit_write planned ≡ writes
  same_writes =
      let size_is = length-map planned unit_write in
      ext_get_or no_write (map unit_write planned) writes (size_is ∙ placed.size ∙ sym are.count_is)
      (λ k within. get_or-map unit_write planned k no_plan no_write (omega (arith, within, size_is)) ∙ same_write k (omega (arith, within, size_is, placed.size)))

  pub tables : HasTables saves parts places planned
  tables k within table = subst (saves.IsTable parts places k) (sym (unit_is k within)) ((are.each k within).table table)

  pub bodies : (kept : List Bool) → HasStored kept parts → HasBodyUnits parts (given_units size stored text (length kept)) planned
  bodies kept has k within body =
      let number = (part_at parts k).number in
      unit_is k within ∙ (are.each k within).body body
      ∙ sym (get_or-map-range_with_len (given_unit size stored text) 0 (length kept) number number _ (body_within kept parts has k within body) (omega arith))

-- the places of a plan are those of its parts
pub planned_places : (at : ℕ) (parts : List NewPart) (places : List ℕ) (planned : List Planned) → HasPlaced at parts places planned → length places ≡ length parts
    → places_of planned ≡ places
planned_places at parts places planned has size =
    let place = λ (plan : Planned). plan.part.place in
    let size_is = length-map planned place in
    ext_get_or 0 (places_of planned) places (size_is ∙ has.size ∙ sym size)
    (λ k within. get_or-map place planned k no_plan 0 (omega (arith, within, size_is)) ∙ plan_place at parts places planned has k (omega (arith, within, size_is, has.size)))
