-- What the writes that make a directory leave of the volume.
use Rattle.std.specs.Prelude.{◌≡◌, ◌≢◌, ◌<◌, ◌≤◌, ℕ, zero, suc, Bool, true, false, List, [], ◌∷◌, length, take, slice_index_or, slice_set, All, Contains}
use Rattle.std.proofs.Common.{refl, sym, ◌∙◌, ap, subst, arith}
use Rattle.std.proofs.lemmas.List.{get_or-set_same, get_or-set_other}
use Rattle.a2_device.specs.Device.{unit_at}
use Rattle.a2_device.specs.declared.part.Part.{Part}
use Rattle.a2_device.specs.declared.part.PartKind.TheVariants.{Body}
use Rattle.vol_format.specs.Directory.{Directory, is_free, is_system, map_place, remapped}
use Rattle.vol_format.specs.Files.{File, HasFiles, IsFiles}
use Rattle.vol_format.specs.Laws.{IsDirectory, IsReadable, IsMovable, IsWritable}
use Rattle.vol_format.specs.Meaning.{Meaning}
use Rattle.vol_format.specs.Standing.{IsLost}
use Rattle.vol_format.proofs.Kept.{files_kept}
use Rattle.pro_format.specs.Pro.{pro_meaning}
use Rattle.pro_format.specs.lemmas.ProLaws.{pro_is_readable}
use Rattle.pro_format.specs.lemmas.ProMovable.{pro_is_movable}
use Rattle.pro_format.specs.lemmas.ProWritable.{pro_is_writable}
use Rattle.vol_laws.specs.Built.{Planned, place_of}
use Rattle.vol_laws.specs.Deleted.{IsLostOn}
use Rattle.vol_laws.specs.Kept.{IsKept, IsUnreached}
use Rattle.vol_laws.specs.Markings.{Marking, marking_of}
use Rattle.vol_laws.specs.Saved.{HasNothingSaved}
use Rattle.vol_laws.specs.Saving.{IsNewPlace, IsPlacing, IsPlannedPlace}
use Rattle.vol_laws.specs.Writes.{Write, store_after}
use Rattle.vol_laws.specs.Inserted.{shifted_part}
use Rattle.vol_laws.proofs.Marks.{other_mark}
use Rattle.vol_laws.proofs.Unsaved.{all_stands, lost_here, marks_stand, nothing_saved, units_stand, unreached}
use Rattle.pro_format.proofs.FileFree.{pro_is_file_free}
use Rattle.edit_formats.specs.Erasing.{HasWholeUnits}
use Rattle.edit_formats.specs.declared.target.Slot.{Slot}
use Rattle.edit_formats.specs.Saves.{IsElsewhere}
use Rattle.file_edits.proofs.Elsewhere.{elsewhere}
use Rattle.file_edits.proofs.NewPlaces.{are_new}
use Rattle.file_edits.specs.Making.{Making, making_writes, block_write, mark_write}
use Rattle.file_edits.specs.Made.{IsMaking, HasMade, HasNotMade}
use Rattle.file_edits.specs.NewDirectory.{directory_block, entering}
use Rattle.file_edits.specs.WithDirectory.{with_directory, HasNewDirectory}
use Rattle.file_edits.proofs.AvailableBlocks.{available_high}
use Rattle.file_edits.proofs.EnteredEntries.{IsEnteredBy, IsEnteredIn, entered_by}
use Rattle.file_edits.proofs.NewDirectories.{directory_made}

-- a place put to true in a table of places is true, past its end as well
set_true : (table : List Bool) (place : ℕ) → slice_index_or (slice_set table place true) place true ≡ true
set_true [] place = refl
set_true (first ∷ table) zero = refl
set_true (first ∷ table) (suc place) = set_true table place

both : {X : Type 0} {b : _} → b ≡ true → b ≡ false → X
both e e' = absurd (cc)

module _ (making : Making) (whole : HasWholeUnits (pro_meaning making.reserved) making.store) (writes : List Write) (edit : IsMaking making writes) where
  abbrev format : Meaning
  format = pro_meaning making.reserved

  abbrev store : List (List ℕ)
  store = making.store

  abbrev few : Directory
  few = edit.directory

  abbrev place : ℕ
  place = edit.place

  abbrev slot : Slot
  slot = edit.slot

  abbrev block : List ℕ
  block = directory_block making.path slot making.date

  laws : IsReadable format
  laws = pro_is_readable making.reserved

  movable : IsMovable format
  movable = pro_is_movable making.reserved

  writable : IsWritable format
  writable = pro_is_writable making.reserved

  -- the first free place
  new_place : IsNewPlace few place
  new_place = subst (All (IsNewPlace few)) edit.first (are_new few 1) 0 0 (omega arith)

  of_few : IsDirectory format few
  of_few = movable.described store few edit.accepted.described

  inside : place < few.places
  inside = ((of_few.available_of place).0 new_place.available).0

  outside : is_system few place ≡ false
  outside = ((of_few.available_of place).0 new_place.available).1

  same_count : few.places ≡ length store
  same_count = laws.all_places store few edit.accepted.described

  -- the new block as a unit that is planned, and the mark of its place
  abbrev planned : List Planned
  planned = record { part = record { file = 0; kind = Body; number = 0; place = place }; unit = block } ∷ []

  abbrev markings : List Marking
  markings = record { at = map_place few place; places = place ∷ [] } ∷ []

  only_new : (k : ℕ) → k < 1 → IsNewPlace few (place_of planned k)
  only_new zero within = new_place
  only_new (suc k) within = absurd (omega (arith, within))

  only_own : (k : ℕ) → k < 1 → All (IsPlannedPlace few planned (marking_of markings k).at) (marking_of markings k).places
  only_own zero within = own_place
    where
      own_place : All (IsPlannedPlace few planned (map_place few place)) (place ∷ [])
      own_place zero d within' = record { inside = inside; here = refl; own = (0, omega arith, refl) }
      own_place (suc i) d within' = absurd (omega (arith, within'))
  only_own (suc k) within = absurd (omega (arith, within))

  only_some : (k : ℕ) → k < 1 → 0 < length (marking_of markings k).places
  only_some zero within = omega arith
  only_some (suc k) within = absurd (omega (arith, within))

  only_each : (j : ℕ) → j < 1 → (k : ℕ) × (k < 1) × Contains (marking_of markings k).places (place_of planned j)
  only_each zero within = (0, omega arith, (0, omega arith, refl))
  only_each (suc j) within = absurd (omega (arith, within))

  placing : IsPlacing few planned markings
  placing = record {
    new = only_new;
    rising = λ j k less within. absurd (omega (arith, less, within));
    own = only_own;
    some = only_some;
    each = only_each;
  }

  -- the block stands and its place is marked
  abbrev base : List (List ℕ)
  base = store_after (block_write making slot place ∷ mark_write making few place ∷ []) store

  abbrev now : Directory
  now = remapped few place false

  kept : IsKept format few now store base
  kept = all_stands format laws movable writable few planned store markings edit.accepted whole placing

  unreached_now : IsUnreached format now base place
  unreached_now part reach = unreached format laws movable writable few planned store markings edit.accepted whole placing 0 (omega arith) part ((kept.parts part).1 reach)

  -- nothing of the entry stands
  nothing : (n : ℕ) → n ≤ 2 → HasNothingSaved format (place ∷ []) store (store_after (take n (making_writes making few slot place)) store)
  nothing zero below =
      nothing_saved format laws movable writable few planned store markings edit.accepted whole placing 0 store
      (units_stand format laws movable writable few planned store markings edit.accepted whole placing 0)
  nothing (suc zero) below =
      nothing_saved format laws movable writable few planned store markings edit.accepted whole placing 0 (store_after (block_write making slot place ∷ []) store)
      (units_stand format laws movable writable few planned store markings edit.accepted whole placing 1)
  nothing (suc (suc zero)) below =
      nothing_saved format laws movable writable few planned store markings edit.accepted whole placing 1 base
      (marks_stand format laws movable writable few planned store markings edit.accepted whole placing 1)
  nothing (suc (suc (suc n))) below = absurd (omega (arith, below))

  pub not_made : (n : ℕ) → n ≤ 2 → HasNotMade making (store_after (take n writes) store)
  not_made n below = record {
    directory = few;
    accepted = edit.accepted;
    unmade = subst (λ places. HasNothingSaved format places store (store_after (take n writes) store)) (sym edit.first)
        (subst (λ l. HasNothingSaved format (place ∷ []) store (store_after (take n l) store)) (sym edit.are) (nothing n below));
  }

  -- the map's unit is another one
  map_system : is_system few (map_place few place) ≡ true
  map_system = writable.map_inside store few place edit.accepted.described inside

  map_apart : place ≢ map_place few place
  map_apart same = both map_system (ap (is_system few) (sym same) ∙ outside)

  there : unit_at base place ≡ block
  there =
      get_or-set_other (slice_set store place block) (map_place few place) place (mark_write making few place).unit [] map_apart
      ∙ get_or-set_same store place block [] (omega (arith, inside, same_count))

  is_elsewhere : IsElsewhere format few store base
  is_elsewhere = elsewhere format few store (block_write making slot place ∷ []) markings starts marks below
    where
      starts : All (λ (write : Write). is_system few write.place ≡ false) (block_write making slot place ∷ [])
      starts zero d within = outside
      starts (suc i) d within = absurd (omega (arith, within))

      marks : (k : ℕ) → k < 1 → (other : ℕ) × (other < few.places) × (map_place few other ≡ (marking_of markings k).at)
      marks zero within = (place, inside, refl)
      marks (suc k) within = absurd (omega (arith, within))

      below : (k : ℕ) → k < 1 → (marking_of markings k).at < length store
      below zero within = subst (λ n. map_place few place < n) same_count (of_few.map_below place inside)
      below (suc k) within = absurd (omega (arith, within))

  by : IsEnteredBy making now slot place base (entering store making.path slot place making.date)
  by = entered_by making base few now slot place edit.accepted.described whole edit.target edit.dated kept.accepted.described is_elsewhere outside inside
      (available_high making.reserved store few edit.accepted.described place inside outside) (omega (arith, inside, same_count)) there

  abbrev after : Directory
  after = with_directory now by.at by.entry place

  module _ (new : List (List ℕ)) (entered : IsEnteredIn making now slot by.at by.entry place base new) where
    has : HasNewDirectory format now by.at by.entry place base new
    has = directory_made format laws movable (pro_is_file_free making.reserved) now by.at by.entry place base new by.within by.is.root_is
        kept.accepted unreached_now entered.rest entered.described

    files : (all : List File) → HasFiles format store all → HasFiles format new all
    files all is = record {
      directory = after;
      accepted = has.accepted;
      are = has.files all (files_kept format movable few now store base kept.frame kept.contents all
          (subst (λ (d : Directory). IsFiles format d store all) (laws.one_directory store is.directory few is.accepted.described edit.accepted.described) is.are));
    }

    of_after : IsDirectory format after
    of_after = movable.described new after entered.described

    -- another place is available as before, and marked as before
    available_was : (other : ℕ) → Contains after.available other → (other ≢ place) × Contains few.available other
    available_was other is =
        let at = (of_after.available_of other).0 is in
        let differ : other ≢ place = λ same. both (ap (λ p. slice_index_or after.system p true) same ∙ set_true few.system place) at.1 in
        (differ, (of_few.available_of other).1 (at.0, sym (get_or-set_other few.system place other true true differ) ∙ at.1))

    available_still : (other : ℕ) → other ≢ place → Contains few.available other → Contains after.available other
    available_still other differ is =
        let at = (of_few.available_of other).0 is in
        (of_after.available_of other).1 (at.0, get_or-set_other few.system place other true true differ ∙ at.1)

    lost_was : (other : ℕ) → IsLostOn format new other → IsLostOn format store other
    lost_was other lost =
        let here : IsLost format after new other = subst (λ (d : Directory). IsLost format d new other) (laws.one_directory new lost.0 after lost.1.described entered.described) lost.2 in
        let was = available_was other here.available in (
          few,
          edit.accepted,
          record {
            available = was.1;
            marked = sym (other_mark few place false other was.0) ∙ here.marked;
            unreached = λ part reach. here.unreached (shifted_part by.at part) (has.goes part ((kept.parts part).0 reach));
          },
        )

    lost_still : (other : ℕ) → IsLostOn format store other → IsLostOn format new other
    lost_still other lost =
        let here = lost_here format laws movable writable few planned store markings edit.accepted whole placing other lost in
        let differ : other ≢ place = λ same. both new_place.free (ap (is_free few) (sym same) ∙ here.marked) in (
          after,
          has.accepted,
          record {
            available = available_still other differ here.available;
            marked = other_mark few place false other differ ∙ here.marked;
            unreached = λ part reach same.
                let was = has.came part reach in
                here.unreached was.0 ((kept.parts was.0).1 was.1) (sym (ap (λ (p : Part). p.place) was.2) ∙ same);
          },
        )

    is_made : HasMade making new
    is_made = record {
      directory = few;
      accepted = edit.accepted;
      slot = slot;
      target = edit.target;
      place = place;
      first = edit.first;
      at = by.at;
      within = by.within;
      entry = by.entry;
      is = by.is;
      made = has.accepted;
      block = entered.block;
      empty = entered.empty;
      files = files;
      lost = λ other. (lost_was other, lost_still other);
    }

  -- the entry stands
  pub made : (n : ℕ) → 2 < n → n ≤ length writes → HasMade making (store_after (take n writes) store)
  made zero above below = absurd (omega (arith, above))
  made (suc zero) above below = absurd (omega (arith, above))
  made (suc (suc n)) above below =
      let rest = entering store making.path slot place making.date in
      let short : n ≤ length rest = omega (arith, below, ap length edit.are) in
      subst (λ l. HasMade making (store_after (take (suc (suc n)) l) store)) (sym edit.are)
      (is_made (store_after (take n rest) base) (by.entered n (omega (arith, above)) short))

  -- there are two writes before those of the entry, and one of the entry at least
  pub three_writes : 2 < length writes
  three_writes = omega (arith, by.some, ap length edit.are)
