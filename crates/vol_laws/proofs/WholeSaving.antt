-- The writes that save a file, one after another.
use Rattle.std.specs.Prelude.{◌≡◌, ◌≢◌, ◌<◌, ◌≤◌, ◌+◌, ◌-◌, ℕ, Bool, true, false, List, length, map, take, ◌++◌, All, Contains, slice_index_or}
use Rattle.std.proofs.Common.{sym, ◌∙◌, ap, subst, arith, inl, inr}
use Rattle.std.proofs.Math.Seq.{take-append-add}
use Rattle.std.proofs.lemmas.Bool.{cases_lt}
use Rattle.std.proofs.lemmas.List.{length-append, length-map, take_all, take-append-le, get_or-map, get_or_default}
use Rattle.std.proofs.lemmas.List.Elements.{All-map}
use Rattle.a2_device.specs.Device.{unit_at}
use Rattle.vol_format.specs.Accepted.{IsAccepted}
use Rattle.vol_format.specs.Directory.{Directory, Listed, entries, is_free, is_system}
use Rattle.vol_format.specs.Laws.{IsReadable, IsMovable, IsWritable}
use Rattle.vol_format.specs.Meaning.{Meaning}
use Rattle.vol_format.specs.Standing.{IsLost}
use Rattle.vol_format.proofs.Frames.{same_places}
use Rattle.vol_format.specs.Files.{File, IsFiles, HasFiles}
use Rattle.vol_format.proofs.Kept.{files_kept}
use Rattle.vol_laws.specs.Kept.{IsKept}
use Rattle.vol_laws.specs.Marked.{marked}
use Rattle.vol_laws.specs.declared.mark.Mark.{Mark}
use Rattle.vol_laws.proofs.Losing.{kept_lost}
use Rattle.vol_laws.proofs.ReadBack.{others_stay, reads_back}
use Rattle.vol_laws.specs.Built.{Planned, no_plan, place_of, IsBuilt, AreHeld, AreLost, IsBodyOf, IsPlannedFile}
use Rattle.vol_laws.specs.EditLaws.{IsFileFree}
use Rattle.vol_laws.specs.Entered.{HasSameRest, HasEntered}
use Rattle.vol_laws.specs.Inserted.{inserted, insert_at, files_before}
use Rattle.vol_laws.proofs.NewFiles.{planned_entered, planned_listed, planned_lost}
use Rattle.vol_laws.specs.Deleted.{IsLostOn}
use Rattle.vol_laws.specs.Markings.{Marking, no_marking, mark_as, marking_write, all_marks}
use Rattle.vol_laws.specs.Writes.{Write, store_after}
use Rattle.vol_laws.proofs.Fronts.{after_both, unit_after}
use Rattle.vol_laws.proofs.Marking.{mark_of_place}
use Rattle.vol_laws.specs.Saved.{HasNothingSaved, HasFileSaved}
use Rattle.vol_laws.specs.Saving.{IsSaving, IsPlacing, places_of, unit_write, with_places, with_units}
use Rattle.vol_laws.proofs.SavedMarks.{marked_listed, marked_system, used_stays}
use Rattle.vol_laws.proofs.Units.{units_held}
use Rattle.vol_laws.proofs.Unsaved.{unreached, units_stand, marks_stand, map_unit, marks_planned, marks_of_use, lost_here, nothing_saved, all_stands}

module _ (format : Meaning) (laws : IsReadable format) (movable : IsMovable format) (writable : IsWritable format)
    (few : Directory) (at : ℕ) (entry : Listed) (planned : List Planned) (store : List (List ℕ)) (writes : List Write)
    (accepted : IsAccepted format few store) (full : (place : ℕ) → place < length store → length (unit_at store place) ≡ format.unit_size)
    (saving : IsSaving format few at entry planned store writes) where
  abbrev markings : List Marking
  markings = saving.markings

  abbrev placing : IsPlacing few planned markings
  placing = saving.placing

  abbrev system : List Write
  system = saving.system

  abbrev unit_writes : List Write
  unit_writes = map unit_write planned

  abbrev marking_writes : List Write
  marking_writes = map (marking_write format false store) markings

  abbrev units : List (List ℕ)
  units = with_units store planned

  abbrev base : List (List ℕ)
  base = with_places format store planned markings

  abbrev now : Directory
  now = marked few (all_marks false markings)

  how_many : length writes ≡ length unit_writes + (length marking_writes + length system)
  how_many = ap length saving.are ∙ length-append unit_writes (marking_writes ++ system) ∙ ap (λ n. length unit_writes + n) (length-append marking_writes system)

  -- before the entry
  pub stopped : (made : ℕ) → made + length system ≤ length writes → HasNothingSaved format (places_of planned) store (store_after (take made writes) store)
  stopped made below = elim (cases_lt (length unit_writes) made) [
    | inl above ↦
        let m = made - length unit_writes in
        let split : made ≡ length unit_writes + m = omega (arith, above) in
        let inside : m ≤ length marking_writes = omega (arith, below, how_many, split) in
        let same : take made writes ≡ unit_writes ++ take m marking_writes =
        ap (take made) saving.are ∙ ap (λ n. take n (unit_writes ++ (marking_writes ++ system))) split
        ∙ take-append-add unit_writes (marking_writes ++ system) m
        ∙ ap (λ (l : List Write). unit_writes ++ l) (take-append-le m marking_writes system inside) in
        subst (HasNothingSaved format (places_of planned) store)
        (sym (ap (λ (l : List Write). store_after l store) same ∙ after_both unit_writes (take m marking_writes) store))
        (nothing_saved format laws movable writable few planned store markings accepted full placing m (store_after (take m marking_writes) units)
        (marks_stand format laws movable writable few planned store markings accepted full placing m))
    | inr within ↦
        subst (λ (l : List Write). HasNothingSaved format (places_of planned) store (store_after l store))
        (sym (ap (take made) saving.are ∙ take-append-le made unit_writes (marking_writes ++ system) within))
        (nothing_saved format laws movable writable few planned store markings accepted full placing 0 (store_after (take made unit_writes) store)
        (units_stand format laws movable writable few planned store markings accepted full placing made))
  ]

  -- the units stand, and their places are marked used
  whole_list : take (length markings) markings ≡ markings
  whole_list = take_all (length markings) markings (omega arith)

  kept : IsKept format few now store base
  kept = all_stands format laws movable writable few planned store markings accepted full placing

  of_use : All (λ (mark : Mark). mark.free ≡ false) (all_marks false markings)
  of_use = subst (λ (l : List Marking). All (λ (mark : Mark). mark.free ≡ false) (all_marks false l)) whole_list
      (marks_of_use format laws movable writable few planned store markings accepted full placing (length markings))

  in_plan : All (λ (mark : Mark). Contains (places_of planned) mark.place) (all_marks false markings)
  in_plan = subst (λ (l : List Marking). All (λ (mark : Mark). Contains (places_of planned) mark.place) (all_marks false l)) whole_list
      (marks_planned format laws movable writable few planned store markings accepted full placing (length markings))

  both : {X : Type 0} {b : Bool} → b ≡ false → b ≡ true → X
  both e e' = absurd (cc)

  inside_few : (k : ℕ) → k < length planned → (place_of planned k < few.places) × (is_system few (place_of planned k) ≡ false)
  inside_few k inside = ((movable.described store few accepted.described).available_of (place_of planned k)).0 (placing.new k inside).available

  marked_now : (k : ℕ) → k < length planned → is_free now (place_of planned k) ≡ false
  marked_now k inside =
      let here = placing.each k inside in
      reads_back (mark_as false (place_of planned k)) (all_marks false markings) few
      (omega (arith, (inside_few k inside).0, writable.marks store few accepted.described))
      (mark_of_place false markings here.0 (place_of planned k) here.1 here.2)
      (λ i d below same. of_use i d below)

  lost : AreLost format now base planned
  lost k inside = (kept_lost format few now store base kept (place_of planned k)).1 (
    (placing.new k inside).available,
    marked_now k inside,
    unreached format laws movable writable few planned store markings accepted full placing k inside,
  )

  held : AreHeld base planned
  held k inside =
      unit_after marking_writes units (place_of planned k)
      (All-map (λ (write : Write). write.place ≢ place_of planned k) (marking_write format false store) markings apart)
      ∙ units_held planned store saving.built.once
      (λ j below. subst (λ n. place_of planned j < n) (laws.all_places store few accepted.described) (inside_few j below).0) k inside
    where
      apart : All (λ (marking : Marking). marking.at ≢ place_of planned k) markings
      apart i d below same = both (ap (is_system few) same ∙ outside) system_here
        where
          outside : is_system few (place_of planned k) ≡ false
          outside = (inside_few k inside).1

          system_here : is_system few (slice_index_or markings i d).at ≡ true
          system_here =
              ap (λ (marking : Marking). is_system few marking.at) (get_or_default markings i d no_marking below)
              ∙ map_unit format laws movable writable few planned store markings accepted full placing i below

  size : length base ≡ length store
  size = sym (laws.all_places base now kept.accepted.described) ∙ same_places few now kept.frame ∙ laws.all_places store few accepted.described

  -- once the entry is written
  module _ (file : File) (free : IsFileFree format) (path : file.path ≡ entry.path) (bytes : file.bytes ≡ entry.bytes) (body : IsBodyOf planned file.body)
      (new : List (List ℕ)) (rest : HasSameRest few base new) (described : format.Describes new (inserted now at entry)) where
    planned_file : IsPlannedFile format now base planned entry file
    planned_file = record {
      lost = lost;
      held = held;
      built = subst (λ n. IsBuilt format n planned entry.root) (sym size) saving.built;
      path = path;
      bytes = bytes;
      body = body;
    }

    within : at ≤ entries now
    within = subst (λ (l : List Listed). at ≤ length l) (sym (marked_listed (all_marks false markings) few)) saving.within

    rest_now : HasSameRest now base new
    rest_now = record {
      size = rest.size;
      units = λ place outside. rest.units place (ap (λ (l : List Bool). slice_index_or l place true) (sym (marked_system (all_marks false markings) few)) ∙ outside);
    }

    has_entered : HasEntered format now at entry base new
    has_entered = planned_entered format laws movable free now at entry base new planned file within kept.accepted rest_now described planned_file

    abbrev after : Directory
    after = inserted now at entry

    apart_from : (place : ℕ) → ((k : ℕ) → k < length planned → place_of planned k ≢ place) → All (λ (mark : Mark). mark.place ≢ place) (all_marks false markings)
    apart_from place none i d below same =
        let has = in_plan i d below in
        let k : has.0 < length planned = omega (arith, has.1, length-map planned (λ (plan : Planned). plan.part.place)) in
        none has.0 k (sym (get_or-map (λ (plan : Planned). plan.part.place) planned has.0 no_plan _ k) ∙ has.2 ∙ same)

    lost_then : (place : ℕ) → IsLostOn format new place → IsLostOn format store place
    lost_then place is =
        let here = subst (λ (d : Directory). IsLost format d new place) (laws.one_directory new is.0 after is.1.described has_entered.accepted.described) is.2 in
        let was = (planned_lost format laws movable free now at entry base new planned file within kept.accepted rest_now described planned_file place).0 here in
        let so = (kept_lost format few now store base kept place).0 was.0 in
        (few, accepted, record { available = so.0; marked = sym (others_stay (all_marks false markings) few place (apart_from place was.1)) ∙ so.1; unreached = so.2 })

    lost_still : (place : ℕ) → IsLostOn format store place → IsLostOn format new place
    lost_still place is =
        let was = lost_here format laws movable writable few planned store markings accepted full placing place is in
        let now_lost = (kept_lost format few now store base kept place).1
        (was.available, used_stays (all_marks false markings) few place of_use was.marked, was.unreached) in (
          after,
          has_entered.accepted,
          (planned_lost format laws movable free now at entry base new planned file within kept.accepted rest_now described planned_file place).1
              (now_lost, λ k inside same. both was.marked (ap (is_free few) (sym same) ∙ (placing.new k inside).free)),
        )

    file_saved : HasFileSaved format few at file store new
    file_saved = record {
      volume = (after, has_entered.accepted);
      files = λ all has. subst (λ n. HasFiles format new (insert_at n file all)) same_before
          (planned_listed format laws movable free now at entry base new planned file within kept.accepted rest_now described planned_file all (base_files all has));
      lost = λ place. (lost_then place, lost_still place);
    }
      where
        same_before : files_before now at ≡ files_before few at
        same_before = ap (λ (l : List Listed). files_before (record few { listed = l }) at) (marked_listed (all_marks false markings) few)

        base_files : (all : List File) → HasFiles format store all → HasFiles format base all
        base_files all has = record {
          directory = now;
          accepted = kept.accepted;
          are = files_kept format movable few now store base kept.frame kept.contents all
              (subst (λ (d : Directory). IsFiles format d store all) (laws.one_directory store has.directory few has.accepted.described accepted.described) has.are);
        }

  pub done : (file : File) → IsFileFree format → file.path ≡ entry.path → file.bytes ≡ entry.bytes → IsBodyOf planned file.body
      → (made : ℕ) → length writes < made + length system → made ≤ length writes → HasFileSaved format few at file store (store_after (take made writes) store)
  done file free path bytes body made above below =
      let n = made - (length unit_writes + length marking_writes) in
      let split : made ≡ length unit_writes + (length marking_writes + n) = omega (arith, above, how_many) in
      let some : 0 < n = omega (arith, above, how_many, split) in
      let inside : n ≤ length system = omega (arith, below, how_many, split) in
      let same : take made writes ≡ unit_writes ++ (marking_writes ++ take n system) =
      ap (take made) saving.are ∙ ap (λ k. take k (unit_writes ++ (marking_writes ++ system))) split
      ∙ take-append-add unit_writes (marking_writes ++ system) (length marking_writes + n)
      ∙ ap (λ (l : List Write). unit_writes ++ l) (take-append-add marking_writes system n) in
      subst (HasFileSaved format few at file store)
      (sym (ap (λ (l : List Write). store_after l store) same ∙ after_both unit_writes (marking_writes ++ take n system) store ∙ after_both marking_writes (take n system) units))
      (file_saved file free path bytes body (store_after (take n system) base) (saving.rest n some inside) (saving.described n some inside))
