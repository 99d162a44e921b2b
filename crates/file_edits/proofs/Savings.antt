-- The writes of a new file, as those of a saving.
use Rattle.std.specs.Prelude.{◌≡◌, ◌<◌, ◌≤◌, ℕ, Bool, true, false, List, ◌++◌, length, map, take, slice_index, slice_index_or, All, Contains, IsTrue}
use Rattle.std.proofs.Common.{refl, sym, ◌∙◌, ap, subst, arith, inl, inr}
use Rattle.std.proofs.lemmas.Bool.{cases_lt}
use Rattle.std.proofs.lemmas.List.{append_assoc, get_or_default, take_all}
use Rattle.std.proofs.lemmas.List.Elements.{All-contains, All-from_get_or, Contains-get_or}
use Rattle.a2_device.specs.Device.{DeviceState}
use Rattle.vol_format.specs.Accepted.{IsAccepted}
use Rattle.vol_format.specs.Directory.{Directory, Listed, is_system, map_place}
use Rattle.vol_format.specs.Laws.{IsDirectory, IsReadable, IsMovable, IsWritable}
use Rattle.vol_format.specs.Meaning.{Meaning}
use Rattle.vol_laws.specs.Kept.{IsKept}
use Rattle.vol_laws.specs.Marked.{marked}
use Rattle.vol_laws.specs.Built.{Planned, place_of}
use Rattle.vol_laws.specs.Entered.{HasSameRest}
use Rattle.vol_laws.specs.Inserted.{inserted}
use Rattle.vol_laws.specs.Markings.{Marking, marking_of, marking_write, all_marks}
use Rattle.vol_laws.specs.Writes.{Write, store_after}
use Rattle.vol_laws.specs.Saving.{IsNewPlace, IsPlacing, IsPlannedPlace, IsSaving, unit_write, with_places}
use Rattle.vol_laws.proofs.SavedMarks.{marked_listed, marked_system}
use Rattle.vol_laws.proofs.Unsaved.{all_stands}
use Rattle.edit_formats.specs.declared.new_part.NewPart.{NewPart}
use Rattle.edit_formats.specs.Placed.{HavePlaces, HasPlaced}
use Rattle.edit_formats.specs.lemmas.Parts.{plan_place}
use Rattle.edit_formats.specs.declared.writes.Prepared.{Prepared}
use Rattle.edit_formats.specs.Erasing.{HasWholeUnits}
use Rattle.edit_formats.specs.Markings.{marked_in, AreMarked}
use Rattle.edit_formats.specs.Prepared.{write_of}
use Rattle.edit_formats.specs.Writes.{no_write}
use Rattle.edit_formats.proofs.MarkingWrites.{markings, markings_are, markings_rising, of_markings, marked_here, marking_each, marking_some}
use Rattle.edit_formats.specs.declared.target.Attributes.{Attributes}
use Rattle.edit_formats.specs.declared.target.Extent.{Extent}
use Rattle.edit_formats.specs.declared.target.Slot.{Slot}
use Rattle.edit_formats.specs.declared.target.Target.TheVariants.{At}
use Rattle.edit_formats.specs.Saves.{SaveMeaning, IsSavable, IsElsewhere, HasEntering}
use Rattle.file_edits.specs.Parts.{HasPartWrites}
use Rattle.file_edits.specs.Places.{first_places, free_places}
use Rattle.file_edits.specs.Saved.{IsSaveEdit, extent_of, new_places}
use Rattle.file_edits.proofs.Elsewhere.{elsewhere}
use Rattle.file_edits.proofs.NewPlaces.{are_new, are_inside, count_is, have_places}
use Rattle.file_edits.proofs.Plans.{planned, placed, same_writes, tables, bodies}

-- the marks of the places of a plan
module _ {A : Type 0} (format : Meaning) (directory : Directory) (places : List ℕ) (old : DeviceState) (start writes : List (Prepared A))
    (honest : IsTrue old.honest) (all : AreMarked format false directory places old start writes)
    (new : All (IsNewPlace directory) places) (inside : All (λ place. place < directory.places) places)
    (at : ℕ) (parts : List NewPart) (plan : List Planned) (has : HasPlaced at parts places plan) (size : length places ≡ length parts) where
  in_places : (k : ℕ) → k < length plan → Contains places (place_of plan k)
  in_places k within =
      subst (Contains places) (sym (plan_place at parts places plan has k (omega (arith, within, has.size))))
      (Contains-get_or places k 0 (omega (arith, within, has.size, size)))

  of_place : (place : ℕ) → Contains places place → (k : ℕ) × (k < length plan) × (place_of plan k ≡ place)
  of_place place mine = (
    mine.0,
    omega (arith, mine.1, has.size, size),
    plan_place at parts places plan has mine.0 (omega (arith, mine.1, size)) ∙ get_or_default places mine.0 0 place mine.1 ∙ mine.2,
  )

  planned_here : (n : ℕ) → All (IsPlannedPlace directory plan n) (marked_in directory n places)
  planned_here n i d within =
      let place = slice_index_or (marked_in directory n places) i d in
      let here = marked_here format false directory places old start writes honest all n i d within in
      record {
        inside = All-contains (λ p. p < directory.places) places place inside here.0;
        here = here.1;
        own = of_place place here.0;
      }

  pub placing : IsPlacing directory plan (markings format false directory places old start writes honest all)
  placing = record {
    new = λ k within. All-contains (IsNewPlace directory) places (place_of plan k) new (in_places k within);
    rising = markings_rising format false directory places old start writes honest all;
    own = of_markings format false directory places old start writes honest all (λ (m : Marking). All (IsPlannedPlace directory plan m.at) m.places)
        (λ i d within. planned_here (slice_index_or all.1.marked i d).place);
    some = marking_some format false directory places old start writes honest all;
    each = λ j within. marking_each format false directory places old start writes honest all (place_of plan j) (in_places j within);
  }

module _ {A : Type 0} (format : Meaning) (laws : IsReadable format) (movable : IsMovable format) (writable : IsWritable format)
    (saves : SaveMeaning) (savable : IsSavable format saves) (directory : Directory) (old : DeviceState)
    (path : List ℕ) (slot : Slot) (attributes : Attributes) (stored : List Bool) (text : List ℕ) (start made : List (Prepared A))
    (honest : IsTrue old.honest) (full : HasWholeUnits format old.store) (accepted : IsAccepted format directory old.store)
    (target : saves.IsTarget old.store path (At slot)) (short : saves.too_long attributes.eof (length stored) ≡ false) (date : length attributes.date.0 ≡ 4)
    (enough : length (saves.parts stored) ≤ length (free_places directory))
    (are : HasPartWrites saves format.unit_size (saves.parts stored) (new_places saves directory stored) stored text (length (saves.parts stored)) (map write_of start))
    (all : AreMarked format false directory (new_places saves directory stored) old start made) where
  abbrev parts : List NewPart
  parts = saves.parts stored

  abbrev places : List ℕ
  places = new_places saves directory stored

  abbrev extent : Extent
  extent = extent_of saves directory stored

  abbrev starts : List Write
  starts = map write_of start

  abbrev marks : List Marking
  marks = markings format false directory places old start made honest all

  abbrev system : List Write
  system = saves.entering old.store path slot attributes extent

  abbrev now : Directory
  now = marked directory (all_marks false marks)

  abbrev plan : ℕ → List Planned
  plan at = planned saves format.unit_size parts places stored text starts are at

  -- the units stand, and their places are marked used, whatever the number of the file
  abbrev base : List (List ℕ)
  base = store_after (map (marking_write format false old.store) marks) (store_after starts old.store)

  plan_same : (at : ℕ) → map unit_write (plan at) ≡ starts
  plan_same at = same_writes saves format.unit_size parts places stored text starts are at

  plan_placed : (at : ℕ) → HasPlaced at parts places (plan at)
  plan_placed at = placed saves format.unit_size parts places stored text starts are at

  base_is : (at : ℕ) → with_places format old.store (plan at) marks ≡ base
  base_is at = ap (λ (l : List Write). store_after (map (marking_write format false old.store) marks) (store_after l old.store)) (plan_same at)

  of_directory : IsDirectory format directory
  of_directory = movable.described old.store directory accepted.described

  count : length places ≡ length parts
  count = count_is directory (length parts) format of_directory enough

  same_count : directory.places ≡ length old.store
  same_count = laws.all_places old.store directory accepted.described

  have : HavePlaces (format.CanName (length old.store)) parts places
  have = have_places directory (length parts) format of_directory enough parts refl (length old.store) same_count

  plan_placing : (at : ℕ) → IsPlacing directory (plan at) marks
  plan_placing at =
      placing format directory places old start made honest all (are_new directory (length parts)) (are_inside directory (length parts) format of_directory)
      at parts (plan at) (plan_placed at) count

  kept : IsKept format directory now old.store base
  kept = subst (IsKept format directory now old.store) (base_is 0)
      (all_stands format laws movable writable directory (plan 0) old.store marks accepted full (plan_placing 0))

  -- no part stands in a unit of the system
  outside : All (λ (write : Write). is_system directory write.place ≡ false) starts
  outside = All-from_get_or (λ (write : Write). is_system directory write.place ≡ false) starts no_write (λ k within.
      let inside : k < length parts = omega (arith, within, are.count_is) in
      let has = (have_new k inside).available in
      ap (is_system directory) (are.each k inside).place ∙ ((of_directory.available_of (slice_index places k)).0 has).1)
    where
      have_new : (k : ℕ) → k < length parts → IsNewPlace directory (slice_index places k)
      have_new k inside = are_new directory (length parts) k 0 (omega (arith, inside, count))

  -- a place whose mark stands in a unit that is written
  of_mark : (k : ℕ) → k < length marks → (place : ℕ) × (place < directory.places) × (map_place directory place ≡ (marking_of marks k).at)
  of_mark k within =
      let first = (plan_placing 0).own k within 0 0 ((plan_placing 0).some k within) in
      (_, first.inside, first.here)

  is_elsewhere : IsElsewhere format directory old.store base
  is_elsewhere = elsewhere format directory old.store starts marks outside of_mark (λ k within.
      let mark = of_mark k within in
      subst (λ n. n < length old.store) mark.2 (subst (λ n. map_place directory mark.0 < n) same_count (of_directory.map_below mark.0 mark.1)))

  some : 0 < length parts
  some = savable.some stored short'
    where
      short' : saves.too_long 0 (length stored) ≡ false
      short' = savable.shorter attributes.eof (length stored) short

  entered : HasEntering format saves now old.store base path slot attributes extent
  entered = savable.enters old.store base directory now path slot attributes extent accepted.described full target short
      (length old.store, have.named 0 0 (omega (arith, some, count))) date kept.accepted.described is_elsewhere

  rest_before : (new : List (List ℕ)) → HasSameRest now base new → HasSameRest directory base new
  rest_before new rest = record {
    size = rest.size;
    units = λ place outside. rest.units place (ap (λ (l : List Bool). slice_index_or l place true) (marked_system (all_marks false marks) directory) ∙ outside);
  }

  module _ (writes : List Write) (is : writes ≡ map write_of made ++ system) where
    saved_writes : writes ≡ map unit_write (plan entered.at) ++ (map (marking_write format false old.store) marks ++ system)
    saved_writes =
        let marking = map (marking_write format false old.store) marks in
        is ∙ ap (λ (l : List Write). l ++ system) (markings_are format false directory places old start made honest all)
        ∙ append_assoc starts marking system
        ∙ ap (λ (l : List Write). l ++ (marking ++ system)) (sym (plan_same entered.at))

    saving : IsSaving format directory entered.at entered.entry (plan entered.at) old.store writes
    saving = record {
      within = subst (λ (l : List Listed). entered.at ≤ length l) (marked_listed (all_marks false marks) directory) entered.entering.within;
      built = savable.built (length old.store) entered.at old.store path slot attributes extent entered.entry stored places (plan entered.at)
          (savable.shorter attributes.eof (length stored) short) have (plan_placed entered.at)
          (tables saves format.unit_size parts places stored text starts are entered.at) refl entered.is refl
          (sym (plan_place entered.at parts places (plan entered.at) (plan_placed entered.at) 0 some));
      markings = marks;
      placing = plan_placing entered.at;
      system = system;
      are = saved_writes;
      enters = entered.entering.enters;
      described = λ n more inside. subst (λ (s : List (List ℕ)). format.Describes (store_after (take n system) s) (inserted now entered.at entered.entry))
          (sym (base_is entered.at)) (entered.entering.described n more inside);
      rest = λ n more inside. subst (λ (s : List (List ℕ)). HasSameRest directory s (store_after (take n system) s))
          (sym (base_is entered.at)) (rest_before (store_after (take n system) base) (entered.entering.rest n more inside));
    }

    pub save_edit : length writes < 18446744073709551616 → IsSaveEdit format saves old.store path attributes stored text writes
    unfolding saving
    save_edit few = record {
      directory = directory;
      accepted = accepted;
      slot = slot;
      target = target;
      short = short;
      enough = enough;
      at = entered.at;
      entry = entered.entry;
      is = entered.is;
      planned = plan entered.at;
      placed = plan_placed entered.at;
      tables = tables saves format.unit_size parts places stored text starts are entered.at;
      bodies = bodies saves format.unit_size parts places stored text starts are entered.at (saves.kept stored)
          (savable.units stored (savable.shorter attributes.eof (length stored) short));
      saving = saving;
      enters = refl;
      few = few;
    }

-- the same, of parts and places that are those of the file
module _ {A : Type 0} (format : Meaning) (laws : IsReadable format) (movable : IsMovable format) (writable : IsWritable format)
    (saves : SaveMeaning) (savable : IsSavable format saves) (directory : Directory) (old : DeviceState)
    (path : List ℕ) (slot : Slot) (attributes : Attributes) (stored : List Bool) (text : List ℕ) (made : List (Prepared A))
    (honest : IsTrue old.honest) (full : HasWholeUnits format old.store) (accepted : IsAccepted format directory old.store)
    (target : saves.IsTarget old.store path (At slot)) (short : saves.too_long attributes.eof (length stored) ≡ false) (date : length attributes.date.0 ≡ 4)
    (parts : List NewPart) (places : List ℕ) (same_parts : parts ≡ saves.parts stored) (same_places : places ≡ first_places directory (length parts))
    (count : length places ≡ length parts) where
  enough : length (saves.parts stored) ≤ length (free_places directory)
  enough = subst (λ (l : List NewPart). length l ≤ length (free_places directory)) same_parts (elim (cases_lt (length (free_places directory)) (length parts)) [
    | inl fewer ↦ omega (arith, fewer, count, ap length same_places, ap length (take_all (length parts) (free_places directory) (omega (arith, fewer))))
    | inr within ↦ within
  ])

  own_built : (start : List Write) → HasPartWrites saves format.unit_size parts places stored text (length parts) start
      → HasPartWrites saves format.unit_size (saves.parts stored) (new_places saves directory stored) stored text (length (saves.parts stored)) start
  own_built start built =
      subst (λ (l : List NewPart). HasPartWrites saves format.unit_size l (first_places directory (length l)) stored text (length l) start) same_parts
      (subst (λ (l : List ℕ). HasPartWrites saves format.unit_size parts l stored text (length parts) start) same_places built)

  own_marked : (start : List (Prepared A)) → AreMarked format false directory places old start made
      → AreMarked format false directory (new_places saves directory stored) old start made
  own_marked start marked =
      subst (λ (l : List NewPart). AreMarked format false directory (first_places directory (length l)) old start made) same_parts
      (subst (λ (l : List ℕ). AreMarked format false directory l old start made) same_places marked)

  own_extent : record { units = length stored; parts = length parts; first = slice_index places 0 } ≡ extent_of saves directory stored
  own_extent =
      let first : record { units = length stored; parts = length parts; first = slice_index places 0 }
      ≡ record { units = length stored; parts = length parts; first = slice_index (first_places directory (length parts)) 0 } =
      ap (λ (l : List ℕ). record { units = length stored; parts = length parts; first = slice_index l 0 }) same_places in
      let then : record { units = length stored; parts = length parts; first = slice_index (first_places directory (length parts)) 0 } ≡ extent_of saves directory stored =
      ap (λ (l : List NewPart). record { units = length stored; parts = length l; first = slice_index (first_places directory (length l)) 0 }) same_parts in
      first ∙ then

  pub made_edit : (start : List (Prepared A)) → HasPartWrites saves format.unit_size parts places stored text (length parts) (map write_of start)
      → AreMarked format false directory places old start made → (entering : List Write)
      → entering ≡ saves.entering old.store path slot attributes (record { units = length stored; parts = length parts; first = slice_index places 0 })
      → (writes : List Write) → writes ≡ map write_of made ++ entering → length writes < 18446744073709551616
      → IsSaveEdit format saves old.store path attributes stored text writes
  made_edit start built marked entering enters writes is few =
      save_edit format laws movable writable saves savable directory old path slot attributes stored text start made honest full accepted target short date enough
      (own_built (map write_of start) built) (own_marked start marked) writes
      (is ∙ ap (λ (l : List Write). map write_of made ++ l) (enters ∙ ap (saves.entering old.store path slot attributes) own_extent)) few
