-- What stands before the entry is written: the units of a plan, and the marks of some of its places.
use Rattle.std.specs.Prelude.{◌≡◌, ◌≢◌, ◌<◌, ℕ, true, false, List, length, map, take, All, Contains}
use Rattle.std.proofs.Common.{refl, sym, ◌∙◌, ap, subst, arith, inl, inr}
use Rattle.std.proofs.lemmas.List.{length-map, take_all, get_or-map, get_or_default}
use Rattle.std.proofs.lemmas.List.Elements.{All-map, All-contains, Contains-get_or}
use Rattle.a2_device.specs.Device.{unit_at}
use Rattle.vol_format.specs.Accepted.{IsAccepted}
use Rattle.vol_format.specs.Directory.{Directory, Listed, is_free, is_system, map_place}
use Rattle.vol_format.specs.Laws.{IsReadable, IsMovable, IsWritable}
use Rattle.vol_format.specs.Meaning.{Meaning}
use Rattle.vol_format.specs.Standing.{IsLost}
use Rattle.vol_format.specs.Files.{IsFiles}
use Rattle.vol_format.proofs.Kept.{files_kept}
use Rattle.vol_laws.specs.Kept.{IsKept, IsUnreached}
use Rattle.vol_laws.specs.Marked.{CanMark, marked}
use Rattle.vol_laws.specs.declared.mark.Mark.{Mark}
use Rattle.vol_laws.proofs.Kept.{kept_then}
use Rattle.vol_laws.proofs.Losing.{kept_lost}
use Rattle.vol_laws.proofs.ReadBack.{others_stay}
use Rattle.vol_laws.specs.Built.{Planned, no_plan, place_of}
use Rattle.vol_laws.specs.Deleted.{IsLostOn}
use Rattle.vol_laws.specs.Markings.{Marking, marking_of, mark_as, marking_write, all_marks}
use Rattle.vol_laws.specs.Writes.{Write, store_after}
use Rattle.vol_laws.proofs.Fronts.{unit_after}
use Rattle.vol_laws.proofs.Marking.{all_of_marks, marked_or_not, CanMarkIn, markings_kept}
use Rattle.vol_laws.specs.Saved.{HasNothingSaved}
use Rattle.vol_laws.specs.Saving.{IsPlacing, places_of, unit_write, with_places, with_units}
use Rattle.vol_laws.proofs.SavedMarks.{used_stays}
use Rattle.vol_laws.proofs.Units.{units_kept}

module _ (format : Meaning) (laws : IsReadable format) (movable : IsMovable format) (writable : IsWritable format)
    (few : Directory) (planned : List Planned) (store : List (List ℕ)) (markings : List Marking)
    (accepted : IsAccepted format few store) (full : (place : ℕ) → place < length store → length (unit_at store place) ≡ format.unit_size)
    (placing : IsPlacing few planned markings) where
  abbrev marks : ℕ → List Mark
  marks m = all_marks false (take m markings)

  abbrev marking_writes : List Write
  marking_writes = map (marking_write format false store) markings

  abbrev units : List (List ℕ)
  units = with_units store planned

  both : {X : Type 0} {b : _} → b ≡ false → b ≡ true → X
  both e e' = absurd (cc)

  -- a new place is no part's
  pub unreached : (k : ℕ) → k < length planned → IsUnreached format few store (place_of planned k)
  unreached k inside part reach same =
      both (ap (is_free few) (sym same) ∙ (accepted.sound part reach).marked) (placing.new k inside).free

  pub units_stand : (m : ℕ) → IsKept format few few store (store_after (take m (map unit_write planned)) store)
  units_stand m = units_kept format movable few planned m store accepted (λ k inside. ((placing.new k inside).available, unreached k inside))

  whole_units : take (length planned) (map unit_write planned) ≡ map unit_write planned
  whole_units = take_all (length planned) (map unit_write planned) (omega (arith, length-map planned unit_write))

  pub all_units : IsKept format few few store units
  all_units = subst (λ (l : List Write). IsKept format few few store (store_after l store)) whole_units (units_stand (length planned))

  outside : (k : ℕ) → k < length planned → is_system few (place_of planned k) ≡ false
  outside k inside = (((movable.described store few accepted.described).available_of (place_of planned k)).0 (placing.new k inside).available).1

  -- the units of the map that are written
  at_mark : (k : ℕ) → k < length markings → (place : ℕ) × (place < few.places) × (map_place few place ≡ (marking_of markings k).at)
  at_mark k inside =
      let first = placing.own k inside 0 0 (placing.some k inside) in
      (_, first.inside, first.here)

  pub map_unit : (k : ℕ) → k < length markings → is_system few (marking_of markings k).at ≡ true
  map_unit k inside =
      let here = at_mark k inside in
      ap (is_system few) (sym here.2) ∙ writable.map_inside store few here.0 accepted.described here.1

  can_mark : (k : ℕ) → k < length markings → CanMarkIn format false few store units (marking_of markings k)
  can_mark k inside = record {
    inside =
        let here = at_mark k inside in
        subst (λ n. n < length store) here.2
        (subst (λ n. map_place few here.0 < n) (laws.all_places store few accepted.described) ((movable.described store few accepted.described).map_below here.0 here.1));
    same = unit_after (map unit_write planned) store (marking_of markings k).at (All-map (λ (write : Write). write.place ≢ (marking_of markings k).at) unit_write planned apart);
    marks = All-map (CanMark format few units (marking_of markings k).at) (mark_as false) (marking_of markings k).places
        (λ i d within. let own = placing.own k inside i d within in record { inside = own.inside; here = own.here; unreached = λ freed. both refl freed });
  }
    where
      apart : All (λ (plan : Planned). plan.part.place ≢ (marking_of markings k).at) planned
      apart i d below same =
          both (ap (λ (plan : Planned). is_system few plan.part.place) (get_or_default planned i d no_plan below) ∙ outside i below)
          (ap (is_system few) same ∙ map_unit k inside)

  pub marks_stand : (m : ℕ) → IsKept format few (marked few (marks m)) store (store_after (take m marking_writes) units)
  marks_stand m =
      kept_then format few few (marked few (marks m)) store units (store_after (take m marking_writes) units) all_units
      (markings_kept format laws movable writable false store full markings m few units all_units.accepted can_mark placing.rising)

  -- the places that are marked are the plan's
  pub marks_planned : (m : ℕ) → All (λ (mark : Mark). Contains (places_of planned) mark.place) (marks m)
  marks_planned m = all_of_marks false (λ (mark : Mark). Contains (places_of planned) mark.place) markings m
      (λ k inside i d within. in_plan (placing.own k inside i d within).own)
    where
      in_plan : {place : ℕ} → (k : ℕ) × (k < length planned) × (place_of planned k ≡ place) → Contains (places_of planned) place
      in_plan has =
          subst (Contains (places_of planned)) (get_or-map (λ (plan : Planned). plan.part.place) planned has.0 no_plan 0 has.1 ∙ has.2)
          (Contains-get_or (places_of planned) has.0 0 (omega (arith, has.1, length-map planned (λ (plan : Planned). plan.part.place))))

  pub marks_of_use : (m : ℕ) → All (λ (mark : Mark). mark.free ≡ false) (marks m)
  marks_of_use m = all_of_marks false (λ (mark : Mark). mark.free ≡ false) markings m (λ k inside i d within. refl)

  -- what is lost on the volume, in its one directory
  pub lost_here : (place : ℕ) → IsLostOn format store place → IsLost format few store place
  lost_here place lost = subst (λ (d : Directory). IsLost format d store place) (laws.one_directory store lost.0 few lost.1.described accepted.described) lost.2

  pub nothing_saved : (m : ℕ) (new : List (List ℕ)) → IsKept format few (marked few (marks m)) store new → HasNothingSaved format (places_of planned) store new
  nothing_saved m new kept = record {
    volume = (after, kept.accepted);
    files = λ all has. record {
      directory = after;
      accepted = kept.accepted;
      are = files_kept format movable few after store new kept.frame kept.contents all
          (subst (λ (d : Directory). IsFiles format d store all) (laws.one_directory store has.directory few has.accepted.described accepted.described) has.are);
    };
    still = λ place lost.
        let was = lost_here place lost in
        (after, kept.accepted, (kept_lost format few after store new kept place).1 (was.available, used_stays (marks m) few place (marks_of_use m) was.marked, was.unreached));
    lost = λ place lost.
        let so = (kept_lost format few after store new kept place).0
        (subst (λ (d : Directory). IsLost format d new place) (laws.one_directory new lost.0 after lost.1.described kept.accepted.described) lost.2) in
        elim (marked_or_not (marks m) place) [
          | inl has ↦ inr (subst (Contains (places_of planned)) has.2 (All-contains (λ (mark : Mark). Contains (places_of planned) mark.place) (marks m) has.0 (marks_planned m) has.1))
          | inr none ↦ inl (few, accepted, record { available = so.0; marked = sym (others_stay (marks m) few place none) ∙ so.1; unreached = so.2 })
        ];
  }
    where
      after : Directory
      after = marked few (marks m)

  pub all_stands : IsKept format few (marked few (all_marks false markings)) store (with_places format store planned markings)
  all_stands =
      subst (λ (l : List Write). IsKept format few (marked few (all_marks false markings)) store (store_after l units))
      (take_all (length markings) marking_writes (omega (arith, length-map markings (marking_write format false store))))
      (subst (λ (l : List Marking). IsKept format few (marked few (all_marks false l)) store (store_after (take (length markings) marking_writes) units))
      (take_all (length markings) markings (omega arith)) (marks_stand (length markings)))
