-- What the writes that mark lost places free leave of a volume.
use Rattle.std.specs.Prelude.{◌≡◌, ◌≢◌, ◌⊎◌, ◌<◌, ℕ, suc, Bool, true, false, List, [], ◌∷◌, length, map, take, slice_index_or, slice_set, All, Result, Err, IsTrue, OnOk}
use Rattle.std.proofs.Common.{refl, sym, ◌∙◌, ap, subst, arith, inl, inr}
use Rattle.std.proofs.lemmas.Bool.{cases_Bool, cases_eq}
use Rattle.std.proofs.lemmas.List.{get_or-set_other, get_or-set_same, length-map, length-set, take_all}
use Rattle.std.proofs.lemmas.List.Elements.{All-contains, All-contains_itself, All-from_get_or, All-map, All-take}
use Rattle.a2_device.specs.Device.{DeviceState, unit_at}
use Rattle.a2_device.specs.declared.part.Part.{Part}
use Rattle.vol_format.specs.Accepted.{IsAccepted}
use Rattle.vol_format.specs.Directory.{Directory, is_free, map_place, IsSameFrame}
use Rattle.vol_format.specs.Files.{KeepsFiles}
use Rattle.vol_format.specs.Laws.{IsReadable, IsMovable, IsWritable}
use Rattle.vol_format.specs.Layout.{HasLayout}
use Rattle.vol_format.specs.Meaning.{Meaning}
use Rattle.vol_format.specs.Reach.{IsPartsOf, SameContents}
use Rattle.vol_format.specs.Standing.{IsLost, index_in, layout_of}
use Rattle.vol_format.proofs.Frames.{same_available}
use Rattle.vol_format.proofs.Kept.{same_files}
use Rattle.vol_laws.specs.Deleted.{IsLostOn}
use Rattle.vol_laws.specs.Kept.{IsKept}
use Rattle.vol_laws.specs.Marked.{CanMark, marked, with_marks}
use Rattle.vol_laws.specs.Markings.{Marking, no_marking, marking_of, mark_as, marking_write, all_marks}
use Rattle.vol_laws.specs.System.{SameSystem}
use Rattle.vol_laws.specs.Writes.{Write, store_after}
use Rattle.vol_laws.specs.declared.mark.Mark.{Mark}
use Rattle.vol_laws.proofs.Fronts.{unit_after}
use Rattle.vol_laws.proofs.Losing.{kept_lost}
use Rattle.vol_laws.proofs.Marking.{all_of_marks, mark_of_place, marked_or_not, CanMarkIn, markings_kept}
use Rattle.vol_laws.proofs.ReadBack.{others_stay, reads_back}
use Rattle.edit_formats.specs.declared.error.EditError.{EditError}
use Rattle.edit_formats.specs.declared.error.EditError.TheVariants.{Device}
use Rattle.edit_formats.specs.Erasing.{HasWholeUnits}
use Rattle.edit_formats.specs.Writes.{HasEdited}
use Rattle.file_edits.specs.Reclaimed.{IsLostHere, IsReclaiming, IsReclaimEdit, IsFreeOn, HasLostMark, IsPartlyReclaimed, HasReclaimed, IsOldOrReclaimed}
use Rattle.file_edits.proofs.EditedStores.{store_done, store_stopped}
use Rattle.file_edits.proofs.Elsewhere.{same_length}

both : {X : Type 0} {b : Bool} → b ≡ false → b ≡ true → X
both e e' = absurd (cc)

-- some lost places are marked free
module _ (format : Meaning) (laws : IsReadable format) (movable : IsMovable format) (directory : Directory) (store new : List (List ℕ)) (marks : List Mark)
    (accepted : IsAccepted format directory store) (kept : IsKept format directory (marked directory marks) store new)
    (own : All (λ (mark : Mark). IsLost format directory store mark.place) marks) where
  abbrev after : Directory
  after = marked directory marks

  only_old : (d : Directory) → IsAccepted format d store → d ≡ directory
  only_old d is = laws.one_directory store d directory is.described accepted.described

  only_new : (d : Directory) → IsAccepted format d new → d ≡ after
  only_new d is = laws.one_directory new d after is.described kept.accepted.described

  pub lost_after : (place : ℕ) → IsLostOn format new place → IsLost format after new place
  lost_after place lost = subst (λ (d : Directory). IsLost format d new place) (only_new lost.0 lost.1) lost.2

  lost_here : (place : ℕ) → IsLostOn format store place → IsLost format directory store place
  lost_here place lost = subst (λ (d : Directory). IsLost format d store place) (only_old lost.0 lost.1) lost.2

  pub lost_before : (place : ℕ) → IsLost format after new place → IsLost format directory store place
  lost_before place lost =
      let so = (kept_lost format directory after store new kept place).0 lost in
      elim (marked_or_not marks place) [
        | inl has ↦ subst (IsLost format directory store) has.2 (All-contains (λ (mark : Mark). IsLost format directory store mark.place) marks has.0 own has.1)
        | inr none ↦ record { available = so.0; marked = sym (others_stay marks directory place none) ∙ so.1; unreached = so.2 }
      ]

  -- the files and the layout
  keeps : KeepsFiles format store new
  keeps before now was is =
      subst (λ (d : Directory). SameContents format d now store new × IsSameFrame d now) (laws.one_directory store directory before accepted.described was)
      (subst (λ (d : Directory). SameContents format directory d store new × IsSameFrame directory d) (laws.one_directory new after now kept.accepted.described is)
      (kept.contents, kept.frame))

  same_layout : (parts : List Part) → layout_of after parts ≡ layout_of directory parts
  same_layout parts = ap (λ (places : List ℕ). map (λ (part : Part). index_in places part.place) parts) (same_available directory after kept.frame)

  layout_after : (at : List ℕ) → HasLayout format store at → HasLayout format new at
  layout_after at has =
      let here = only_old has.directory has.accepted in
      let are : IsPartsOf format directory store has.parts = subst (λ (d : Directory). IsPartsOf format d store has.parts) here has.are_parts in
      record {
        directory = after;
        accepted = kept.accepted;
        parts = has.parts;
        are_parts = record {
          members = λ part. (λ has'. (kept.parts part).0 ((are.members part).0 has'), λ reach. (are.members part).1 ((kept.parts part).1 reach));
          ordered = are.ordered;
        };
        is = has.is ∙ ap (λ (d : Directory). layout_of d has.parts) here ∙ sym (same_layout has.parts);
      }

  layout_before : (at : List ℕ) → HasLayout format new at → HasLayout format store at
  layout_before at has =
      let here = only_new has.directory has.accepted in
      let are : IsPartsOf format after new has.parts = subst (λ (d : Directory). IsPartsOf format d new has.parts) here has.are_parts in
      record {
        directory = directory;
        accepted = accepted;
        parts = has.parts;
        are_parts = record {
          members = λ part. (λ has'. (kept.parts part).1 ((are.members part).0 has'), λ reach. (are.members part).1 ((kept.parts part).0 reach));
          ordered = are.ordered;
        };
        is = has.is ∙ ap (λ (d : Directory). layout_of d has.parts) here ∙ same_layout has.parts;
      }

  -- what is marked free
  unmarked : (place : ℕ) → is_free directory place ≡ true → All (λ (mark : Mark). mark.place ≢ place) marks
  unmarked place free i d within same = both (ap (is_free directory) (sym same) ∙ (own i d within).marked) free

  free_after : (place : ℕ) → IsFreeOn format new place → IsFreeOn format store place ⊎ (IsLostOn format store place × ¬ IsLostOn format new place)
  free_after place is =
      let free : is_free after place ≡ true = subst (λ (d : Directory). is_free d place ≡ true) (only_new is.0 is.1) is.2 in
      elim (marked_or_not marks place) [
        | inl has ↦ inr (
          (
            directory,
            accepted,
            subst (IsLost format directory store) has.2 (All-contains (λ (mark : Mark). IsLost format directory store mark.place) marks has.0 own has.1),
          ),
          λ lost. both (lost_after place lost).marked free,
        )
        | inr none ↦ inl (directory, accepted, sym (others_stay marks directory place none) ∙ free)
      ]

  free_still : (place : ℕ) → IsFreeOn format store place ⊎ (IsLostOn format store place × ¬ IsLostOn format new place) → IsFreeOn format new place
  free_still place (inl is) =
      let free : is_free directory place ≡ true = subst (λ (d : Directory). is_free d place ≡ true) (only_old is.0 is.1) is.2 in
      (after, kept.accepted, others_stay marks directory place (unmarked place free) ∙ free)
  free_still place (inr is) =
      let was = lost_here place is.0 in
      elim (cases_Bool (is_free after place)) [
        | inl free ↦ (after, kept.accepted, free)
        | inr used ↦ absurd (is.1 (after, kept.accepted, (kept_lost format directory after store new kept place).1 (was.available, used, was.unreached)))
      ]

  pub partly_reclaimed : length new ≡ length store → ((at : ℕ) → ¬ HasLostMark format store at → unit_at new at ≡ unit_at store at)
      → SameSystem format directory (marked directory marks) store new → IsPartlyReclaimed format store new
  partly_reclaimed size rest system = record {
    volume = (after, kept.accepted);
    keeps = keeps;
    files = same_files format movable store new keeps (directory, accepted) (after, kept.accepted);
    layout = λ at. (layout_after at, layout_before at);
    lost = λ place lost. (directory, accepted, lost_before place (lost_after place lost));
    free = λ place. (free_after place, free_still place);
    size = size;
    rest = rest;
    system = λ before now was is.
        subst (λ (d : Directory). SameSystem format d now store new) (laws.one_directory store directory before accepted.described was)
        (subst (λ (d : Directory). SameSystem format directory d store new) (laws.one_directory new after now kept.accepted.described is) system);
  }

-- the content of a unit of the system after writes that leave it
content_after : (content : List ℕ → List ℕ) (old : List ℕ) (at size : ℕ) (writes : List Write) (store : List (List ℕ)) → length store ≡ size
    → All (λ (write : Write). (write.place < size) × (write.place ≡ at → content write.unit ≡ old)) writes → content (unit_at store at) ≡ old
    → content (unit_at (store_after writes store) at) ≡ old
content_after content old at size [] store long each is = is
content_after content old at size (write ∷ writes) store long each is =
    let first = each 0 write (omega arith) in
    content_after content old at size writes (slice_set store write.place write.unit) (length-set store write.place write.unit ∙ long)
    (λ i d within. each (suc i) d (omega (arith, within)))
    (elim (cases_eq at write.place) [
      | inl same ↦
          ap (λ n. content (unit_at (slice_set store write.place write.unit) n)) same
          ∙ ap content (get_or-set_same store write.place write.unit [] (omega (arith, first.0, long))) ∙ first.1 (sym same)
      | inr differ ↦ ap content (get_or-set_other store write.place at write.unit [] differ) ∙ is
    ])

-- units of the map, one after another
module _ (format : Meaning) (laws : IsReadable format) (movable : IsMovable format) (writable : IsWritable format) (directory : Directory) (store : List (List ℕ))
    (writes : List Write) (accepted : IsAccepted format directory store) (full : HasWholeUnits format store) (reclaiming : IsReclaiming format directory store writes) where
  abbrev markings : List Marking
  markings = reclaiming.markings

  abbrev made : List Write
  made = map (marking_write format true store) markings

  lost_at : (k : ℕ) → k < length markings → All (IsLostHere format directory store (marking_of markings k).at) (marking_of markings k).places
  lost_at k inside i d within =
      let places = (marking_of markings k).places in
      (reclaiming.own k inside (slice_index_or places i d)).0 (All-contains_itself places i d within)

  below : (place : ℕ) → IsLost format directory store place → place < directory.places
  below place lost = (((movable.described store directory accepted.described).available_of place).0 lost.available).0

  can_mark : (k : ℕ) → k < length markings → CanMarkIn format true directory store store (marking_of markings k)
  can_mark k inside = record {
    inside =
        let place = slice_index_or (marking_of markings k).places 0 0 in
        let first = lost_at k inside 0 0 (reclaiming.some k inside) in
        subst (λ n. n < length store) first.here
        (subst (λ n. map_place directory place < n) (laws.all_places store directory accepted.described)
        ((movable.described store directory accepted.described).map_below place (below place first.lost)));
    same = refl;
    marks = All-map (CanMark format directory store (marking_of markings k).at) (mark_as true) (marking_of markings k).places
        (λ i d within.
        let is = lost_at k inside i d within in
        record { inside = below (slice_index_or (marking_of markings k).places i d) is.lost; here = is.here; unreached = λ freed. is.lost.unreached });
  }

  kept : (m : ℕ) → IsKept format directory (marked directory (all_marks true (take m markings))) store (store_after (take m made) store)
  kept m = markings_kept format laws movable writable true store full markings m directory store accepted can_mark reclaiming.rising

  all_lost : (m : ℕ) → All (λ (mark : Mark). IsLost format directory store mark.place) (all_marks true (take m markings))
  all_lost m = all_of_marks true (λ (mark : Mark). IsLost format directory store mark.place) markings m (λ k inside i d within. (lost_at k inside i d within).lost)

  -- no other unit is written
  writes_at : All (λ (write : Write). HasLostMark format store write.place) made
  writes_at = All-map (λ (write : Write). HasLostMark format store write.place) (marking_write format true store) markings
      (All-from_get_or (λ (m : Marking). HasLostMark format store m.at) markings no_marking (λ k inside.
      (directory, accepted, (slice_index_or (marking_of markings k).places 0 0, lost_at k inside 0 0 (reclaiming.some k inside)))))

  rest : (m at : ℕ) → ¬ HasLostMark format store at → unit_at (store_after (take m made) store) at ≡ unit_at store at
  rest m at none = unit_after (take m made) store at (All-take (λ (write : Write). write.place ≢ at) m made (λ i d within same.
      none (subst (HasLostMark format store) same (writes_at i d within))))

  -- marks alone are changed in a unit of the map
  content_marked : (at : ℕ) (marks : List Mark) (unit : List ℕ) → length unit ≡ format.unit_size
      → All (λ (mark : Mark). IsLostHere format directory store at mark.place) marks
      → format.system_content directory at (with_marks format unit marks) ≡ format.system_content directory at unit
  content_marked at [] unit size are = refl
  content_marked at (mark ∷ marks) unit size are =
      let first = are 0 mark (omega arith) in
      let next = format.with_free unit mark.place mark.free in
      content_marked at marks next (writable.free_length unit mark.place mark.free ∙ size) (λ i d within. are (suc i) d (omega (arith, within)))
      ∙ subst (λ n. format.system_content directory n next ≡ format.system_content directory n unit) first.here
      (writable.remap_content store directory mark.place mark.free unit accepted.described first.lost.available size)

  same_content : (at k : ℕ) → k < length markings → (marking_of markings k).at ≡ at
      → format.system_content directory at (marking_write format true store (marking_of markings k)).unit ≡ format.system_content directory at (unit_at store at)
  same_content at k inside same =
      let marking = marking_of markings k in
      subst (λ n. format.system_content directory n (marking_write format true store marking).unit ≡ format.system_content directory n (unit_at store n)) same
      (content_marked marking.at (map (mark_as true) marking.places) (unit_at store marking.at) (full marking.at (can_mark k inside).inside)
      (All-map (λ (mark : Mark). IsLostHere format directory store marking.at mark.place) (mark_as true) marking.places (lost_at k inside)))

  system : (m : ℕ) → SameSystem format directory (marked directory (all_marks true (take m markings))) store (store_after (take m made) store)
  system m at is =
      writable.frame_content directory (marked directory (all_marks true (take m markings))) at (unit_at (store_after (take m made) store) at) (kept m).frame
      ∙ content_after (format.system_content directory at) (format.system_content directory at (unit_at store at)) at (length store) (take m made) store refl
      (All-take (Leaves at) m made
      (All-map (Leaves at) (marking_write format true store) markings
      (All-from_get_or (λ (m : Marking). Leaves at (marking_write format true store m)) markings no_marking (λ k inside. ((can_mark k inside).inside, same_content at k inside)))))
      refl
    where
      Leaves : ℕ → Write → Type 0
      Leaves place write = (write.place < length store)
          × (write.place ≡ place → format.system_content directory place write.unit ≡ format.system_content directory place (unit_at store place))

  pub front : (m : ℕ) → IsPartlyReclaimed format store (store_after (take m writes) store)
  front m = subst (λ (l : List Write). IsPartlyReclaimed format store (store_after (take m l) store)) (sym reclaiming.are)
      (partly_reclaimed format laws movable directory store (store_after (take m made) store) (all_marks true (take m markings)) accepted (kept m) (all_lost m)
      (same_length (take m made) store) (rest m) (system m))

  -- all of them stand
  whole_list : take (length markings) markings ≡ markings
  whole_list = take_all (length markings) markings (omega arith)

  kept_all : IsKept format directory (marked directory (all_marks true markings)) store (store_after made store)
  kept_all =
      subst (λ (l : List Write). IsKept format directory (marked directory (all_marks true markings)) store (store_after l store))
      (take_all (length markings) made (omega (arith, length-map markings (marking_write format true store))))
      (subst (λ (l : List Marking). IsKept format directory (marked directory (all_marks true l)) store (store_after (take (length markings) made) store)) whole_list
      (kept (length markings)))

  lost_all : All (λ (mark : Mark). IsLost format directory store mark.place) (all_marks true markings)
  lost_all = subst (λ (l : List Marking). All (λ (mark : Mark). IsLost format directory store mark.place) (all_marks true l)) whole_list (all_lost (length markings))

  all_free : All (λ (mark : Mark). mark.free ≡ true) (all_marks true markings)
  all_free = subst (λ (l : List Marking). All (λ (mark : Mark). mark.free ≡ true) (all_marks true l)) whole_list
      (all_of_marks true (λ (mark : Mark). mark.free ≡ true) markings (length markings) (λ k inside i d within. refl))

  now_free : (place : ℕ) → IsLost format directory store place → is_free (marked directory (all_marks true markings)) place ≡ true
  now_free place lost =
      let unit = reclaiming.each place lost in
      let has = mark_of_place true markings unit.0 place unit.1 ((reclaiming.own unit.0 unit.1 place).1 (record { lost = lost; here = sym unit.2 })) in
      reads_back (mark_as true place) (all_marks true markings) directory
      (omega (arith, below place lost, writable.marks store directory accepted.described)) has (λ i d within same. all_free i d within)

  none_lost : (place : ℕ) → ¬ IsLostOn format (store_after made store) place
  none_lost place lost =
      let now = lost_after format laws movable directory store (store_after made store) (all_marks true markings) accepted kept_all lost_all place lost in
      both now.marked
      (now_free place (lost_before format laws movable directory store (store_after made store) (all_marks true markings) accepted kept_all lost_all place now))

  pub reclaimed : HasReclaimed format store (store_after writes store)
  reclaimed = record {
    partly = subst (λ (l : List Write). IsPartlyReclaimed format store (store_after l store)) (take_all (length writes) writes (omega arith)) (front (length writes));
    none_lost = λ place lost. none_lost place (subst (λ (l : List Write). IsLostOn format (store_after l store) place) reclaiming.are lost);
  }

-- the edit, on an honest device
module _ (format : Meaning) (laws : IsReadable format) (movable : IsMovable format) (writable : IsWritable format) (old new : DeviceState)
    (full : HasWholeUnits format old.store) where
  pub reclaim_done : {T : Type 0} (result : Result T EditError) → IsTrue old.honest → HasEdited (IsReclaimEdit format old.store) result old new
      → OnOk result (HasReclaimed format old.store new.store)
  reclaim_done = store_done (IsReclaimEdit format old.store) (HasReclaimed format old.store) old new
      (λ writes edit. reclaimed format laws movable writable edit.directory old.store writes edit.accepted full edit.reclaiming)

  pub reclaim_stopped : {T : Type 0} (result : Result T EditError) → IsTrue old.honest → HasEdited (IsReclaimEdit format old.store) result old new → result ≡ Err Device
      → IsOldOrReclaimed format old.store new.store
  reclaim_stopped = store_stopped (IsReclaimEdit format old.store) (IsPartlyReclaimed format old.store) old new
      (λ writes edit. front format laws movable writable edit.directory old.store writes edit.accepted full edit.reclaiming)
