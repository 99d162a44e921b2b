-- Places marked in a unit of the map.
use Rattle.std.specs.Prelude.{◌≡◌, ◌≢◌, ◌<◌, ℕ, suc, Bool, true, false, List, [], ◌∷◌, length, slice_index_or, slice_set, All}
use Rattle.std.proofs.Common.{refl, sym, ◌∙◌, ap, subst, arith, inl, inr}
use Rattle.std.proofs.lemmas.Bool.{cases_eq, cases_lt}
use Rattle.std.proofs.lemmas.List.{get_or-set_same, get_or-set_other, get_or_past, set-get_or, set-set}
use Rattle.std.proofs.Math.ListN.{length-set}
use Rattle.a2_device.specs.Device.{unit_at}
use Rattle.a2_device.specs.declared.part.Part.{Part}
use Rattle.vol_format.specs.Accepted.{IsAccepted}
use Rattle.vol_format.specs.Directory.{Directory, is_system, is_free, map_place, remapped}
use Rattle.vol_format.specs.Laws.{IsReadable, IsMovable, IsWritable}
use Rattle.vol_format.specs.Meaning.{Meaning, link_from}
use Rattle.vol_format.specs.Reach.{Reach, at_root, at_child}
use Rattle.vol_format.proofs.Frames.{remapped_frame}
use Rattle.vol_laws.specs.Kept.{IsKept, IsUnreached}
use Rattle.vol_laws.specs.Marked.{CanMark, with_marks, marked}
use Rattle.vol_laws.specs.declared.mark.Mark.{Mark}
use Rattle.vol_laws.proofs.Kept.{is_kept, kept_same, kept_then}

-- a mark of another place
pub other_mark : (directory : Directory) (place : ℕ) (free : Bool) (at : ℕ) → at ≢ place → is_free (remapped directory place free) at ≡ is_free directory at
other_mark directory place free at differ = get_or-set_other directory.free place at free false differ

pub marked_free : (directory : Directory) (place : ℕ) → place < length directory.free → is_free (remapped directory place true) place ≡ true
marked_free directory place inside = get_or-set_same directory.free place true false inside

pub marked_used : (directory : Directory) (place : ℕ) → is_free (remapped directory place false) place ≡ false
marked_used directory place = elim (cases_lt place (length directory.free)) [
  | inl inside ↦ get_or-set_same directory.free place false false inside
  | inr past ↦ get_or_past (slice_set directory.free place false) place false (omega (arith, length-set {A = Bool} directory.free place false))
]

module _ (format : Meaning) (laws : IsReadable format) (movable : IsMovable format) (writable : IsWritable format) where
  -- One place marked used, or one marked free at which no part stands.
  module _ (before : Directory) (old : List (List ℕ)) (accepted : IsAccepted format before old) (place : ℕ) (free : Bool) (inside : place < before.places)
      (full : length (unit_at old (map_place before place)) ≡ format.unit_size) (unreached : free ≡ true → IsUnreached format before old place) where
    unfoldable written : List ℕ
    written = format.with_free (unit_at old (map_place before place)) place free

    abbrev after : Directory
    after = remapped before place free

    abbrev new : List (List ℕ)
    new = slice_set old (map_place before place) written

    same_units : (at : ℕ) → is_system before at ≡ false → unit_at new at ≡ unit_at old at
    same_units at outside = get_or-set_other old (map_place before place) at written [] elsewhere
      where
        elsewhere : at ≢ map_place before place
        elsewhere same =
            let system = writable.map_inside old before place accepted.described inside in
            absurd (cc (outside, system, same))

    same_link : (part : Part) (i : ℕ) → Reach format before old part → link_from format new part i ≡ link_from format old part i
    same_link part i reach = ap (λ n. format.child n part (unit_at new part.place) i) (length-set {A = List ℕ} old (map_place before place) written)
        ∙ ap (λ unit. format.child (length old) part unit i) (same_units part.place (accepted.sound part reach).outside_system)

    mark_keeps : (part : Part) → Reach format before old part → Reach format after new part
    mark_keeps part (at_root file within is) = at_root file within is
    mark_keeps part (at_child {parent} i reach is) = at_child i (mark_keeps parent reach) (same_link parent i reach ∙ is)

    mark_adds_none : (part : Part) → Reach format after new part → Reach format before old part
    mark_adds_none part (at_root file within is) = at_root file within is
    mark_adds_none part (at_child {parent} i reach is) =
        let was = mark_adds_none parent reach in
        at_child i was (sym (same_link parent i was) ∙ is)

    still_marked : (part : Part) → Reach format before old part → is_free after part.place ≡ false
    still_marked part reach = elim (cases_eq part.place place) [
      | inl same ↦ by_free free refl same
      | inr differ ↦ other_mark before place free part.place differ ∙ (accepted.sound part reach).marked
    ]
      where
        by_free : (test : Bool) → free ≡ test → part.place ≡ place → is_free after part.place ≡ false
        by_free true is same = absurd (unreached is part reach same)
        by_free false is same = ap (is_free after) same ∙ ap (λ b. is_free (remapped before place b) place) is ∙ marked_used before place

    described_after : format.Describes new after
    unfolding written
    described_after = writable.remap old before place free accepted.described inside full

    mark_accepted : IsAccepted format after new
    mark_accepted = record {
      described = described_after;
      no_wild = accepted.no_wild;
      no_other_type = accepted.no_other_type;
      sound = λ part reach.
          let was = mark_adds_none part reach in
          record {
            no_wild = λ i wild. (accepted.sound part was).no_wild i (sym (same_link part i was) ∙ wild);
            outside_system = (accepted.sound part was).outside_system;
            marked = still_marked part was;
          };
      once = λ part other here there at. accepted.once part other (mark_adds_none part here) (mark_adds_none other there) at;
    }

    pub mark_kept : IsKept format before (remapped before place free) old
        (slice_set old (map_place before place) (format.with_free (unit_at old (map_place before place)) place free))
    unfolding written
    mark_kept = is_kept format before after old new (remapped_frame before place free) mark_accepted mark_keeps mark_adds_none
        (λ part reach. same_units part.place (accepted.sound part reach).outside_system)

  -- Several places of one unit of the map.
  module _ (at : ℕ) where
    pub one_kept : (before : Directory) (old : List (List ℕ)) (mark : Mark) → IsAccepted format before old → length (unit_at old at) ≡ format.unit_size → CanMark format before old at mark
        → IsKept format before (remapped before mark.place mark.free) old (slice_set old at (format.with_free (unit_at old at) mark.place mark.free))
    one_kept before old mark accepted full can =
        subst (λ n. IsKept format before (remapped before mark.place mark.free) old (slice_set old n (format.with_free (unit_at old n) mark.place mark.free))) can.here
        (mark_kept before old accepted mark.place mark.free can.inside (subst (λ n. length (unit_at old n) ≡ format.unit_size) (sym can.here) full) can.unreached)

    pub still : (before after : Directory) (old new : List (List ℕ)) → IsKept format before after old new → after.places ≡ before.places
        → ((place : ℕ) → map_place after place ≡ map_place before place) → (mark : Mark) → CanMark format before old at mark → CanMark format after new at mark
    still before after old new kept same_places same_map mark was = record {
      inside = subst (λ n. mark.place < n) (sym same_places) was.inside;
      here = same_map mark.place ∙ was.here;
      unreached = λ free part reach. was.unreached free part ((kept.parts part).1 reach);
    }

    pub within : (before : Directory) (old : List (List ℕ)) (mark : Mark) → IsAccepted format before old → CanMark format before old at mark → at < length old
    within before old mark accepted can =
        subst (λ n. at < n) (laws.all_places old before accepted.described)
        (subst (λ n. n < before.places) can.here ((movable.described old before accepted.described).map_below mark.place can.inside))

    pub marks_kept : (marks : List Mark) (before : Directory) (old : List (List ℕ)) → IsAccepted format before old → length (unit_at old at) ≡ format.unit_size
        → All (CanMark format before old at) marks → IsKept format before (marked before marks) old (slice_set old at (with_marks format (unit_at old at) marks))
    marks_kept [] before old accepted full can =
        subst (IsKept format before before old) (sym (set-get_or old at [])) (kept_same format before old accepted)
    marks_kept (mark ∷ marks) before old accepted full can =
        let first = can 0 mark (omega arith) in
        let unit = format.with_free (unit_at old at) mark.place mark.free in
        let mid = remapped before mark.place mark.free in
        let store = slice_set old at unit in
        let one = one_kept before old mark accepted full first in
        let here : unit_at store at ≡ unit = get_or-set_same old at unit [] (within before old mark accepted first) in
        let rest = marks_kept marks mid store one.accepted (ap length here ∙ writable.free_length (unit_at old at) mark.place mark.free ∙ full)
        (λ i d inside. still before mid old store one refl (λ place. refl) (slice_index_or marks i d) (can (suc i) d (omega (arith, inside)))) in
        let there : slice_set store at (with_marks format (unit_at store at) marks) ≡ slice_set old at (with_marks format unit marks) =
        ap (λ v. slice_set store at (with_marks format v marks)) here ∙ set-set old at unit (with_marks format unit marks) in
        subst (IsKept format before (marked mid marks) old) there
        (kept_then format before mid (marked mid marks) old store (slice_set store at (with_marks format (unit_at store at) marks)) one rest)
