-- Which places are lost after a write.
use Rattle.std.specs.Prelude.{◌≡◌, ◌≢◌, ◌⊎◌, ◌↔◌, ◌<◌, ℕ, Bool, true, false, List, length, Contains, slice_index_or}
use Rattle.std.proofs.Common.{refl, sym, ◌∙◌, ap, subst, inl, inr}
use Rattle.std.proofs.lemmas.Bool.{cases_eq}
use Rattle.a2_device.specs.Device.{unit_at}
use Rattle.a2_device.specs.declared.part.Part.{Part}
use Rattle.vol_format.specs.Accepted.{IsAccepted}
use Rattle.vol_format.specs.Directory.{Directory, is_free, remapped}
use Rattle.vol_format.specs.Laws.{IsReadable, IsMovable, IsWritable}
use Rattle.vol_format.specs.Meaning.{Meaning}
use Rattle.vol_format.specs.Reach.{Reach, at_root, at_child}
use Rattle.vol_format.specs.Standing.{IsLost, at_place}
use Rattle.vol_format.specs.declared.link.Holder.{Holder}
use Rattle.vol_format.proofs.Frames.{same_available}
use Rattle.vol_laws.specs.Kept.{IsKept, IsUnreached}
use Rattle.vol_laws.specs.Moved.{HasMoved, IsReady, pointed, pointed_store}
use Rattle.vol_laws.proofs.Marks.{other_mark, marked_free, marked_used}
use Rattle.vol_laws.proofs.Moves.{part_moved, held_part}
use Rattle.vol_laws.proofs.Moving.{stays, goes}

module _ (format : Meaning) (before after : Directory) (old new : List (List ℕ)) where
  -- where no part moves
  module _ (kept : IsKept format before after old new) where
    still_unreached : (place : ℕ) → IsUnreached format before old place → IsUnreached format after new place
    still_unreached place unreached part reach = unreached part ((kept.parts part).1 reach)

    was_unreached : (place : ℕ) → IsUnreached format after new place → IsUnreached format before old place
    was_unreached place unreached part reach = unreached part ((kept.parts part).0 reach)

    now_available : (place : ℕ) → Contains before.available place → Contains after.available place
    now_available place has = subst (λ places. Contains places place) (sym (same_available before after kept.frame)) has

    was_available : (place : ℕ) → Contains after.available place → Contains before.available place
    was_available place has = subst (λ places. Contains places place) (same_available before after kept.frame) has

    pub kept_lost : (place : ℕ) → IsLost format after new place ↔ (Contains before.available place × (is_free after place ≡ false) × IsUnreached format before old place)
    kept_lost place = (
      λ lost. (was_available place lost.available, lost.marked, was_unreached place lost.unreached),
      λ is. record { available = now_available place is.0; marked = is.1; unreached = still_unreached place is.2 },
    )

  -- where a part moves
  module _ (part : Part) (place : ℕ) (reached : Reach format before old part) (marked_before : is_free before part.place ≡ false) (available : Contains before.available part.place)
      (unreached : IsUnreached format before old place) (has : HasMoved format before after part place old new) where
    same_mark : (at : ℕ) → is_free after at ≡ is_free before at
    same_mark at = ap (λ (marks : List Bool). slice_index_or marks at false) has.free

    -- what stands at a place after the move stood there, or is the part
    stood : (P : ℕ → Type 0) (now : Part) → Reach format after new now → P place
        → ((other : Part) → Reach format before old other → other.place ≢ part.place → P other.place) → P now.place
    stood P now reach here there =
        let was = has.adds_none now reach in
        subst (λ (x : Part). P x.place) (sym was.2) (elim (cases_eq was.0.place part.place) [
          | inl same ↦ subst (λ (x : Part). P x.place) (sym (goes part place was.0 same)) here
          | inr differ ↦ subst (λ (x : Part). P x.place) (sym (stays part place was.0 differ)) (there was.0 was.1 differ)
        ])

    left_empty : IsUnreached format after new part.place
    left_empty now reach = stood (λ at. at ≢ part.place) now reach (λ same. unreached part reached (sym same)) (λ other here differ. differ)

    now_reached : Reach format after new (at_place part place)
    now_reached = subst (Reach format after new) (goes part place part refl) (has.keeps part reached)

    pub moved_lost : (at : ℕ) → IsLost format after new at ↔ ((at ≡ part.place) ⊎ (IsLost format before old at × (at ≢ place)))
    moved_lost at = (to, from)
      where
        to : IsLost format after new at → (at ≡ part.place) ⊎ (IsLost format before old at × (at ≢ place))
        to lost = elim (cases_eq at part.place) [
          | inl same ↦ inl same
          | inr differ ↦ inr (
            record {
              available = subst (λ places. Contains places at) (same_available before after has.frame) lost.available;
              marked = sym (same_mark at) ∙ lost.marked;
              unreached = λ other reach same. lost.unreached other
                  (subst (Reach format after new) (stays part place other (λ e. differ (sym same ∙ e))) (has.keeps other reach)) same;
            },
            λ same. lost.unreached (at_place part place) now_reached (sym same),
          )
        ]

        from : (at ≡ part.place) ⊎ (IsLost format before old at × (at ≢ place)) → IsLost format after new at
        from (inl same) = subst (IsLost format after new) (sym same) (record {
          available = subst (λ places. Contains places part.place) (sym (same_available before after has.frame)) available;
          marked = same_mark part.place ∙ marked_before;
          unreached = left_empty;
        })
        from (inr was) = record {
          available = subst (λ places. Contains places at) (sym (same_available before after has.frame)) was.0.available;
          marked = same_mark at ∙ was.0.marked;
          unreached = λ now reach. stood (λ n. n ≢ at) now reach (λ same. was.1 (sym same)) (λ other here differ. was.0.unreached other here);
        }

-- a part stands at a place of the volume
part_inside : (format : Meaning) → IsReadable format → IsMovable format → (directory : Directory) (store : List (List ℕ)) → format.Describes store directory
    → format.Takes directory.places → (part : Part) → Reach format directory store part → part.place < directory.places
part_inside format laws movable directory store described takes part (at_root file within is) =
    (movable.described store directory described).root_place file part is
part_inside format laws movable directory store described takes part (at_child {parent} i reach is) =
    let same = laws.all_places store directory described in
    subst (λ n. part.place < n) (sym same)
    (laws.child_place (length store) parent part (unit_at store parent.place) i (subst format.Takes same takes) is)

pub left_lost : (format : Meaning) → IsReadable format → IsMovable format → IsWritable format → (directory : Directory) (store : List (List ℕ))
    (part : Part) (holder : Holder) (place at : ℕ) → IsAccepted format directory store → format.Takes directory.places → IsReady format directory store part holder place
    → IsLost format (pointed directory part holder place) (pointed_store format store holder place) at
    ↔ ((at ≡ part.place) ⊎ (IsLost format directory store at × (at ≢ place)))
left_lost format laws movable writable directory store part holder place at accepted takes ready =
    let reached = held_part format laws movable writable directory store part holder place accepted ready in
    let sound = accepted.sound part reached in
    moved_lost format directory (pointed directory part holder place) store (pointed_store format store holder place) part place reached sound.marked
    (((movable.described store directory accepted.described).available_of part.place).1
    (part_inside format laws movable directory store accepted.described takes part reached, sound.outside_system))
    ready.unreached (part_moved format laws movable writable directory store part holder place accepted ready) at

-- a place that is marked used is lost if it is available and no part's, and one that is marked free is not
pub used_lost : (format : Meaning) (directory : Directory) (old new : List (List ℕ)) (place at : ℕ) → IsKept format directory (remapped directory place false) old new
    → IsLost format (remapped directory place false) new at
    ↔ (IsLost format directory old at ⊎ ((at ≡ place) × Contains directory.available at × IsUnreached format directory old at))
used_lost format directory old new place at kept = (to, from)
  where
    lost_is : IsLost format (remapped directory place false) new at ↔ (Contains directory.available at × (is_free (remapped directory place false) at ≡ false) × IsUnreached format directory old at)
    lost_is = kept_lost format directory (remapped directory place false) old new kept at

    to : IsLost format (remapped directory place false) new at → IsLost format directory old at ⊎ ((at ≡ place) × Contains directory.available at × IsUnreached format directory old at)
    to lost =
        let is = lost_is.0 lost in
        elim (cases_eq at place) [
          | inl same ↦ inr (same, is.0, is.2)
          | inr differ ↦ inl (record { available = is.0; marked = sym (other_mark directory place false at differ) ∙ is.1; unreached = is.2 })
        ]

    mark_here : (at ≡ place) → is_free (remapped directory place false) at ≡ false
    mark_here same = ap (is_free (remapped directory place false)) same ∙ marked_used directory place

    from : IsLost format directory old at ⊎ ((at ≡ place) × Contains directory.available at × IsUnreached format directory old at) → IsLost format (remapped directory place false) new at
    from (inl was) = lost_is.1 (
      was.available,
      elim (cases_eq at place) [
        | inl same ↦ mark_here same
        | inr differ ↦ other_mark directory place false at differ ∙ was.marked
      ],
      was.unreached,
    )
    from (inr is) = lost_is.1 (is.1, mark_here is.0, is.2)

pub released_lost : (format : Meaning) (directory : Directory) (old new : List (List ℕ)) (place at : ℕ) → place < length directory.free
    → IsKept format directory (remapped directory place true) old new
    → IsLost format (remapped directory place true) new at ↔ (IsLost format directory old at × (at ≢ place))
released_lost format directory old new place at inside kept = (to, from)
  where
    lost_is : IsLost format (remapped directory place true) new at ↔ (Contains directory.available at × (is_free (remapped directory place true) at ≡ false) × IsUnreached format directory old at)
    lost_is = kept_lost format directory (remapped directory place true) old new kept at

    to : IsLost format (remapped directory place true) new at → IsLost format directory old at × (at ≢ place)
    to lost =
        let is = lost_is.0 lost in
        elim (cases_eq at place) [
          | inl same ↦
              let free = ap (is_free (remapped directory place true)) same ∙ marked_free directory place inside in
              let used = is.1 in
              absurd (cc (free, used))
          | inr differ ↦ (record { available = is.0; marked = sym (other_mark directory place true at differ) ∙ is.1; unreached = is.2 }, differ)
        ]

    from : IsLost format directory old at × (at ≢ place) → IsLost format (remapped directory place true) new at
    from was = lost_is.1 (was.0.available, other_mark directory place true at was.1 ∙ was.0.marked, was.0.unreached)

pub copy_lost : (format : Meaning) (directory : Directory) (old new : List (List ℕ)) (place : ℕ) → IsKept format directory directory old new
    → IsLost format directory new place ↔ IsLost format directory old place
copy_lost format directory old new place kept = (
  λ lost. record { available = lost.available; marked = lost.marked; unreached = was_unreached format directory directory old new kept place lost.unreached },
  λ lost. record { available = lost.available; marked = lost.marked; unreached = still_unreached format directory directory old new kept place lost.unreached },
)
