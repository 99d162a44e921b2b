-- What a write of the map leaves.
use Rattle.std.specs.Prelude.{◌≡◌, ◌↔◌, ◌<◌, ℕ, List, length, slice_index, slice_index_or, slice_set, All, Contains, None}
use Rattle.std.proofs.Common.{sym, ◌∙◌, ap, subst}
use Rattle.a2_device.specs.Device.{unit_at}
use Rattle.a2_device.specs.declared.part.Part.{Part}
use Rattle.vol_format.specs.Directory.{Directory}
use Rattle.vol_format.specs.Laws.{IsReadable, IsMovable, IsWritable}
use Rattle.vol_format.specs.Meaning.{Meaning}
use Rattle.vol_format.specs.Standing.{IsLost}
use Rattle.vol_format.proofs.Frames.{same_available, same_map_place}
use Rattle.vol_laws.specs.Kept.{IsKept, IsUnreached}
use Rattle.vol_laws.specs.Marked.{CanMark, with_marks, marked}
use Rattle.vol_laws.specs.declared.mark.Mark.{Mark}
use Rattle.vol_laws.proofs.Losing.{kept_lost}
use Rattle.vol_laws.proofs.Marks.{marks_kept}
use Rattle.vol_laws.proofs.Standing.{kept_stands}
use Rattle.vol_laws.proofs.SystemUnits.{marks_system}
use Rattle.vol_mover.specs.Tasks.{Course, Map, FitsMark, course_after, lost_after}
use Rattle.vol_mover.specs.Open.{IsOpen}
use Rattle.vol_mover.specs.Volume.{SameVolume}
use Rattle.vol_mover.proofs.Lost.{after_marks, AreUsed}
use Rattle.vol_mover.proofs.Volumes.{same_volume}

module _ (format : Meaning) (laws : IsReadable format) (movable : IsMovable format) (writable : IsWritable format) (opening : Directory) (store : List (List ℕ)) (parts : List Part)
    (course : Course) (is : IsOpen format opening store parts course) (at : ℕ) (marks : List Mark) (whole : length (unit_at store at) ≡ format.unit_size)
    (none : course.copied ≡ None) (fit : All (FitsMark opening course at) marks) where
  abbrev before : Directory
  before = is.directory

  abbrev after : Directory
  after = marked is.directory marks

  abbrev new : List (List ℕ)
  new = slice_set store at (with_marks format (unit_at store at) marks)

  now_available : (place : ℕ) → Contains opening.available place → Contains before.available place
  now_available place has = subst (λ places. Contains places place) (sym (same_available opening before is.frame)) has

  inside : (place : ℕ) → Contains before.available place → place < before.places
  inside place has = (((movable.described store before is.accepted.described).available_of place).0 has).0

  -- no part stands at a place that is to be marked
  unreached : (mark : Mark) → FitsMark opening course at mark → IsUnreached format before store mark.place
  unreached mark fits part reach same =
      let k = is.stands.all part reach in
      fits.no_part k.0 (subst (λ n. k.0 < n) (sym is.stands.size) k.1)
      (ap (λ places. slice_index places (slice_index course.at k.0)) (sym (same_available opening before is.frame))
      ∙ ap (λ (x : Part). x.place) (sym k.2) ∙ same)

  can_mark : (mark : Mark) → FitsMark opening course at mark → CanMark format before store at mark
  can_mark mark fits = record {
    inside = inside mark.place (now_available mark.place fits.available);
    here = same_map_place opening before is.frame mark.place ∙ fits.here;
    unreached = λ free. unreached mark fits;
  }

  abbrev Spare : ℕ → Type 0
  Spare place = Contains before.available place × IsUnreached format before store place

  kept : IsKept format before after store new
  kept = marks_kept format laws movable writable at marks before store is.accepted whole (λ i d within. can_mark (slice_index_or marks i d) (fit i d within))

  was_used : AreUsed Spare before course.lost
  was_used place = (
    λ has. let lost = (is.lost place).0 has in ((lost.available, lost.unreached), lost.marked),
    λ used. (is.lost place).1 (record { available = used.0.0; marked = used.1; unreached = used.0.1 }),
  )

  are_used : AreUsed Spare after (lost_after course.lost marks)
  are_used = after_marks Spare marks before course.lost
      (λ i d within.
      let mark = slice_index_or marks i d in
      let fits = fit i d within in
      let available = now_available mark.place fits.available in (
        subst (λ n. mark.place < n) (sym (writable.marks store before is.accepted.described)) (inside mark.place available),
        (available, unreached mark fits),
      ))
      was_used

  now_lost : (place : ℕ) → Contains (lost_after course.lost marks) place ↔ IsLost format after new place
  now_lost place =
      let means = kept_lost format before after store new kept place in (
        λ has. let used = (are_used place).0 has in means.1 (used.0.0, used.1, used.0.1),
        λ lost. let used = means.0 lost in (are_used place).1 ((used.0, used.2), used.1),
      )

  pub map_open : IsOpen format opening (slice_set store at (with_marks format (unit_at store at) marks)) parts (course_after opening course (Map at marks))
  map_open = record {
    directory = after;
    frame = kept.frame ∙ is.frame;
    accepted = kept.accepted;
    stands = kept_stands format before after store new parts course.at kept is.stands;
    lost = now_lost;
    copied = λ move some. absurd (cc (none, some));
  }

  pub map_same : SameVolume format store (slice_set store at (with_marks format (unit_at store at) marks))
  map_same = same_volume format laws before after store new is.accepted.described kept.accepted.described kept.contents
      (marks_system format laws movable writable at marks before store is.accepted whole (λ i d within. can_mark (slice_index_or marks i d) (fit i d within))
      (λ i d within. now_available (slice_index_or marks i d).place (fit i d within).available))
      kept.frame
