-- What a write of a pointer leaves.
use Rattle.std.specs.Prelude.{◌≡◌, ◌≢◌, ◌⊎◌, ◌↔◌, ◌<◌, ℕ, List, [], ◌∷◌, length, slice_index, slice_set, Contains, Some}
use Rattle.std.proofs.Common.{sym, ◌∙◌, ap, subst, arith, inl, inr}
use Rattle.a2_device.specs.Device.{unit_at}
use Rattle.a2_device.specs.declared.part.Part.{Part}
use Rattle.vol_layout.specs.Plans.{IsLegal, moved}
use Rattle.vol_layout.specs.declared.moves.Move.{Move}
use Rattle.vol_layout.proofs.Lists.{Contains-cases}
use Rattle.vol_format.specs.Directory.{Directory}
use Rattle.vol_format.specs.Holding.{IsHolder, with_slot}
use Rattle.vol_format.specs.Laws.{IsReadable, IsMovable, IsWritable}
use Rattle.vol_format.specs.Meaning.{Meaning}
use Rattle.vol_format.specs.Standing.{Stands, IsLost, part_now}
use Rattle.vol_format.specs.declared.link.Holder.{Holder}
use Rattle.vol_format.proofs.Frames.{same_available, same_places}
use Rattle.vol_laws.specs.Moved.{IsReady, HasMoved, pointed, pointed_store}
use Rattle.vol_laws.proofs.Losing.{left_lost}
use Rattle.vol_laws.proofs.Moves.{part_moved, part_stands}
use Rattle.vol_laws.proofs.SystemUnits.{pointer_system}
use Rattle.vol_mover.specs.Tasks.{Course, Pointer, course_after, place_of}
use Rattle.vol_mover.specs.Open.{IsOpen}
use Rattle.vol_mover.specs.Volume.{SameVolume}
use Rattle.vol_mover.proofs.Volumes.{same_volume}
use Rattle.vol_mover.proofs.CopyWrites.{lost_place}

module _ (format : Meaning) (laws : IsReadable format) (movable : IsMovable format) (writable : IsWritable format) (opening : Directory) (store : List (List ℕ)) (parts : List Part)
    (course : Course) (is : IsOpen format opening store parts course) (takes : format.Takes opening.places) (move : Move) (copied : course.copied ≡ Some move)
    (legal : IsLegal course.at (length opening.available) move) (one : course.lost ≡ place_of opening move.to ∷ [])
    (holder : Holder) (held : IsHolder format is.directory store (part_now parts is.directory.available course.at move.part) holder)
    (inside : holder.place < length store) (whole : length (unit_at store holder.place) ≡ format.unit_size) where
  abbrev place : ℕ
  place = place_of opening move.to

  abbrev part : Part
  part = part_now parts is.directory.available course.at move.part

  abbrev after : Directory
  after = pointed is.directory part holder place

  abbrev new : List (List ℕ)
  new = pointed_store format store holder place

  same : is.directory.available ≡ opening.available
  same = same_available opening is.directory is.frame

  part_place : part.place ≡ place_of opening (slice_index course.at move.part)
  part_place = ap (λ places. slice_index places (slice_index course.at move.part)) same

  ready : IsReady format is.directory store part holder place
  ready =
      let lost = lost_place format laws movable opening store parts course is move legal one in
      record {
        held = held;
        inside = inside;
        whole = whole;
        available = lost.available;
        marked = lost.marked;
        unreached = lost.unreached;
        copied = is.copied move copied ∙ ap (unit_at store) (sym part_place);
      }

  has_moved : HasMoved format is.directory after part place store new
  has_moved = part_moved format laws movable writable is.directory store part holder place is.accepted ready

  now_there : (slice_index is.directory.available move.to) ≡ place
  now_there = ap (λ places. slice_index places move.to) same

  now_takes : format.Takes is.directory.places
  now_takes = subst format.Takes (sym (same_places opening is.directory is.frame)) takes

  now_lost : (at : ℕ) → Contains (place_of opening (slice_index course.at move.part) ∷ []) at ↔ IsLost format after new at
  now_lost at = (to, from)
    where
      means : IsLost format after new at ↔ ((at ≡ part.place) ⊎ (IsLost format is.directory store at × (at ≢ place)))
      means = left_lost format laws movable writable is.directory store part holder place at is.accepted now_takes ready

      to : Contains (place_of opening (slice_index course.at move.part) ∷ []) at → IsLost format after new at
      to has = elim (Contains-cases (place_of opening (slice_index course.at move.part)) [] at has) [
        | inl here ↦ means.1 (inl (sym here ∙ sym part_place))
        | inr later ↦ absurd (omega (arith, later.1))
      ]

      from : IsLost format after new at → Contains (place_of opening (slice_index course.at move.part) ∷ []) at
      from lost = elim (means.0 lost) [
        | inl here ↦ (0, omega arith, sym part_place ∙ sym here)
        | inr other ↦ elim (Contains-cases place [] at (subst (λ places. Contains places at) one ((is.lost at).1 other.0))) [
          | inl here ↦ absurd (other.1 (sym here))
          | inr later ↦ absurd (omega (arith, later.1))
        ]
      ]

  pub pointer_open : IsOpen format opening (slice_set store holder.place (with_slot format (unit_at store holder.place) holder (place_of opening move.to))) parts
      (course_after opening course (Pointer move))
  pointer_open = record {
    directory = after;
    frame = has_moved.frame ∙ is.frame;
    accepted = has_moved.accepted;
    stands = subst (λ there. Stands format (pointed is.directory part holder there) (pointed_store format store holder there) parts (moved course.at move)) now_there
        (part_stands format laws movable writable is.directory store parts course.at move.part move.to holder is.accepted is.stands
        (subst (λ n. move.part < n) is.stands.size legal.part) (subst (λ places. move.to < length places) (sym same) legal.place)
        (subst (λ there. IsReady format is.directory store part holder there) (sym now_there) ready));
    lost = now_lost;
    copied = λ other some. cc;
  }

  pub pointer_same : SameVolume format store (slice_set store holder.place (with_slot format (unit_at store holder.place) holder (place_of opening move.to)))
  pointer_same = same_volume format laws is.directory after store new is.accepted.described has_moved.accepted.described has_moved.contents
      (pointer_system format laws movable writable is.directory store part holder place is.accepted ready) has_moved.frame
