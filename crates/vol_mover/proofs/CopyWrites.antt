-- What a copy of a part's unit leaves.
use Rattle.std.specs.Prelude.{◌≡◌, ◌≢◌, ◌<◌, ℕ, List, [], ◌∷◌, length, slice_index, slice_set, Contains, Some}
use Rattle.std.proofs.Common.{refl, sym, ◌∙◌, ap, subst, arith}
use Rattle.std.proofs.lemmas.List.{get_or-set_same, get_or-set_other}
use Rattle.a2_device.specs.Device.{unit_at}
use Rattle.a2_device.specs.declared.part.Part.{Part}
use Rattle.vol_layout.specs.Plans.{IsLegal}
use Rattle.vol_layout.specs.declared.moves.Move.{Move}
use Rattle.vol_format.specs.Directory.{Directory}
use Rattle.vol_format.specs.Laws.{IsReadable, IsMovable}
use Rattle.vol_format.specs.Meaning.{Meaning}
use Rattle.vol_format.specs.Standing.{IsLost, part_now}
use Rattle.vol_format.proofs.Frames.{same_available}
use Rattle.vol_laws.specs.Kept.{IsKept}
use Rattle.vol_laws.proofs.Copies.{copy_kept}
use Rattle.vol_laws.proofs.Losing.{copy_lost}
use Rattle.vol_laws.proofs.Standing.{kept_stands}
use Rattle.vol_laws.proofs.SystemUnits.{copy_system}
use Rattle.vol_mover.specs.Tasks.{Course, Copy, course_after, place_of}
use Rattle.vol_mover.specs.Open.{IsOpen}
use Rattle.vol_mover.specs.Volume.{SameVolume}
use Rattle.vol_mover.proofs.Volumes.{same_volume}

same_move : (move other : Move) → Some move ≡ Some other → move ≡ other
same_move move other e = cc

module _ (format : Meaning) (laws : IsReadable format) (movable : IsMovable format) (opening : Directory) (store : List (List ℕ)) (parts : List Part)
    (course : Course) (is : IsOpen format opening store parts course) (move : Move) (legal : IsLegal course.at (length opening.available) move)
    (one : course.lost ≡ place_of opening move.to ∷ []) where
  abbrev place : ℕ
  place = place_of opening move.to

  abbrev from : ℕ
  from = place_of opening (slice_index course.at move.part)

  abbrev new : List (List ℕ)
  new = slice_set store place (unit_at store from)

  pub lost_place : IsLost format is.directory store (place_of opening move.to)
  lost_place = (is.lost place).0 (subst (λ places. Contains places place) (sym one) (0, omega arith, refl))

  inside : place < length store
  inside = subst (λ n. place < n) (laws.all_places store is.directory is.accepted.described)
      (((movable.described store is.directory is.accepted.described).available_of place).0 lost_place.available).0

  -- a part stands elsewhere
  apart : from ≢ place
  apart same =
      lost_place.unreached (part_now parts is.directory.available course.at move.part)
      (is.stands.reached move.part (subst (λ n. move.part < n) is.stands.size legal.part))
      (ap (λ places. slice_index places (slice_index course.at move.part)) (same_available opening is.directory is.frame) ∙ same)

  kept : IsKept format is.directory is.directory store new
  kept = copy_kept format is.directory store place (unit_at store from) lost_place.unreached movable is.accepted lost_place.available

  copied : unit_at new place ≡ unit_at new from
  copied = get_or-set_same store place (unit_at store from) [] inside ∙ sym (get_or-set_other store place from (unit_at store from) [] apart)

  pub copy_open : IsOpen format opening (slice_set store (place_of opening move.to) (unit_at store (place_of opening (slice_index course.at move.part)))) parts
      (course_after opening course (Copy move))
  copy_open = record {
    directory = is.directory;
    frame = is.frame;
    accepted = kept.accepted;
    stands = kept_stands format is.directory is.directory store new parts course.at kept is.stands;
    lost = λ at.
        let means = copy_lost format is.directory store new at kept in
        (λ has. means.1 ((is.lost at).0 has), λ lost. (is.lost at).1 (means.0 lost));
    copied = λ other some.
        subst (λ (m : Move). unit_at new (place_of opening m.to) ≡ unit_at new (place_of opening (slice_index course.at m.part))) (same_move move other some) copied;
  }

  pub copy_same : SameVolume format store (slice_set store (place_of opening move.to) (unit_at store (place_of opening (slice_index course.at move.part))))
  copy_same = same_volume format laws is.directory is.directory store new is.accepted.described kept.accepted.described kept.contents
      (copy_system format movable is.directory store place (unit_at store from) is.accepted lost_place.available) refl
