-- Which unit, written where, makes the first of the writes left.
use Rattle.std.specs.Prelude.{◌≡◌, ◌<◌, ℕ, List, ◌∷◌, length, slice_index, slice_set}
use Rattle.std.proofs.Common.{sym, ◌∙◌, ap, subst}
use Rattle.a2_device.specs.Device.{IsWhole, unit_at}
use Rattle.a2_device.specs.declared.part.Part.{Part}
use Rattle.vol_layout.specs.declared.moves.Move.{Move}
use Rattle.vol_format.specs.Accepted.{IsAccepted}
use Rattle.vol_format.specs.Directory.{Directory, IsSameFrame}
use Rattle.vol_format.specs.Holding.{IsHolder, with_slot}
use Rattle.vol_format.specs.Laws.{IsReadable, IsMovable, IsWritable}
use Rattle.vol_format.specs.Meaning.{Meaning}
use Rattle.vol_format.specs.Standing.{Stands, part_now}
use Rattle.vol_format.specs.declared.link.Holder.{Holder}
use Rattle.vol_laws.specs.Marked.{with_marks}
use Rattle.vol_laws.specs.declared.mark.Mark.{Mark}
use Rattle.vol_mover.specs.Tasks.{Course, Task, Map, Copy, Pointer, Fits, IsFewLost, IsAgenda, course_after, place_of}
use Rattle.vol_mover.specs.Open.{IsOpen}
use Rattle.vol_mover.specs.Present.{Present, IsSession}
use Rattle.vol_mover.specs.Steps.{IsNextWrite}
use Rattle.vol_mover.specs.Volume.{SameVolume}
use Rattle.vol_mover.proofs.MapWrites.{map_open, map_same}
use Rattle.vol_mover.proofs.CopyWrites.{copy_open, copy_same}
use Rattle.vol_mover.proofs.PointerWrites.{pointer_open, pointer_same}

-- wherever the parts stand as the layout says, this holds the pointer to part k
abbrev pub FindsHolder : Meaning → Directory → List Part → List ℕ → Holder → ℕ → Type 0
FindsHolder format opening parts at holder k = (present : Directory) (store : List (List ℕ)) → IsSameFrame opening present
    → IsAccepted format present store → Stands format present store parts at → IsHolder format present store (part_now parts present.available at k) holder

-- the first of the writes left fits
pub first_fits : (format : Meaning) (old : Present) (course : Course) → IsSession format old course → (task : Task) (rest : List Task) → old.tasks ≡ task ∷ rest
    → Fits old.opening course task × IsFewLost (length old.opening.map_units) old.lost_at_first course (task ∷ rest)
    × IsAgenda old.opening old.lost_at_first (course_after old.opening course task) rest
first_fits format old course session task rest next = subst (IsAgenda old.opening old.lost_at_first course) next session.agenda

module _ (format : Meaning) (laws : IsReadable format) (movable : IsMovable format) (writable : IsWritable format) (old : Present) (course : Course)
    (session : IsSession format old course) (whole : IsWhole old.device) (is : IsOpen format old.opening old.device.store old.parts course) (rest : List Task) where
  abbrev store : List (List ℕ)
  store = old.device.store

  whole_unit : (place : ℕ) → place < old.opening.places → length (unit_at store place) ≡ format.unit_size
  whole_unit place inside = whole.units place (subst (λ n. place < n) (sym session.places) inside) ∙ session.unit_size

  pub map_next : (at : ℕ) (marks : List Mark) (unit : List ℕ) → old.tasks ≡ Map at marks ∷ rest → unit ≡ with_marks format (unit_at old.device.store at) marks
      → IsNextWrite format old course at unit
  map_next at marks unit next unit_is =
      let fits = (first_fits format old course session (Map at marks) rest next).0 in
      let full = whole_unit at fits.1 in
      record {
        task = Map at marks;
        rest = rest;
        first = next;
        is_open = subst (λ u. IsOpen format old.opening (slice_set store at u) old.parts (course_after old.opening course (Map at marks))) (sym unit_is)
            (map_open format laws movable writable old.opening store old.parts course is at marks full fits.0 fits.2);
        same = subst (λ u. SameVolume format store (slice_set store at u)) (sym unit_is)
            (map_same format laws movable writable old.opening store old.parts course is at marks full fits.0 fits.2);
      }

  -- where the part that a move takes stands, and where it goes
  pub copy_next : (move : Move) (from to : ℕ) (unit : List ℕ) → old.tasks ≡ Copy move ∷ rest → from ≡ place_of old.opening (slice_index old.at move.part)
      → to ≡ place_of old.opening move.to → unit ≡ unit_at old.device.store from → IsNextWrite format old course to unit
  copy_next move from to unit next from_is to_is unit_is =
      let fits = (first_fits format old course session (Copy move) rest next).0 in
      let read : unit ≡ unit_at store (place_of old.opening (slice_index course.at move.part)) =
      unit_is ∙ ap (unit_at store) from_is ∙ ap (λ at. unit_at store (place_of old.opening (slice_index at move.part))) (sym session.layout) in
      record {
        task = Copy move;
        rest = rest;
        first = next;
        is_open = subst (λ n. IsOpen format old.opening (slice_set store n unit) old.parts (course_after old.opening course (Copy move))) (sym to_is)
            (subst (λ u. IsOpen format old.opening (slice_set store (place_of old.opening move.to) u) old.parts (course_after old.opening course (Copy move))) (sym read)
            (copy_open format laws movable old.opening store old.parts course is move fits.1 fits.2));
        same = subst (λ n. SameVolume format store (slice_set store n unit)) (sym to_is)
            (subst (λ u. SameVolume format store (slice_set store (place_of old.opening move.to) u)) (sym read)
            (copy_same format laws movable old.opening store old.parts course is move fits.1 fits.2));
      }

  pub pointer_next : (move : Move) (holder : Holder) (to : ℕ) (unit : List ℕ) → old.tasks ≡ Pointer move ∷ rest
      → FindsHolder format old.opening old.parts old.at holder move.part → holder.place < old.opening.places → to ≡ place_of old.opening move.to
      → unit ≡ with_slot format (unit_at old.device.store holder.place) holder to → IsNextWrite format old course holder.place unit
  pointer_next move holder to unit next finds inside to_is unit_is =
      let fits = (first_fits format old course session (Pointer move) rest next).0 in
      let held = subst (λ at. FindsHolder format old.opening old.parts at holder move.part) (sym session.layout) finds is.directory store is.frame is.accepted is.stands in
      let within = subst (λ n. holder.place < n) (sym session.places ∙ sym whole.all) inside in
      let written : unit ≡ with_slot format (unit_at store holder.place) holder (place_of old.opening move.to) =
      unit_is ∙ ap (with_slot format (unit_at store holder.place) holder) to_is in
      record {
        task = Pointer move;
        rest = rest;
        first = next;
        is_open = subst (λ u. IsOpen format old.opening (slice_set store holder.place u) old.parts (course_after old.opening course (Pointer move))) (sym written)
            (pointer_open format laws movable writable old.opening store old.parts course is session.takes move fits.0 fits.1 fits.2 holder held within
            (whole_unit holder.place inside));
        same = subst (λ u. SameVolume format store (slice_set store holder.place u)) (sym written)
            (pointer_same format laws movable writable old.opening store old.parts course is session.takes move fits.0 fits.1 fits.2 holder held within
            (whole_unit holder.place inside));
      }
