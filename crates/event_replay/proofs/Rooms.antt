-- A volume that has a free place, or is in order, stays so, and a session is opened on it.
use Rattle.std.specs.Prelude.{◌≡◌, ◌≢◌, ◌⊎◌, ℕ, ◌+◌, List, [], length, replicate}
use Rattle.std.proofs.Common.{sym, ◌∙◌, ap, subst, arith, inl, inr}
use Rattle.std.proofs.lemmas.List.{length-replicate, length-set}
use Rattle.a2_device.specs.declared.part.Part.{Part}
use Rattle.vol_layout.specs.Layouts.{misplaced}
use Rattle.vol_layout.specs.Rings.{IsDeficit}
use Rattle.vol_layout.specs.declared.moves.Move.{Move}
use Rattle.move_plan.specs.Planning.{LacksFreePlace}
use Rattle.vol_format.specs.Directory.{Directory, IsSameFrame}
use Rattle.vol_format.specs.Laws.{IsReadable}
use Rattle.vol_format.specs.Meaning.{Meaning}
use Rattle.vol_format.specs.Reach.{IsPartsOf}
use Rattle.vol_format.specs.Standing.{layout_of}
use Rattle.vol_format.specs.Layout.{HasLayout}
use Rattle.vol_format.proofs.OneList.{one_parts}
use Rattle.vol_mover.specs.declared.error.OpenError.{OpenError}
use Rattle.vol_mover.specs.declared.error.OpenError.TheVariants.{Check, Lost, NoFreePlace, Device, Memory}
use Rattle.vol_mover.specs.Steps.{MovesOne}
use Rattle.vol_mover.proofs.Deficits.{no_moves}
use Rattle.event_replay.specs.Moments.{Moment}
use Rattle.event_replay.specs.Volumes.{CantOpen, HasRoom, Writes}

-- where a part moves, some part was misplaced
moves_misplaced : (places : ℕ) (from to : List ℕ) → MovesOne places from to → misplaced from ≢ []
moves_misplaced places from to one none =
    let moves : List Move = replicate (one.deficit + 1) one.move in
    let count : length moves ≡ one.deficit + 1 = length-replicate (one.deficit + 1) one.move in
    let no_move : length moves ≡ 0 = ap (λ (ms : List Move). length ms) (no_moves from moves (subst (IsDeficit from) (sym count) one.before_it) none) in
    absurd (omega (arith, count, no_move))

module _ (format : Meaning) (laws : IsReadable format) where
  -- what a volume with room says of its layout
  is_free : (store : List (List ℕ)) (at : List ℕ) → HasRoom format store → (layout : HasLayout format store at)
      → ¬ LacksFreePlace (record { at = at; places = length layout.directory.available })
  is_free store at room layout =
      let same : room.directory ≡ layout.directory = laws.one_directory store room.directory layout.directory room.accepted.described layout.accepted.described in
      let parts : room.parts ≡ layout.parts =
      one_parts format layout.directory store room.parts layout.parts (subst (λ d. IsPartsOf format d store room.parts) same room.are_parts) layout.are_parts in
      subst (λ a. ¬ LacksFreePlace (record { at = a; places = length layout.directory.available })) (sym layout.is)
      (subst (λ (ps : List Part). ¬ LacksFreePlace (record { at = layout_of layout.directory ps; places = length layout.directory.available })) parts
      (subst (λ d. ¬ LacksFreePlace (record { at = layout_of d room.parts; places = length d.available })) same room.free))

  has_room : (store : List (List ℕ)) (at : List ℕ) (layout : HasLayout format store at)
      → ¬ LacksFreePlace (record { at = at; places = length layout.directory.available }) → HasRoom format store
  has_room store at layout free = record {
    directory = layout.directory;
    accepted = layout.accepted;
    parts = layout.parts;
    are_parts = layout.are_parts;
    free = subst (λ a. ¬ LacksFreePlace (record { at = a; places = length layout.directory.available })) layout.is free;
  }

  -- a unit write that stands leaves room
  module _ (old new : Moment) (writes : Writes format old new) where
    abbrev was : Directory
    was = writes.layout.was.directory

    abbrev is : Directory
    is = writes.layout.is.directory

    frame : IsSameFrame was is
    frame = (writes.same was is writes.layout.was.accepted.described writes.layout.is.accepted.described).2

    same_places : length is.available ≡ length was.available
    same_places = ap (λ (d : Directory). length d.available) frame

    pub room_kept : HasRoom format old.store → HasRoom format new.store
    room_kept room = has_room new.store writes.layout.to writes.layout.is (by_change writes.layout.change)
      where
        by_change : ((writes.layout.to ≡ writes.layout.from) × (new.moves ≡ old.moves))
            ⊎ (MovesOne (length writes.layout.directory.available) writes.layout.from writes.layout.to × (new.moves ≡ old.moves + 1))
            → ¬ LacksFreePlace (record { at = writes.layout.to; places = length is.available })
        by_change (inl (still, moves)) lacks =
            is_free old.store writes.layout.from room writes.layout.was
            (subst (λ at. misplaced at ≢ []) still lacks.0, ap (λ (at : List ℕ). length at) (sym still) ∙ lacks.1 ∙ same_places)
        by_change (inr (one, moves)) lacks =
            let size : length writes.layout.to ≡ length writes.layout.from =
            ap (λ (at : List ℕ). length at) one.is ∙ length-set writes.layout.from one.move.part one.move.to in
            is_free old.store writes.layout.from room writes.layout.was
            (moves_misplaced (length writes.layout.directory.available) writes.layout.from writes.layout.to one, sym size ∙ lacks.1 ∙ same_places)

  -- nothing of a volume with room stands against a session
  pub room_opens : {A : Type 0} (store : List (List ℕ)) (error : OpenError A) → HasRoom format store → CantOpen format store error → ⊥
  room_opens store (Check faults) room can = can.refused room.directory room.accepted
  room_opens store NoFreePlace room can =
      let same : room.directory ≡ can.directory = laws.one_directory store room.directory can.directory room.accepted.described can.accepted.described in
      let parts : room.parts ≡ can.told.parts =
      one_parts format can.directory store room.parts can.told.parts (subst (λ d. IsPartsOf format d store room.parts) same room.are_parts) can.parts in
      let free = subst (λ (ps : List Part). ¬ LacksFreePlace (record { at = layout_of can.directory ps; places = length can.directory.available })) parts
      (subst (λ d. ¬ LacksFreePlace (record { at = layout_of d room.parts; places = length d.available })) same room.free) in
      free (subst LacksFreePlace can.is_told.layout can.refuses.1)
  room_opens store (Lost count) room can = can
  room_opens store Device room can = can
  room_opens store Memory room can = can
