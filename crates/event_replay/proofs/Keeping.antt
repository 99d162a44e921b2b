-- What holds of a run, by induction over it.
use Rattle.std.specs.Prelude.{◌≡◌, ◌⊎◌, ◌≤◌, ℕ, ◌+◌, false, List, [], ◌∷◌, All, length}
use Rattle.std.specs.List.{AllZip}
use Rattle.std.proofs.Common.{refl, sym, ap, subst, arith, inl, inr}
use Rattle.std.proofs.lemmas.List.Elements.{All-cons, All-nil}
use Rattle.vol_layout.specs.Rings.{IsDeficit}
use Rattle.vol_layout.proofs.Deficits.{deficit_is_one}
use Rattle.vol_format.specs.Accepted.{IsVolume}
use Rattle.vol_format.specs.Laws.{IsMovable, IsReadable}
use Rattle.vol_format.specs.Meaning.{Meaning}
use Rattle.vol_format.specs.Standing.{lost_places}
use Rattle.vol_check.proofs.Lost.{lost_are}
use Rattle.vol_format.specs.Files.{File, HasFiles}
use Rattle.vol_format.proofs.Kept.{same_files}
use Rattle.vol_format.proofs.OneList.{one_layout}
use Rattle.vol_mover.specs.Steps.{MovesOne}
use Rattle.vol_mover.specs.Volume.{SameVolume}
use Rattle.vol_mover.proofs.Volumes.{same_volume-refl, same_volume-trans}
use Rattle.file_formats.specs.FileNames.{GivenPath}
use Rattle.file_formats.specs.Files.{FileMeaning}
use Rattle.file_cmds.specs.FileList.{IsTextOfFirst}
use Rattle.file_cmds.proofs.ByList.{text_by_list}
use Rattle.event_replay.specs.Moments.{HasSession, Moment}
use Rattle.event_replay.specs.Runs.{IsRun, IsTurn, last_of, AllReopen, KeepsAll, KeepsVolume, LosesFew, Reads, ReadsFile, Reopens, Steps, Stops, wrote, read_failed, write_failed, write_failed_and_stands, nothing_left, not_open, gave, no_file, failed, no_memory, no_session, opened, refused}
use Rattle.event_replay.specs.Volumes.{HasDeficit, HasFewLost, HasRoom, Opens, Writes}
use Rattle.event_replay.proofs.Rooms.{room_kept, room_opens}
use Rattle.event_replay.specs.declared.event.Answer.{Answer}
use Rattle.event_replay.specs.declared.event.Answer.TheVariants.{Stepped, Bytes, Refused, NoMemory}
use Rattle.event_replay.specs.declared.event.Event.{Event}
use Rattle.event_replay.specs.declared.event.Event.TheVariants.{Step, Read, FailRead, FailWrite, Stop}

-- What a turn does to the store: nothing, or one unit write.
abbrev pub Moves : Meaning → Moment → Moment → Type 0
Moves format old new = ((new.store ≡ old.store) × (new.moves ≡ old.moves)) ⊎ ((mid : Moment) × Writes format old mid × (new.store ≡ mid.store) × (new.moves ≡ mid.moves))

module _ (A : Type 0) (format : Meaning) (files : FileMeaning) where
  step_moves : (old : Moment) (answer : Answer A) (new : Moment) → Steps format old answer new → Moves format old new
  step_moves old Stepped new (wrote left mid is comes none writes) = inr (mid, writes, refl, refl)
  step_moves old Refused new (read_failed left is ordered) = inl (refl, refl)
  step_moves old Refused new (write_failed left is comes ordered) = inl (refl, refl)
  step_moves old Refused new (write_failed_and_stands left mid is comes ordered writes) = inr (mid, writes, refl, refl)
  step_moves old Stepped new (nothing_left is order) = inl (refl, refl)
  step_moves old Refused new (not_open is) = inl (refl, refl)
  step_moves old (Bytes bytes) new steps = elim steps [ ]
  step_moves old NoMemory new steps = elim steps [ ]

  read_moves : (path : List ℕ) (old : Moment) (answer : Answer A) (new : Moment) → Reads format files path old answer new → Moves format old new
  read_moves path old answer new (gave told text there comes gives is) = inl (refl, refl)
  read_moves path old answer new (no_file there comes none) = inl (refl, refl)
  read_moves path old answer new (failed there ordered) = inl (refl, refl)
  read_moves path old answer new (no_memory there) = inl (refl, refl)
  read_moves path old answer new (no_session is) = inl (refl, refl)

  stop_moves : (old : Moment) (answer : Answer A) (new : Moment) → Stops format old answer new → Moves format old new
  stop_moves old answer new (opened lost writes comes opens) = inl (refl, refl)
  stop_moves old answer new (failed ordered) = inl (refl, refl)
  stop_moves old answer new (refused error comes can) = inl (refl, refl)

  pub turn_moves : (old : Moment) (event : Event) (answer : Answer A) (new : Moment) → IsTurn format files old event answer new → Moves format old new
  turn_moves old Step answer new turn = step_moves old answer new turn
  turn_moves old (Read path) answer new turn = read_moves path.now old answer new turn
  turn_moves old FailRead answer new (is, only) = inl (ap (λ (m : Moment). m.store) only, ap (λ (m : Moment). m.moves) only)
  turn_moves old (FailWrite took) answer new (is, only) = inl (ap (λ (m : Moment). m.store) only, ap (λ (m : Moment). m.moves) only)
  turn_moves old Stop answer new turn = stop_moves old answer new turn

-- how many unit writes stand: one more at most after each event
module _ (A : Type 0) (format : Meaning) (files : FileMeaning) where
  step_writes : (old : Moment) (answer : Answer A) (new : Moment) → Steps format old answer new → new.writes ≤ old.writes + 1
  step_writes old Stepped new (wrote left mid is comes none writes) = let made = ap (λ (m : Moment). m.writes) writes.only in omega (arith, made)
  step_writes old Refused new (read_failed left is ordered) = omega arith
  step_writes old Refused new (write_failed left is comes ordered) = omega arith
  step_writes old Refused new (write_failed_and_stands left mid is comes ordered writes) = let made = ap (λ (m : Moment). m.writes) writes.only in omega (arith, made)
  step_writes old Stepped new (nothing_left is order) = omega arith
  step_writes old Refused new (not_open is) = omega arith
  step_writes old (Bytes bytes) new steps = elim steps [ ]
  step_writes old NoMemory new steps = elim steps [ ]

  read_writes : (path : List ℕ) (old : Moment) (answer : Answer A) (new : Moment) → Reads format files path old answer new → new.writes ≤ old.writes + 1
  read_writes path old answer new (gave told text there comes gives is) = omega arith
  read_writes path old answer new (no_file there comes none) = omega arith
  read_writes path old answer new (failed there ordered) = omega arith
  read_writes path old answer new (no_memory there) = omega arith
  read_writes path old answer new (no_session is) = omega arith

  stop_writes : (old : Moment) (answer : Answer A) (new : Moment) → Stops format old answer new → new.writes ≤ old.writes + 1
  stop_writes old answer new (opened lost writes comes opens) = omega arith
  stop_writes old answer new (failed ordered) = omega arith
  stop_writes old answer new (refused error comes can) = omega arith

  turn_writes : (old : Moment) (event : Event) (answer : Answer A) (new : Moment) → IsTurn format files old event answer new → new.writes ≤ old.writes + 1
  turn_writes old Step answer new turn = step_writes old answer new turn
  turn_writes old (Read path) answer new turn = read_writes path.now old answer new turn
  turn_writes old FailRead answer new (is, only) = let same = ap (λ (m : Moment). m.writes) only in omega (arith, same)
  turn_writes old (FailWrite took) answer new (is, only) = let same = ap (λ (m : Moment). m.writes) only in omega (arith, same)
  turn_writes old Stop answer new turn = stop_writes old answer new turn

  pub run_writes : (old : Moment) (events : List Event) (answers : List (Answer A)) (run : List Moment) → IsRun format files old events answers run
      → (last_of old run).writes ≤ old.writes + length answers
  run_writes old [] [] [] is = omega arith
  run_writes old (event ∷ events) (answer ∷ answers) (new ∷ run) is =
      omega (arith, turn_writes old event answer new is.0, run_writes new events answers run is.1)
  run_writes old [] [] (new ∷ run) is = absurd is
  run_writes old [] (answer ∷ answers) run is = absurd is
  run_writes old (event ∷ events) [] run is = absurd is
  run_writes old (event ∷ events) (answer ∷ answers) [] is = absurd is

module _ (A : Type 0) (format : Meaning) (laws : IsReadable format) (movable : IsMovable format) (files : FileMeaning) (all : List File) (first : Moment) where
  is_volume : (now : Moment) → KeepsVolume format all first now → IsVolume format now.store
  is_volume now keeps = (keeps.files.directory, keeps.files.accepted)

  -- a unit write that stands
  module _ (old new : Moment) (keeps : KeepsVolume format all first old) (writes : Writes format old new) where
    has_files : HasFiles format new.store all
    has_files =
        (same_files format movable old.store new.store
        (λ before after was now. let v = writes.same before after was now in (v.0, v.2)) (is_volume old keeps) writes.volume all).0 keeps.files

    has_deficit : (deficit : ℕ) → HasDeficit format first.store deficit → (left : ℕ) × HasDeficit format new.store left × (new.moves + left ≡ deficit)
    has_deficit deficit is = by_change before.0 (subst (λ at. IsDeficit at before.0) same before.1.is) before.2 writes.layout.change
      where
        before : (left : ℕ) × HasDeficit format old.store left × (old.moves + left ≡ deficit)
        before = keeps.deficit deficit is

        same : before.1.at ≡ writes.layout.from
        same = one_layout format laws old.store before.1.at writes.layout.from before.1.layout writes.layout.was

        by_change : (left : ℕ) → IsDeficit writes.layout.from left → old.moves + left ≡ deficit
            → ((writes.layout.to ≡ writes.layout.from) × (new.moves ≡ old.moves))
            ⊎ (MovesOne (length writes.layout.directory.available) writes.layout.from writes.layout.to × (new.moves ≡ old.moves + 1))
            → (now : ℕ) × HasDeficit format new.store now × (new.moves + now ≡ deficit)
        by_change left at sum (inl (still, moves)) = (
          left,
          record { at = writes.layout.to; layout = writes.layout.is; is = subst (λ l. IsDeficit l left) (sym still) at },
          omega (arith, sum, moves),
        )
        by_change left at sum (inr (one, moves)) =
            let falls = deficit_is_one writes.layout.from left (one.deficit + 1) at one.before_it in (
              one.deficit,
              record { at = writes.layout.to; layout = writes.layout.is; is = one.after_it },
              omega (arith, sum, moves, falls),
            )

    keeps_write : KeepsVolume format all first new
    keeps_write = record {
      files = has_files;
      same = same_volume-trans format laws first.store old.store new.store keeps.files.directory keeps.files.accepted.described keeps.same writes.same;
      deficit = has_deficit;
      room = λ at_first. room_kept format laws old new writes (keeps.room at_first);
    }

  keeps_along : (old new : Moment) → KeepsVolume format all first old → new.store ≡ old.store → new.moves ≡ old.moves → KeepsVolume format all first new
  keeps_along old new keeps store moves = record {
    files = subst (λ s. HasFiles format s all) (sym store) keeps.files;
    same = subst (SameVolume format first.store) (sym store) keeps.same;
    deficit = λ deficit is.
        let before = keeps.deficit deficit is in
        (before.0, subst (λ s. HasDeficit format s before.0) (sym store) before.1, omega (arith, before.2, moves));
    room = λ at_first. subst (HasRoom format) (sym store) (keeps.room at_first);
  }

  keeps_turn : (old new : Moment) → KeepsVolume format all first old → Moves format old new → KeepsVolume format all first new
  keeps_turn old new keeps (inl (store, moves)) = keeps_along old new keeps store moves
  keeps_turn old new keeps (inr (mid, writes, store, moves)) = keeps_along mid new (keeps_write old mid keeps writes) store moves

  -- a read
  reads_file : (old : Moment) (event : Event) (answer : Answer A) (new : Moment) → KeepsVolume format all first old → IsTurn format files old event answer new
      → ReadsFile format files all event answer
  reads_file old (Read path) (Bytes bytes) new keeps (gave told text there comes gives is) =
      subst (IsTextOfFirst files format.unit_size all (GivenPath path.now) false) (sym gives) (text_by_list format laws files old.store all keeps.files (GivenPath path.now) false text is)
  reads_file old (Read path) Stepped new keeps turn = tt
  reads_file old (Read path) Refused new keeps turn = tt
  reads_file old (Read path) NoMemory new keeps turn = tt
  reads_file old Step answer new keeps turn = tt
  reads_file old FailRead answer new keeps turn = tt
  reads_file old (FailWrite took) answer new keeps turn = tt
  reads_file old Stop answer new keeps turn = tt

  -- lost places
  few_moved : (old : Moment) (answer : Answer A) (new : Moment) → LosesFew format old → Steps format old answer new → LosesFew format new
  few_moved old Stepped new few (wrote left mid is comes none writes) =
      subst (λ o. HasFewLost format o mid.store mid.writes) (sym (ap (λ (m : Moment). m.opened) writes.only)) writes.few
  few_moved old Refused new few (read_failed left is ordered) = few
  few_moved old Refused new few (write_failed left is comes ordered) = few
  few_moved old Refused new few (write_failed_and_stands left mid is comes ordered writes) =
      subst (λ o. HasFewLost format o mid.store mid.writes) (sym (ap (λ (m : Moment). m.opened) writes.only)) writes.few
  few_moved old Stepped new few (nothing_left is order) = few
  few_moved old Refused new few (not_open is) = few
  few_moved old (Bytes bytes) new few steps = elim steps [ ]
  few_moved old NoMemory new few steps = elim steps [ ]

  pub few_opened : (store : List (List ℕ)) (lost : List ℕ) (writes : ℕ) (opens : Opens format store lost writes) (made moves : ℕ)
      → HasFewLost format (record { lost = lost; writes = made; moves = moves }) store made
  few_opened store lost writes opens made moves = record {
    directory = opens.directory;
    described = opens.accepted.described;
    lost = lost_places opens.directory opens.parts;
    all = λ place. lost_are format opens.directory store opens.parts opens.are_parts place (lost_places opens.directory opens.parts) refl;
    few = inr (inr (inl (refl, sym opens.lost_are)));
  }

  few_read : (path : List ℕ) (old : Moment) (answer : Answer A) (new : Moment) → LosesFew format old → Reads format files path old answer new → LosesFew format new
  few_read path old answer new few (gave told text there comes gives is) = few
  few_read path old answer new few (no_file there comes none) = few
  few_read path old answer new few (failed there ordered) = few
  few_read path old answer new few (no_memory there) = few
  few_read path old answer new few (no_session is) = few

  few_stop : (old : Moment) (answer : Answer A) (new : Moment) → LosesFew format old → Stops format old answer new → LosesFew format new
  few_stop old answer new few (opened lost writes comes opens) = few_opened old.store lost writes opens old.writes old.moves
  few_stop old answer new few (failed ordered) = few
  few_stop old answer new few (refused error comes can) = few

  few_turn : (old : Moment) (event : Event) (answer : Answer A) (new : Moment) → LosesFew format old → IsTurn format files old event answer new → LosesFew format new
  few_turn old Step answer new few turn = few_moved old answer new few turn
  few_turn old (Read path) answer new few turn = few_read path.now old answer new few turn
  few_turn old FailRead answer new few (is, only) = subst (LosesFew format) (sym only) few
  few_turn old (FailWrite took) answer new few (is, only) = subst (LosesFew format) (sym only) few
  few_turn old Stop answer new few turn = few_stop old answer new few turn

  keeps_run : (old : Moment) (events : List Event) (answers : List (Answer A)) (run : List Moment) → KeepsVolume format all first old
      → IsRun format files old events answers run → All (KeepsVolume format all first) (old ∷ run)
  keeps_run old [] [] [] keeps is = All-cons (KeepsVolume format all first) old [] keeps (All-nil (KeepsVolume format all first))
  keeps_run old (event ∷ events) (answer ∷ answers) (new ∷ run) keeps is =
      All-cons (KeepsVolume format all first) old (new ∷ run) keeps
      (keeps_run new events answers run (keeps_turn old new keeps (turn_moves A format files old event answer new is.0)) is.1)
  keeps_run old [] [] (new ∷ run) keeps is = absurd is
  keeps_run old [] (answer ∷ answers) run keeps is = absurd is
  keeps_run old (event ∷ events) [] run keeps is = absurd is
  keeps_run old (event ∷ events) (answer ∷ answers) [] keeps is = absurd is

  few_run : (old : Moment) (events : List Event) (answers : List (Answer A)) (run : List Moment) → LosesFew format old
      → IsRun format files old events answers run → All (LosesFew format) (old ∷ run)
  few_run old [] [] [] few is = All-cons (LosesFew format) old [] few (All-nil (LosesFew format))
  few_run old (event ∷ events) (answer ∷ answers) (new ∷ run) few is =
      All-cons (LosesFew format) old (new ∷ run) few (few_run new events answers run (few_turn old event answer new few is.0) is.1)
  few_run old [] [] (new ∷ run) few is = absurd is
  few_run old [] (answer ∷ answers) run few is = absurd is
  few_run old (event ∷ events) [] run few is = absurd is
  few_run old (event ∷ events) (answer ∷ answers) [] few is = absurd is

  reads_run : (old : Moment) (events : List Event) (answers : List (Answer A)) (run : List Moment) → KeepsVolume format all first old
      → IsRun format files old events answers run → AllZip (ReadsFile format files all) events answers
  reads_run old [] [] [] keeps is = tt
  reads_run old (event ∷ events) (answer ∷ answers) (new ∷ run) keeps is = (
    reads_file old event answer new keeps is.0,
    reads_run new events answers run (keeps_turn old new keeps (turn_moves A format files old event answer new is.0)) is.1,
  )
  reads_run old [] [] (new ∷ run) keeps is = absurd is
  reads_run old [] (answer ∷ answers) run keeps is = absurd is
  reads_run old (event ∷ events) [] run keeps is = absurd is
  reads_run old (event ∷ events) (answer ∷ answers) [] keeps is = absurd is

  reopens : (old : Moment) (event : Event) (answer : Answer A) (new : Moment) → HasRoom format old.store → IsTurn format files old event answer new → Reopens old event new
  reopens old Stop answer new room (opened lost writes comes opens) = inl tt
  reopens old Stop answer new room (failed ordered) = inr ordered
  reopens old Stop answer new room (refused error comes can) = absurd (room_opens format laws old.store error room can)
  reopens old Step answer new room turn = tt
  reopens old (Read path) answer new room turn = tt
  reopens old FailRead answer new room turn = tt
  reopens old (FailWrite took) answer new room turn = tt

  reopen_run : (old : Moment) (events : List Event) (answers : List (Answer A)) (run : List Moment) → HasRoom format first.store → KeepsVolume format all first old
      → IsRun format files old events answers run → AllReopen old events run
  reopen_run old [] [] [] room keeps is = tt
  reopen_run old (event ∷ events) (answer ∷ answers) (new ∷ run) room keeps is = (
    reopens old event answer new (keeps.room room) is.0,
    reopen_run new events answers run room (keeps_turn old new keeps (turn_moves A format files old event answer new is.0)) is.1,
  )
  reopen_run old [] [] (new ∷ run) room keeps is = absurd is
  reopen_run old [] (answer ∷ answers) run room keeps is = absurd is
  reopen_run old (event ∷ events) [] run room keeps is = absurd is
  reopen_run old (event ∷ events) (answer ∷ answers) [] room keeps is = absurd is

  starts : HasFiles format first.store all → first.moves ≡ 0 → KeepsVolume format all first first
  starts has none = record {
    files = has;
    same = same_volume-refl format laws first.store;
    deficit = λ deficit is. (deficit, is, omega (arith, none));
    room = λ at_first. at_first;
  }

  pub keeps_all : (events : List Event) (answers : List (Answer A)) (run : List Moment) → HasFiles format first.store all → first.moves ≡ 0
      → (HasSession first.session → LosesFew format first) → IsRun format files first events answers run → KeepsAll format files all first events answers run
  keeps_all events answers run has none few is = record {
    volumes = keeps_run first events answers run (starts has none) is;
    lost = λ there. few_run first events answers run (few there) is;
    reads = reads_run first events answers run (starts has none) is;
    reopens = λ room. reopen_run first events answers run room (starts has none) is;
  }
