-- A replay, from its first moment to its last.
use Rattle.std.specs.Prelude.{◌≡◌, ◌⊎◌, ◌<◌, ◌≤◌, ◌&&◌, ℕ, suc, zero, ◌+◌, ◌-◌, Bool, true, false, IsTrue, Option, unwrap_or, List, [], ◌∷◌, ◌++◌, length, take, slice_get, None, Some}
use Rattle.std.proofs.Common.{refl, sym, ◌∙◌, ap, subst, arith, inl, inr, get_or}
use Rattle.std.proofs.lemmas.List.{take_more}
use Rattle.a2_device.specs.Device.{DeviceState, OnlyReads, last_count}
use Rattle.event_replay.specs.Volumes.{HasRoom}
use Rattle.vol_format.specs.Laws.{IsMovable, IsReadable}
use Rattle.vol_format.specs.Meaning.{Meaning}
use Rattle.vol_format.specs.Files.{File, HasFiles}
use Rattle.file_formats.specs.Files.{FileMeaning}
use Rattle.event_replay.specs.Held.{HasRun, IsAt, IsDeviceAt, RanFrom, RanTo}
use Rattle.event_replay.specs.Holds.{Holds, TurnsHolds, device_of}
use Rattle.event_replay.specs.Moments.{Absent, FailsNothing, HasSession, Moment, first_moment}
use Rattle.event_replay.specs.Runs.{Begins, IsReplay, IsRun, KeepsAll, LosesFew, last_of, opened, refused}
use Rattle.event_replay.specs.Orders.{MeetsOrders, since}
use Rattle.event_replay.specs.Unfailing.{HandsBack, fails_nothing, has_no_reads, has_no_writes, is_empty, is_none, unfailing}
use Rattle.event_replay.specs.lemmas.Tests.{first_test}
use Rattle.event_replay.specs.declared.event.Answer.{Answer}
use Rattle.event_replay.specs.declared.event.Event.{Event}
use Rattle.event_replay.specs.declared.event.Event.TheVariants.{Step, Stop}
use Rattle.event_replay.proofs.Devices.{only_read}
use Rattle.event_replay.proofs.Keeping.{few_opened, keeps_all, run_writes}
use Rattle.event_replay.proofs.Rooms.{room_opens}
use Rattle.event_replay.proofs.Turns.{last_on, run_on, turn_line}

-- the first that was not answered
pub found_at : (events : List Event) (index : ℕ) → index < length events → get_or events index Step ≡ Stop → slice_get events index ≡ Some Stop
found_at [] index within is = absurd (omega (arith, within))
found_at (event ∷ events) zero within is = ap Some is
found_at (event ∷ events) (suc index) within is = found_at events index (omega (arith, within)) is

-- a device that is honest and fails nothing, by the test
pub unfailing_again : (device : DeviceState) (calls : ℕ) → IsTrue (device.honest && fails_nothing device) → device.writes + calls ≤ last_count
    → FailsNothing device calls
unfailing_again device calls all room =
    let nothing = second_test device.honest (fails_nothing device) all in
    let reads = second_test (is_empty device.unreadable) _ nothing in
    let writes = second_test (has_no_reads device.read_failures) _ reads in record {
      honest = first_test device.honest (fails_nothing device) all;
      readable = empty_is device.unreadable (first_test (is_empty device.unreadable) _ nothing);
      reads = no_reads device.read_failures (first_test (has_no_reads device.read_failures) _ reads);
      writes = no_writes device.write_failures (first_test (has_no_writes device.write_failures) _ writes);
      passes = none_is device.passes (second_test (has_no_writes device.write_failures) _ writes);
      room = room;
    }
  where
    second_test : (a b : Bool) → IsTrue (a && b) → IsTrue b
    second_test true b holds = holds
    second_test false b holds = absurd (cc (holds))

    empty_is : (places : List ℕ) → IsTrue (is_empty places) → places ≡ []
    empty_is [] test = refl
    empty_is (place ∷ places) test = absurd (cc (test))

    no_reads : (failures : Option ℕ) → IsTrue (has_no_reads failures) → failures ≡ Some 0
    no_reads (Some zero) test = refl
    no_reads (Some (suc n)) test = absurd (cc (test))
    no_reads None test = absurd (cc (test))

    no_writes : (failures : Option (List Bool)) → IsTrue (has_no_writes failures) → failures ≡ Some []
    no_writes (Some []) test = refl
    no_writes (Some (took ∷ rest)) test = absurd (cc (test))
    no_writes None test = absurd (cc (test))

    none_is : (passes : Option ℕ) → IsTrue (is_none passes) → passes ≡ None
    none_is None test = refl
    none_is (Some n) test = absurd (cc (test))

-- a device that fails nothing, before the first event
pub unfailing_at : (device : DeviceState) (left : ℕ) → FailsNothing device left → IsDeviceAt device.writes left (since 0 (unfailing false device)) false None device.store 0
unfailing_at device left nothing = record {
  honest = rw (nothing.honest, nothing.readable, nothing.reads, nothing.writes, nothing.passes) refl;
  readable = refl;
  reads = refl;
  orders = refl;
  meets = record {
    passes = λ none. let gone : last_count + 1 - device.writes ≡ 0 = ap (λ (n : Option ℕ). unwrap_or n 0) none in omega (arith, gone, nothing.room);
    none_tried = λ _ took ordered. absurd (cc (ordered));
  };
  stands = refl;
  standing = omega arith;
  room = nothing.room;
}

module _ (A : Type 0) (format : Meaning) (laws : IsReadable format) (movable : IsMovable format) (files : FileMeaning) (base : ℕ) where
  pub has_begun : (left n : ℕ) (first : Moment) (held : Holds) (answers : List (Answer A)) → n ≡ left → answers ≡ [] → IsAt format base left held first
      → HasRun format files base n first [] answers held
  has_begun left n first held answers same none at =
      subst (λ (given : List (Answer A)). HasRun format files base n first [] given held) (sym none)
      (subst (λ m. HasRun {A = A} format files base m first [] [] held) (sym same) (record { run = []; is_run = tt; at = at }))

  pub goes_on : (first : Moment) (events : List Event) (index : ℕ) (answers more : List (Answer A)) (answer : Answer A) (old new : Holds) → index < length events
      → more ≡ answers ++ answer ∷ [] → MeetsOrders (device_of new)
      → HasRun format files base (length events - index) first (take index events) answers old
      → TurnsHolds format files (get_or events index Step) old answer new
      → HasRun format files base (length events - (index + 1)) first (take (index + 1) events) more new
  goes_on first events index answers more answer old new within is meets has turns =
      let left = length events - (index + 1) in
      let event = get_or events index Step in
      let one_less : length events - index ≡ left + 1 = omega (arith, within) in
      let line = turn_line A format laws movable files base left event answer old new (last_of first has.run)
      (subst (λ n. IsAt format base n old (last_of first has.run)) one_less has.at) meets turns in
      record {
        run = has.run ++ line.0 ∷ [];
        is_run = subst (λ (es : List Event). IsRun format files first es more (has.run ++ line.0 ∷ [])) (sym (take_more events index Step within))
            (subst (λ (given : List (Answer A)). IsRun format files first (take index events ++ event ∷ []) given (has.run ++ line.0 ∷ [])) (sym is)
            (run_on A format laws movable files base left first line.0 (take index events) answers has.run event answer has.is_run line.1));
        at = subst (IsAt format base left new) (sym (last_on A format laws movable files base left first line.0 has.run)) line.2;
      }

  pub ends_here : (left : ℕ) (first : Moment) (events : List Event) (index : ℕ) (answers : List (Answer A)) (held : Holds) (device : DeviceState) → length answers ≡ index
      → HasRun format files base left first (take index events) answers held → device ≡ device_of held → RanTo format files base first events answers device
  ends_here left first events index answers held device count has same = record {
    run = has.run;
    is_run = subst (λ n. IsRun format files first (take n events) answers has.run) (sym count) has.is_run;
    honest = ap (λ (d : DeviceState). d.honest) same ∙ has.at.0.honest;
    store = ap (λ (d : DeviceState). d.store) same ∙ has.at.0.stands;
    standing = ap (λ (d : DeviceState). d.standing) same ∙ has.at.0.standing;
  }

  pub ends_early : (left : ℕ) (first : Moment) (events : List Event) (index : ℕ) (answers : List (Answer A)) (held : Holds) (device : DeviceState) → length answers ≡ index
      → HasRun format files base left first (take index events) answers held → OnlyReads false (device_of held) device → RanTo format files base first events answers device
  ends_early left first events index answers held device count has reads =
      let now = last_of first has.run in
      ends_here left first events index answers held device count has
      (only_read base left (device_of held) device now.fails_read now.fails_write now.store now.writes has.at.0 reads)

  -- where there was no memory for the first opening
  pub not_begun : (left : ℕ) (store : List (List ℕ)) (events : List Event) (answers : List (Answer A)) (old new : DeviceState) → answers ≡ []
      → IsDeviceAt base left old false None store 0 → new ≡ old → RanFrom format files base store events answers new
  not_begun left store events answers old new none at same = subst (λ (given : List (Answer A)). RanFrom format files base store events given new) (sym none) (record {
    first = first_moment store Absent [];
    begins = inr (refl, refl);
    ran = record {
      run = [];
      is_run = tt;
      honest = ap (λ (d : DeviceState). d.honest) same ∙ at.honest;
      store = ap (λ (d : DeviceState). d.store) same ∙ at.stands;
      standing = ap (λ (d : DeviceState). d.standing) same ∙ at.standing;
    };
  })

  first_few : (store : List (List ℕ)) (first : Moment) → Begins A format store first → HasSession first.session → LosesFew format first
  first_few store first (opened lost writes opens) there = few_opened A format laws movable files [] (first_moment store Absent []) store lost writes opens 0 0
  first_few store first (refused error can) there = absurd there

  first_session : (store : List (List ℕ)) (answers : List (Answer A)) (first : Moment) → Begins A format store first ⊎ ((answers ≡ []) × (first ≡ first_moment store Absent []))
      → HasRoom format store → (answers ≡ []) ⊎ HasSession first.session
  first_session store answers first (inl (opened lost writes opens)) room = inr tt
  first_session store answers first (inl (refused error can)) room = absurd (room_opens format laws store error room can)
  first_session store answers first (inr none) room = inl none.0

  first_writes : (store : List (List ℕ)) (first : Moment) → Begins A format store first → first.writes ≡ 0
  first_writes store first (opened lost writes opens) = refl
  first_writes store first (refused error can) = refl

  first_store : (store : List (List ℕ)) (first : Moment) → Begins A format store first → (first.store ≡ store) × (first.moves ≡ 0)
  first_store store first (opened lost writes opens) = (refl, refl)
  first_store store first (refused error can) = (refl, refl)

  -- the device that is handed back: its store, its count of writes, and what it does when it is used again
  pub is_replay : (events : List Event) (answers : List (Answer A)) (old last new : DeviceState) → base ≡ old.writes → length answers ≤ length events
      → RanFrom format files base old.store events answers last → HandsBack last new → IsReplay format files events answers old new
  is_replay events answers old last new from front ran back = record {
    first = ran.first;
    begins = ran.begins;
    opens = first_session old.store answers ran.first ran.begins;
    run = ran.ran.run;
    is_run = ran.ran.is_run;
    store = back.store ∙ ran.ran.store;
    writes = made;
    keeps = λ all has. keeps all has ran.begins;
    again = λ calls room. unfailing_again new calls (back.unfailing ran.ran.honest) (omega (arith, room, made, few, front));
  }
    where
      keeps : (all : List File) → HasFiles format old.store all → Begins A format old.store ran.first ⊎ ((answers ≡ []) × (ran.first ≡ first_moment old.store Absent []))
          → KeepsAll format files all ran.first (take (length answers) events) answers ran.ran.run
      keeps all has (inl begins) =
          let at = first_store old.store ran.first begins in
          keeps_all A format laws movable files all ran.first (take (length answers) events) answers ran.ran.run (subst (λ s. HasFiles format s all) (sym at.0) has) at.1
          (first_few old.store ran.first begins) ran.ran.is_run
      keeps all has (inr (none, is)) =
          keeps_all A format laws movable files all ran.first (take (length answers) events) answers ran.ran.run
          (subst (λ s. HasFiles format s all) (sym (ap (λ (m : Moment). m.store) is)) has) (ap (λ (m : Moment). m.moves) is)
          (λ there. absurd (subst HasSession (ap (λ (m : Moment). m.session) is) there)) ran.ran.is_run

      made : new.writes ≡ old.writes + (last_of ran.first ran.ran.run).writes
      made = back.writes ∙ ran.ran.standing ∙ ap (λ (n : ℕ). n + (last_of ran.first ran.ran.run).writes) from

      by_begin : Begins A format old.store ran.first ⊎ ((answers ≡ []) × (ran.first ≡ first_moment old.store Absent [])) → ran.first.writes ≡ 0
      by_begin (inl begins) = first_writes old.store ran.first begins
      by_begin (inr (none, is)) = ap (λ (m : Moment). m.writes) is

      few : (last_of ran.first ran.ran.run).writes ≤ length answers
      few =
          let start : ran.first.writes ≡ 0 = by_begin ran.begins in
          omega (arith, start, run_writes A format files ran.first (take (length answers) events) answers ran.ran.run ran.ran.is_run)
