-- A read of a replay is a line of a run, and so is the order of a failure.
use Rattle.std.specs.Prelude.{◌≡◌, ◌<◌, ℕ, ◌+◌, Bool, true, false, List, length, Result, Ok, Err, IfOk, IsTrue, Option, Some}
use Rattle.std.proofs.Common.{refl, sym, ◌∙◌, ap, subst, arith, inl, inr}
use Rattle.a2_device.specs.Device.{DeviceState, OnlyReads}
use Rattle.vol_format.specs.Accepted.{IsAccepted, IsVolume}
use Rattle.vol_format.specs.Directory.{Directory, entries}
use Rattle.vol_format.specs.Laws.{IsReadable}
use Rattle.vol_format.specs.Meaning.{Meaning}
use Rattle.vol_mover.specs.Present.{Present, IsSession}
use Rattle.vol_mover.specs.Resuming.{CanResume}
use Rattle.vol_mover.proofs.Sessions.{resumed_session}
use Rattle.file_formats.specs.FileNames.{GivenPath}
use Rattle.file_formats.specs.Files.{FileMeaning}
use Rattle.file_cmds.specs.Read.{IsTextAt, IsUnreadable, HasNoFile}
use Rattle.file_cmds.specs.Text.{OwnFault, other_type, wild_root, wild_pointer, shared}
use Rattle.file_cmds.specs.Refusal.{told_device}
use Rattle.file_cmds.specs.declared.error.CmdError.{CmdError}
use Rattle.file_cmds.specs.declared.error.CmdError.TheVariants.{Check, NotFound, Device, Memory}
use Rattle.event_replay.specs.Holds.{Holds, ASession, ADevice, AnswersRead, ChangesHolds, ReadsFileToOrder}
use Rattle.event_replay.specs.Moments.{Moment, Opened, SessionState, Open, HasSession}
use Rattle.event_replay.specs.Orders.{read_ordered, write_ordered}
use Rattle.event_replay.specs.Runs.{Reads, gave, no_file, failed, no_memory}
use Rattle.event_replay.specs.declared.event.Answer.{Answer}
use Rattle.event_replay.specs.declared.event.Answer.TheVariants.{Refused}
use Rattle.event_replay.proofs.Devices.{later, met_reads, none_fails, only_read, read_failed}
use Rattle.event_replay.proofs.Holding.{read_can}
use Rattle.event_replay.specs.Held.{HasBegun, IsDeviceAt, IsAt, IsHeldAt}

-- no file of an accepted volume is unreadable
module _ (format : Meaning) (laws : IsReadable format) (files : FileMeaning) (store : List (List ℕ)) (path : List ℕ) where
  no_fault : (directory : Directory) (file : ℕ) → IsAccepted format directory store → file < entries directory → OwnFault format directory store file → ⊥
  no_fault directory file accepted inside (other_type is) = accepted.no_other_type file inside is
  no_fault directory file accepted inside (wild_root is) = accepted.no_wild file inside is
  no_fault directory file accepted inside (wild_pointer part pointer reached here is) = (accepted.sound part reached).no_wild pointer is
  no_fault directory file accepted inside (shared part other reached other_reached here there same apart) = apart (accepted.once part other reached other_reached same)

  pub is_readable : IsVolume format store → IsUnreadable format files store (GivenPath path) → ⊥
  is_readable (directory, accepted) (inl (fault, there)) = laws.header_fault store directory fault there accepted.described
  is_readable (directory, accepted) (inr broken) =
      let one = laws.one_directory store directory broken.directory accepted.described broken.described in
      no_fault broken.directory broken.file (subst (λ d. IsAccepted format d store) one accepted) broken.first.inside broken.fault

-- a session, open or closed, over another device of the same store
pub still_held : (format : Meaning) (old new : Present) (state : SessionState) (store : List (List ℕ)) (opened : Opened) (writes moves : ℕ) → CanResume old.device new.device
    → new ≡ record old { device = new.device } → IsHeldAt format (ASession old) state store opened writes moves → IsHeldAt format (ASession new) state store opened writes moves
still_held format old new state store opened writes moves can only (volume, inr (closed, is)) = (volume, inr (ap (λ (p : Present). p.closed) only ∙ closed, is))
still_held format old new state store opened writes moves can only (volume, inl at) = (
  volume,
  inl (record {
    not_closed = ap (λ (p : Present). p.closed) only ∙ at.not_closed;
    left = at.left ∙ ap (λ (p : Present). Open (length p.tasks)) (sym only);
    course = at.course;
    is = subst (λ p. IsSession format p at.course) (sym only) (resumed_session format old at.course at.is new.device old.unit refl can);
    come = record { writes_are = at.come.writes_are; moves_are = at.come.moves_are; lost = ap (λ (p : Present). p.lost_at_first) only ∙ at.come.lost };
    begun = subst (λ (p : Present). HasBegun (length p.opening.map_units) opened.lost at.course p.tasks) (sym only) at.begun;
  }),
)

session_there : (format : Meaning) (session : Present) (state : SessionState) (store : List (List ℕ)) (opened : Opened) (writes moves : ℕ)
    → IsHeldAt format (ASession session) state store opened writes moves → HasSession state
session_there format session state store opened writes moves (volume, inl at) = subst HasSession (sym at.left) tt
session_there format session state store opened writes moves (volume, inr (closed, is)) = subst HasSession (sym is) tt

module _ (format : Meaning) (base left : ℕ) (old new : Present) (now : Moment) (at : IsAt format base (left + 1) (ASession old) now)
    (only : new ≡ record old { device = new.device }) where
  -- a read that failed met the failure that was ordered, and else nothing has changed
  pub failed_at : OnlyReads true old.device new.device
      → (now.fails_read ≡ true) × IsAt format base left (ASession new) (record now { fails_read = false })
  failed_at reads =
      let device = later base left old.device old.device now.fails_read now.fails_write now.store now.writes at.0 in
      let met = read_failed base left old.device new.device now.fails_read now.fails_write now.store now.writes device reads in (
        met.0,
        (
          met.1,
          still_held format old new now.session now.store now.opened now.writes now.moves
              (read_can true old.device new.device reads) only at.1,
        ),
      )

module _ (A : Type 0) (format : Meaning) (laws : IsReadable format) (files : FileMeaning) (path : List ℕ) (base left : ℕ) (old new : Present) (now : Moment)
    (at : IsAt format base (left + 1) (ASession old) now) (only : new ≡ record old { device = new.device }) (answer : Answer A) where
  abbrev IsLine : Answer A → Type 0
  IsLine told = (next : Moment) × Reads format files path now told next × IsAt format base left (ASession new) next

  there : HasSession now.session
  there = session_there format old now.session now.store now.opened now.writes now.moves at.1

  device_later : IsDeviceAt base left old.device now.fails_read now.fails_write now.store now.writes
  device_later = later base left old.device old.device now.fails_read now.fails_write now.store now.writes at.0

  -- nothing has changed
  kept : (told : Bool) → OnlyReads told old.device new.device → new.device ≡ old.device → IsAt format base left (ASession new) now
  kept told reads same = (
    subst (λ d. IsDeviceAt base left d now.fails_read now.fails_write now.store now.writes) (sym same) device_later,
    still_held format old new now.session now.store now.opened now.writes now.moves (read_can told old.device new.device reads) only at.1,
  )

  came : OnlyReads false old.device new.device → new.device ≡ old.device
  came reads = only_read base left old.device new.device now.fails_read now.fails_write now.store now.writes device_later reads

  failed_line : OnlyReads true old.device new.device → IsLine Refused
  failed_line reads =
      let met = failed_at format base left old new now at only reads in
      (record now { fails_read = false }, failed there met.0, met.1)

  by_result : now.fails_read ≡ false → (result : Result (List ℕ) CmdError) → OnlyReads (told_device result) old.device new.device
      → IfOk result (IsTextAt format files old.device.store (GivenPath path) false)
      → (result ≡ Err Check → IsUnreadable format files old.device.store (GivenPath path))
      → (result ≡ Err NotFound → HasNoFile format files old.device.store (GivenPath path))
      → AnswersRead result answer → IsLine answer
  by_result comes (Ok text) reads is check none answers =
      (now, gave answer text there comes answers (subst (λ s. IsTextAt format files s (GivenPath path) false text) at.0.stands is), kept false reads (came reads))
  by_result comes (Err Memory) reads is check none answers = subst IsLine (sym answers) (now, no_memory there, kept false reads (came reads))
  by_result comes (Err NotFound) reads is check none answers =
      subst IsLine (sym answers) (now, no_file there comes (subst (λ s. HasNoFile format files s (GivenPath path)) at.0.stands (none refl)), kept false reads (came reads))
  by_result comes (Err Check) reads is check none answers =
      absurd (is_readable format laws files now.store path at.1.0 (subst (λ s. IsUnreadable format files s (GivenPath path)) at.0.stands (check refl)))
  by_result comes (Err Device) reads is check none answers = subst IsLine (sym answers) (failed_line reads)

  pub read_line : ReadsFileToOrder format files path old.device answer new.device → IsLine answer
  read_line (inl (met, is)) = subst IsLine (sym is) (failed_line (met_reads old.device new.device met))
  read_line (inr (none, reads)) =
      by_result (none_fails base left old.device old.device now.fails_read now.fails_write now.store now.writes device_later none)
      reads.result reads.device (reads.text at.0.honest) (reads.check at.0.honest) (reads.not_found at.0.honest) reads.answers

-- an order to fail
read_order_at : (base left : ℕ) (device : DeviceState) (fails_read : Bool) (fails_write : Option Bool) (store : List (List ℕ)) (writes : ℕ)
    → IsDeviceAt base (left + 1) device fails_read fails_write store writes → IsDeviceAt base left (read_ordered device) true fails_write store writes
read_order_at base left device fails_read fails_write store writes at = record {
  honest = at.honest;
  readable = at.readable;
  reads = refl;
  orders = at.orders;
  meets = record { passes = at.meets.passes; none_tried = at.meets.none_tried };
  stands = at.stands;
  standing = at.standing;
  room = omega (arith, at.room);
}

write_order_at : (base left : ℕ) (device : DeviceState) (took fails_read : Bool) (fails_write : Option Bool) (store : List (List ℕ)) (writes : ℕ)
    → IsDeviceAt base (left + 1) device fails_read fails_write store writes → IsDeviceAt base left (write_ordered took device) fails_read (Some took) store writes
write_order_at base left device took fails_read fails_write store writes at = record {
  honest = at.honest;
  readable = at.readable;
  reads = at.reads;
  orders = refl;
  meets = record { passes = λ none. absurd (cc (none)); none_tried = λ _ _ _. refl };
  stands = at.stands;
  standing = at.standing;
  room = omega (arith, at.room);
}

changed_can : (device : DeviceState) (change : DeviceState → DeviceState) → (change device).places ≡ device.places → (change device).unit_size ≡ device.unit_size
    → (change device).honest ≡ device.honest → (change device).store ≡ device.store → CanResume device (change device)
changed_can device change places unit honest store = record {
  places = places;
  unit_size = unit;
  honest = λ is. subst IsTrue honest is;
  store = λ is. store;
}

module _ (format : Meaning) (base left : ℕ) where
  changed_held : (change : DeviceState → DeviceState) (old new : Present) (state : SessionState) (store : List (List ℕ)) (opened : Opened) (writes moves : ℕ)
      → CanResume old.device (change old.device) → new ≡ record old { device = change old.device }
      → IsHeldAt format (ASession old) state store opened writes moves → IsHeldAt format (ASession new) state store opened writes moves
  changed_held change old new state store opened writes moves can is held =
      let device : new.device ≡ change old.device = ap (λ (p : Present). p.device) is in
      still_held format old new state store opened writes moves (subst (CanResume old.device) (sym device) can)
      (is ∙ ap (λ (d : DeviceState). record old { device = d }) (sym device)) held

  pub read_order : (old new : Holds) (now : Moment) → IsAt format base (left + 1) old now → ChangesHolds read_ordered old new → IsAt format base left new (record now { fails_read = true })
  read_order (ASession old) (ASession new) now at is = (
    subst (λ (p : Present). IsDeviceAt base left p.device true now.fails_write now.store now.writes) (sym is)
        (read_order_at base left old.device now.fails_read now.fails_write now.store now.writes at.0),
    changed_held read_ordered old new now.session now.store now.opened now.writes now.moves (changed_can old.device read_ordered refl refl refl refl) is at.1,
  )
  read_order (ADevice old) (ADevice new) now at is =
      (subst (λ d. IsDeviceAt base left d true now.fails_write now.store now.writes) (sym is) (read_order_at base left old now.fails_read now.fails_write now.store now.writes at.0), at.1)
  read_order (ASession old) (ADevice new) now at is = absurd is
  read_order (ADevice old) (ASession new) now at is = absurd is

  pub write_order : (took : Bool) (old new : Holds) (now : Moment) → IsAt format base (left + 1) old now → ChangesHolds (write_ordered took) old new
      → IsAt format base left new (record now { fails_write = Some took })
  write_order took (ASession old) (ASession new) now at is = (
    subst (λ (p : Present). IsDeviceAt base left p.device now.fails_read (Some took) now.store now.writes) (sym is)
        (write_order_at base left old.device took now.fails_read now.fails_write now.store now.writes at.0),
    changed_held (write_ordered took) old new now.session now.store now.opened now.writes now.moves (changed_can old.device (write_ordered took) refl refl refl refl) is at.1,
  )
  write_order took (ADevice old) (ADevice new) now at is = (
    subst (λ d. IsDeviceAt base left d now.fails_read (Some took) now.store now.writes) (sym is)
        (write_order_at base left old took now.fails_read now.fails_write now.store now.writes at.0),
    at.1,
  )
  write_order took (ASession old) (ADevice new) now at is = absurd is
  write_order took (ADevice old) (ASession new) now at is = absurd is
