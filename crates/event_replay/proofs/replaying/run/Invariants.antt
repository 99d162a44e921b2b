use Rattle.std.proofs.Common.{◌≡◌, ◌-◌, ◌≤◌, ℕ, length, take, vec_capacity}
use Rattle.a2_device.specs.Device.{IsSameDevice}
use Rattle.event_replay.specs.Held.{HasRun, IsAt}
use Rattle.event_replay.specs.Holds.{IsSound, device_of, holds}
use Rattle.event_replay.specs.Moments.{Moment}
use Rattle.event_replay.proofs.replaying.run.Given as goal

abbrev pub invariant-loop-event : goal.invariant-loop-event
invariant-loop-event g l = record {
  sound : IsSound g.F.Format.meaning g.D.Device.state g.F.Format.directory l.replay;
  format : l.replay.format.now ≡ l.fn.replay.format.now;
  count : length l.answers.items ≡ l.event-index;
  room : length l.events ≤ vec_capacity l.answers;
  same : IsSameDevice (device_of (holds g.D.Device.state g.F.Format.directory l.fn.replay)) (device_of (holds g.D.Device.state g.F.Format.directory l.replay));
  run : (base : ℕ) (first : Moment) → IsAt (g.F.Format.meaning l.fn.replay.format.now) base (length l.events) (holds g.D.Device.state g.F.Format.directory l.fn.replay) first
      → HasRun (g.F.Format.meaning l.fn.replay.format.now) (g.F.FileFormat.files l.fn.replay.format.now) base (length l.events - l.event-index) first (take l.event-index l.events) l.answers.items
      (holds g.D.Device.state g.F.Format.directory l.replay);
}
