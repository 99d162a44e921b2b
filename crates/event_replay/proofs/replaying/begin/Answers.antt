use Rattle.std.proofs.Common.{sym, subst, inl}
use Rattle.event_replay.specs.Held.{IsAt, RanTo}
use Rattle.event_replay.specs.Holds.{device_of, holds}
use Rattle.event_replay.proofs.Turns.{opens_same, same_then}
use Rattle.event_replay.proofs.Devices.{only_read}
use Rattle.event_replay.proofs.StopTurns.{begin_line}
use Rattle.event_replay.proofs.WholeRuns.{not_begun}
use Rattle.event_replay.proofs.replaying.begin.Goals as goal
use Rattle.std.specs.Prelude.{false, None, length}

pub returns-in-Ok-clause-ran : goal.returns-in-Ok-clause-ran
returns-in-Ok-clause-ran g c = λ base store at.
    let format = c.args.format.now in
    let meaning = g.F.Format.meaning in
    let made = c.in-Ok.ensures in
    let held = holds g.D.Device.state g.F.Format.directory c.in-Ok.replay in
    let left = length c.args.events.now in
    let line = begin_line g.row.A.Denot (meaning format) (g.met.F.WritableFormat.movable format) base left store (g.D.Device.state c.args.device) at c.in-Ok._answer held made.opens in
    let ran = c.run.ensures.ran base line.0 (subst (λ f. IsAt (meaning f) base left held line.0) (sym made.format) line.2) in
    record {
      first = line.0;
      begins = inl line.1;
      ran = subst (λ f. RanTo (meaning f) (g.F.FileFormat.files f) base line.0 c.args.events.now c.run.result.0.items (g.D.Device.state c.run.result.1)) made.format ran;
    }

pub returns-in-Err-clause-ran : goal.returns-in-Err-clause-ran
returns-in-Err-clause-ran g c = λ base store at.
    let format = c.args.format.now in
    let old = g.D.Device.state c.args.device in
    let new = g.D.Device.state c.in-Err.device in
    let left = length c.args.events.now in
    not_begun g.row.A.Denot (g.F.Format.meaning format) (g.met.F.Format.readable format) (g.met.F.WritableFormat.movable format) (g.F.FileFormat.files format) base
    left store c.args.events.now c.args.answers.items old new c.requires.empty at (only_read base left old new false None store 0 at c.in-Err.ensures.device)

pub returns-in-Ok-clause-same : goal.returns-in-Ok-clause-same
returns-in-Ok-clause-same g c =
    let held = holds g.D.Device.state g.F.Format.directory c.in-Ok.replay in
    let old = g.D.Device.state c.args.device in
    same_then old (device_of held) (g.D.Device.state c.run.result.1)
    (opens_same g.row.A.Denot (g.F.Format.meaning c.args.format.now) old c.in-Ok._answer held c.in-Ok.ensures.opens) c.run.ensures.same
