use Rattle.std.proofs.Common.{◌≡◌, ◌++◌, ◌∷◌, [], length, refl, sym, ◌∙◌, ap, subst, arith, inr, get_or, Some}
use Rattle.std.specs.Prelude.{Bool, not, if◌then◌else◌, slice_get}
use Rattle.std.proofs.lemmas.List.{length-append}
use Rattle.a2_device.specs.Device.{IsSameDevice}
use Rattle.event_replay.specs.Holds.{TurnsHolds, device_of, holds}
use Rattle.event_replay.specs.Orders.{MeetsOrders}
use Rattle.event_replay.proofs.Turns.{of_held, same_then, turn_same}
use Rattle.event_replay.specs.declared.event.Event.TheVariants.{Step, Stop}
use Rattle.event_replay.proofs.WholeRuns.{ends_early, ends_here, found_at, goes_on, has_begun}
use Rattle.event_replay.proofs.replaying.run.Goals as goal

pub loop-event-init : goal.loop-event-init
loop-event-init g c =
    let format = c.args.replay.format.now in
    record {
      sound = c.requires.sound;
      format = refl;
      count = ap length c.requires.empty;
      room = c.requires.room;
      same = record { places = refl; unit_size = refl; image = refl; honest = refl; unreadable = refl };
      run = λ base first at.
          has_begun g.row.A.Denot (g.F.Format.meaning format) (g.met.F.Format.readable format) (g.met.F.WritableFormat.movable format) (g.F.FileFormat.files format) base
          (length c.args.events.now) _ first _ c.args.answers.items (omega arith) c.requires.empty at;
    }

pub returns-in-Err-clause-ends : goal.returns-in-Err-clause-ends
returns-in-Err-clause-ends g c =
    let index = c.loop-event.event-index in
    let count = c.loop-event.invariant.count in
    inr (inr (subst (λ n. slice_get c.args.events.now n ≡ Some Stop) (sym count) (found_at c.args.events.now index c.loop-event-test.true c.in-Err.ensures.stop)))

pub returns-in-Err-clause-ran : goal.returns-in-Err-clause-ran
returns-in-Err-clause-ran g c = λ base first at.
    let format = c.args.replay.format.now in
    ends_early g.row.A.Denot (g.F.Format.meaning format) (g.met.F.Format.readable format) (g.met.F.WritableFormat.movable format) (g.F.FileFormat.files format) base
    _ first c.args.events.now c.loop-event.event-index c.loop-event.answers.items _ (g.D.Device.state c.in-Err.device) c.loop-event.invariant.count
    (c.loop-event.invariant.run base first at) c.in-Err.ensures.device

pub loop-event-preserved : goal.loop-event-preserved
loop-event-preserved g c =
    let format = c.args.replay.format.now in
    let before = c.loop-event.invariant in
    let index = c.loop-event.event-index in
    let items : c.push.new.self.items ≡ c.loop-event.answers.items ++ c.in-Ok.answer ∷ [] =
    c.push.ensures.items
    ∙ ap (λ (b : Bool). if b then (c.loop-event.answers.items ++ c.in-Ok.answer ∷ []) else c.loop-event.answers.items) (c.is_err.ensures.negation ∙ ap not c.if-is_err.false) in
    let turns = subst (λ f. TurnsHolds (g.F.Format.meaning f) (g.F.FileFormat.files f) (get_or c.args.events.now index Step) (holds g.D.Device.state g.F.Format.directory c.loop-event.replay) c.in-Ok.answer (holds g.D.Device.state g.F.Format.directory c.in-Ok.now)) before.format c.in-Ok.ensures.turns in
    let held = holds g.D.Device.state g.F.Format.directory in
    let meets = of_held MeetsOrders g.D.Device.state g.F.Format.directory g.met.D.FailsToOrder.meets_orders c.in-Ok.now.held in
    record {
      sound = c.in-Ok.ensures.sound;
      format = c.in-Ok.ensures.format ∙ before.format;
      count = ap length items ∙ omega (arith, length-append c.loop-event.answers.items (c.in-Ok.answer ∷ []), before.count);
      room = omega (arith, before.room, c.push.ensures.capacity);
      same = same_then (device_of (held c.args.replay)) (device_of (held c.loop-event.replay)) (device_of (held c.in-Ok.now)) before.same
          (turn_same g.row.A.Denot (g.F.Format.meaning format) (g.F.FileFormat.files format) (get_or c.args.events.now index Step) c.in-Ok.answer
          (held c.loop-event.replay) (held c.in-Ok.now) turns);
      run = λ base first at.
          goes_on g.row.A.Denot (g.F.Format.meaning format) (g.met.F.Format.readable format) (g.met.F.WritableFormat.movable format) (g.F.FileFormat.files format) base
          first c.args.events.now index c.loop-event.answers.items c.push.new.self.items c.in-Ok.answer _ _ c.loop-event-test.true items meets (before.run base first at) turns;
    }

pub returns-clause-ran : goal.returns-clause-ran
returns-clause-ran g c = λ base first at.
    let format = c.args.replay.format.now in
    ends_here g.row.A.Denot (g.F.Format.meaning format) (g.met.F.Format.readable format) (g.met.F.WritableFormat.movable format) (g.F.FileFormat.files format) base
    _ first c.args.events.now c.loop-event.event-index c.loop-event.answers.items _ (g.D.Device.state c.into_device.result) c.loop-event.invariant.count
    (c.loop-event.invariant.run base first at) c.into_device.ensures

pub returns-in-Err-clause-same : goal.returns-in-Err-clause-same
returns-in-Err-clause-same g c =
    let device = device_of (holds g.D.Device.state g.F.Format.directory c.loop-event.replay) in
    same_then (device_of (holds g.D.Device.state g.F.Format.directory c.args.replay)) device (g.D.Device.state c.in-Err.device) c.loop-event.invariant.same
    c.in-Err.ensures.device.same

pub returns-clause-same : goal.returns-clause-same
returns-clause-same g c =
    let start = device_of (holds g.D.Device.state g.F.Format.directory c.args.replay) in
    subst (IsSameDevice start) (sym c.into_device.ensures) c.loop-event.invariant.same
