use Rattle.std.proofs.Common.{◌≡◌, refl, sym, ◌∙◌, ap, subst, arith, length, false, None}
use Rattle.event_replay.specs.Held.{IsDeviceAt}
use Rattle.event_replay.specs.Orders.{since}
use Rattle.event_replay.specs.Unfailing.{unfailing}
use Rattle.event_replay.proofs.WholeRuns.{is_replay, not_begun, unfailing_at}
use Rattle.event_replay.proofs.replaying.replay.Goals as goal

pub returns-in-Ok-clause-run : goal.returns-in-Ok-clause-run
returns-in-Ok-clause-run g c = λ nothing.
    let format = c.args.format.now in
    let state = g.D.Device.state in
    let old = state c.args.device in
    let left = length c.args.events.now in
    let at = subst (λ d. IsDeviceAt old.writes left d false None old.store 0) (sym c.new.ensures) (unfailing_at old left nothing) in
    is_replay g.row.A.Denot (g.F.Format.meaning format) (g.met.F.Format.readable format) (g.met.F.WritableFormat.movable format) (g.F.FileFormat.files format) old.writes
    c.args.events.now c.begin-answers.result.0.items old _ (state c.into_inner.result) refl c.begin-answers.ensures.front
    (c.begin-answers.ensures.ran old.writes old.store at) c.into_inner.ensures

pub returns-in-Err-clause-run : goal.returns-in-Err-clause-run
returns-in-Err-clause-run g c = λ nothing.
    let format = c.args.format.now in
    let old = g.D.Device.state c.args.device in
    let left = length c.args.events.now in
    let same = since 0 (unfailing false old) in
    let none = c.new-in-Err.ensures.items in
    let count : length c.new-in-Err.result.items ≡ 0 = ap length none in
    is_replay g.row.A.Denot (g.F.Format.meaning format) (g.met.F.Format.readable format) (g.met.F.WritableFormat.movable format) (g.F.FileFormat.files format) old.writes
    c.args.events.now c.new-in-Err.result.items old same old refl (omega (arith, count))
    (not_begun g.row.A.Denot (g.F.Format.meaning format) (g.met.F.Format.readable format) (g.met.F.WritableFormat.movable format) (g.F.FileFormat.files format) old.writes
    left old.store c.args.events.now c.new-in-Err.result.items same same none (unfailing_at old left nothing) refl)
    (record { places = refl; unit_size = refl; image = refl; store = refl; writes = refl; unfailing = λ all. all })

pub returns-in-Ok-clause-shape : goal.returns-in-Ok-clause-shape
returns-in-Ok-clause-shape g c =
    let same = c.begin-answers.ensures.same in
    let back = c.into_inner.ensures in record {
      places = back.places ∙ same.places ∙ ap (λ d. d.places) c.new.ensures;
      unit_size = back.unit_size ∙ same.unit_size ∙ ap (λ d. d.unit_size) c.new.ensures;
      image = back.image ∙ same.image ∙ ap (λ d. d.image) c.new.ensures;
    }
