use Rattle.std.proofs.Common.{◌≡◌, sym, subst, ap}
use Rattle.a2_device.specs.contracts.failing.FaultDeviceDevice.TheImpl.{ghosts}
use Rattle.vol_mover.specs.Present.{IsSession}
use Rattle.vol_mover.specs.Shown.{present, resumed}
use Rattle.library_tests.proofs.of_moves.Resumes.{can_read, resumes}
use Rattle.library_tests.proofs.moves.sessions.unreadable.Goals as goal

pub returns : goal.returns
returns g c =
    let state = (ghosts g.row.D g.D.Device g.D.Device-dict).state in
    let directory = g.F.Format.directory in
    let first = present state directory c.args.session in
    let paused = c.pause-device.result.1 in
    let now = c.fail_read.new.self in
    let start = c.requires.0 in
    let session = subst (λ f. IsSession (g.F.Format.meaning f) first start) (sym c.pause-device.ensures.format) c.requires.1 in
    let was = ap state c.pause-device.ensures.device in (
      start,
      subst (λ f. IsSession (g.F.Format.meaning f) (present state directory c.resume.result) start) (sym c.resume.ensures.format)
          (resumes (λ device. resumed directory device paused) session c.pause-device.ensures.same c.resume.ensures.session
          (can_read (state c.args.session.device) (state now) (subst (λ d. state now ≡ record d { read_failures = (state now).read_failures }) was c.fail_read.ensures.rest))),
    )
