use Rattle.std.proofs.Common.{ap, arith, length, subst}
use Rattle.vol_format.specs.Laws.{IsDirectory}
use Rattle.vol_mover.specs.Optimizing.{HasWorked, StopsWork, IsNoFailure, IsRefused}
use Rattle.vol_mover.specs.Report.{IsReported}
use Rattle.vol_mover.specs.Shown.{present}
use Rattle.vol_mover.proofs.Reporting.{if_ok, if_err, no_failure, refused_of, reported, small_claims}
use Rattle.vol_mover.proofs.optimizer.optimize.Goals as goal

pub print-requires-clause-bound : goal.print-requires-clause-bound
print-requires-clause-bound g c =
    let session = c.in-Ok.begun.0 in
    let first = present g.D.Device.state g.F.Format.directory session in
    small_claims (g.F.Format.meaning c.args.format.now) c.args.options (g.D.Device.state c.args.device) first c.in-Ok.ensures.begun
    (subst (λ f. IsDirectory (g.F.Format.meaning f) first.opening) c.in-Ok.ensures.format (g.met.F.Format.rooted session.format.now session.volume))
    c.in-Ok.begun.1 c.in-Ok.ensures.plan

pub print-requires-clause-rings : goal.print-requires-clause-rings
print-requires-clause-rings g c = λ k d within empty.
    let ring = c.in-Ok.ensures.plan.rings.each k d within in
    omega (arith, ring.long, ap length empty)

pub returns-in-Ok-print-clause-reported : goal.returns-in-Ok-print-clause-reported
returns-in-Ok-print-clause-reported g c =
    let session = c.in-Ok.begun.0 in
    let plan = c.in-Ok.begun.1 in
    let format = g.F.Format.meaning c.args.format.now in
    let old = g.D.Device.state c.args.device in
    let first = present g.D.Device.state g.F.Format.directory session in
    let made = c.in-Ok.ensures in
    if_ok c.work.result
    (λ done. HasWorked (g.F.Format.meaning session.format.now) c.args.limit first plan c.in-Ok-print.cert.items (g.D.Device.state done.0) done.1)
    (λ done. IsReported format c.args.options c.args.limit old (g.D.Device.state done.0) done.1)
    (λ done has.
    reported format (g.met.F.Format.readable c.args.format.now) c.args.options old first made.begun c.args.limit plan c.in-Ok-print.cert.items (g.D.Device.state done.0) done.1
    (subst (λ f. HasWorked (g.F.Format.meaning f) c.args.limit first plan c.in-Ok-print.cert.items (g.D.Device.state done.0) done.1) made.format has)
    made.plan made.moves c.in-Ok-print.ensures.text c.in-Ok-print.ensures.fits)
    c.work.ensures.worked

pub returns-in-Ok-print-clause-refused : goal.returns-in-Ok-print-clause-refused
returns-in-Ok-print-clause-refused g c =
    let session = c.in-Ok.begun.0 in
    let format = g.F.Format.meaning c.args.format.now in
    let old = g.D.Device.state c.args.device in
    let first = present g.D.Device.state g.F.Format.directory session in
    let made = c.in-Ok.ensures in
    if_err c.work.result
    (λ stopped. StopsWork (g.F.Format.meaning session.format.now) c.args.limit first (g.D.Device.state stopped.1) stopped.0)
    (λ refused. IsRefused format c.args.options c.args.limit old (g.D.Device.state refused.1) refused.0)
    (λ stopped has.
    refused_of format (g.met.F.Format.readable c.args.format.now) c.args.options old first made.begun c.args.limit (g.D.Device.state stopped.1) stopped.0
    (subst (λ f. StopsWork (g.F.Format.meaning f) c.args.limit first (g.D.Device.state stopped.1) stopped.0) made.format has))
    c.work.ensures.stopped

pub returns-in-Ok-print-clause-sound : goal.returns-in-Ok-print-clause-sound
returns-in-Ok-print-clause-sound g c sound =
    let session = c.in-Ok.begun.0 in
    let format = g.F.Format.meaning c.args.format.now in
    let old = g.D.Device.state c.args.device in
    let first = present g.D.Device.state g.F.Format.directory session in
    let made = c.in-Ok.ensures in
    if_err c.work.result
    (λ stopped. StopsWork (g.F.Format.meaning session.format.now) c.args.limit first (g.D.Device.state stopped.1) stopped.0)
    (λ refused. IsNoFailure refused.0)
    (λ stopped has.
    no_failure format c.args.options c.args.limit old (g.D.Device.state stopped.1) stopped.0 sound
    (refused_of format (g.met.F.Format.readable c.args.format.now) c.args.options old first made.begun c.args.limit (g.D.Device.state stopped.1) stopped.0
    (subst (λ f. StopsWork (g.F.Format.meaning f) c.args.limit first (g.D.Device.state stopped.1) stopped.0) made.format has)))
    c.work.ensures.stopped
