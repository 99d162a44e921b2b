use Rattle.std.proofs.Common.{◌≡◌, ◌∙◌, ◌∷◌, sym, ap, subst, refl, IsTrue, Ok, Err}
use Rattle.a2_device.specs.Device.{written, counted}
use Rattle.std.proofs.lemmas.Result.{err_from_is_err_and}
use Rattle.vol_mover.specs.Shown.{present}
use Rattle.vol_mover.specs.Steps.{IsStep, RefusesWrite, advanced, kind_of}
use Rattle.vol_mover.specs.declared.progress.Progress.TheVariants.{Wrote}
use Rattle.vol_mover.specs.declared.progress.StepError.TheVariants.{Read, Write}
use Rattle.vol_mover.proofs.Agendas.{first_of}
use Rattle.vol_mover.proofs.Fields.{with_unit, closed_unit, with_device, closed_with, agenda_of}
use Rattle.vol_mover.proofs.Stepping.{is_unread, is_refused, is_wrote, same_then, advanced_with}
use Rattle.vol_mover.proofs.session.Session.make.Goals as goal

pub returns-in_err-place-clause-step : goal.returns-in_err-place-clause-step
returns-in_err-place-clause-step g c =
    let self = c.args.self.now in
    let format = g.F.Format.meaning self.format.now in
    let old = present g.D.Device.state g.F.Format.directory self in
    let mid = present g.D.Device.state g.F.Format.directory c.prepare.new.self in
    let prepares = c.in_err-place.ensures.prepares in
    let given = err_from_is_err_and c.from_residual.result c.from_residual.ensures.1 in
    let gives = given.2 in
    let error = prepares.error refl in
    let read : c.from_residual.result ≡ Err Read = given.1 ∙ cc (gives, error) in
    let first = first_of self.agenda c.args.write c.requires.next in
    subst (IsStep format old mid) (sym read)
    (subst (λ s. IsStep format old s (Err Read)) (sym prepares.only)
    (is_unread format (g.met.F.Format.readable self.format.now) old c.requires.opened first.0 first.1 first.2 mid.device mid.unit prepares.size prepares.reads))

pub returns-in_err-write-clause-step : goal.returns-in_err-write-clause-step
returns-in_err-write-clause-step g c =
    let self = c.args.self.now in
    let format = g.F.Format.meaning self.format.now in
    let old = present g.D.Device.state g.F.Format.directory self in
    let mid = present g.D.Device.state g.F.Format.directory c.prepare.new.self in
    let device = g.D.Device.state c.write.new.self.device in
    let prepares = c.in_ok-place.ensures.prepares in
    let given = err_from_is_err_and c.from_residual-in_err-write.result c.from_residual-in_err-write.ensures.1 in
    let gives = given.2 in
    let error = c.in_err-write.ensures.error refl in
    let write : c.from_residual-in_err-write.result ≡ Err Write = given.1 ∙ cc (gives, error) in
    let first = first_of self.agenda c.args.write c.requires.next in
    let is : c.write.new.self ≡ closed_unit self c.write.new.self.device c.prepare.new.self.unit =
    c.in_err-write.ensures.closed ∙ ap (closed_with c.write.new.self.device) c.prepare.ensures.only in
    subst (IsStep format old (present g.D.Device.state g.F.Format.directory c.write.new.self)) (sym write)
    (subst (λ s. IsStep format old (present g.D.Device.state g.F.Format.directory s) (Err Write)) (sym is)
    (is_refused format (g.met.F.Format.readable self.format.now) old c.requires.opened first.0 first.1 first.2 device mid.unit prepares.size
    (same_then old.device mid.device device prepares.reads.same c.write.ensures.device) c.in_ok-place.place
    (λ honest course session. prepares.write honest c.requires.opened course session)
    (c.in_err-write.ensures.faults ∙ ap counted prepares.reads.faults)
    (λ honest. subst (λ d. RefusesWrite c.in_ok-place.place mid.unit d device) (prepares.reads.kept honest refl)
    (c.in_err-write.ensures.refused (subst IsTrue (sym prepares.reads.same.honest) honest) refl))))

pub returns-clause-step : goal.returns-clause-step
returns-clause-step g c =
    let self = c.args.self.now in
    let format = g.F.Format.meaning self.format.now in
    let old = present g.D.Device.state g.F.Format.directory self in
    let mid = present g.D.Device.state g.F.Format.directory c.prepare.new.self in
    let device = g.D.Device.state c.write.new.self.device in
    let prepares = c.in_ok-place.ensures.prepares in
    let first = first_of self.agenda c.args.write c.requires.next in
    let is : c.write.new.self ≡ with_unit self c.write.new.self.device c.prepare.new.self.unit =
    c.in_ok-write.ensures.ok ∙ ap (with_device c.write.new.self.device) c.prepare.ensures.only in
    let tasks : c.write.new.self.agenda ≡ first.0 ∷ first.1 = ap agenda_of is ∙ first.2 in
    let now : present g.D.Device.state g.F.Format.directory c.advance.new.self ≡ record (advanced old first.0 first.1) { device = device; unit = mid.unit } =
    c.advance.ensures.advanced first.0 first.1 tasks
    ∙ ap (λ s. advanced (present g.D.Device.state g.F.Format.directory s) first.0 first.1) is
    ∙ advanced_with old device mid.unit first.0 first.1 in
    subst (λ kind. IsStep format old (present g.D.Device.state g.F.Format.directory c.advance.new.self) (Ok (Wrote kind))) (sym (c.advance.ensures.kind first.0 first.1 tasks))
    (subst (λ s. IsStep format old s (Ok (Wrote (kind_of first.0)))) (sym now)
    (is_wrote format (g.met.F.Format.readable self.format.now) old c.requires.opened first.0 first.1 first.2 device mid.unit prepares.size
    (same_then old.device mid.device device prepares.reads.same c.write.ensures.device) c.in_ok-place.place
    (λ honest course session. prepares.write honest c.requires.opened course session)
    (c.in_ok-write.ensures.faults ∙ prepares.reads.faults) c.requires.session.0 c.requires.session.1
    (λ honest. c.in_ok-write.ensures.written (subst IsTrue (sym prepares.reads.same.honest) honest)
    ∙ ap (written c.in_ok-place.place mid.unit) (prepares.reads.kept honest refl))))
