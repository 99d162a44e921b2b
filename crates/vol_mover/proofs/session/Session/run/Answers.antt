use Rattle.std.proofs.Common.{refl, ◌≡◌, ◌∙◌, ◌+◌, ◌++◌, ◌∷◌, [], ap, subst, arith, length, Ok}
use Rattle.std.proofs.lemmas.List.{length-append}
use Rattle.vol_mover.specs.Shown.{present}
use Rattle.vol_mover.specs.Steps.{IsStep}
use Rattle.vol_mover.specs.declared.progress.Progress.TheVariants.{Wrote}
use Rattle.vol_mover.proofs.Fields.{with_work, format_of}
use Rattle.vol_mover.proofs.Running.{nothing_run, run_on}
use Rattle.vol_mover.proofs.session.Session.run.Goals as goal

pub loop-made-init : goal.loop-made-init
loop-made-init g c =
    let self = c.args.self.now in
    record {
      only = refl;
      run = ([], nothing_run (g.F.Format.meaning self.format.now) (g.met.F.Format.readable self.format.now) (present g.D.Device.state g.F.Format.directory self), refl);
      within = omega arith;
    }

pub loop-made-preserved : goal.loop-made-preserved
loop-made-preserved g c =
    let self = c.args.self.now in
    let format = g.F.Format.meaning self.format.now in
    let old = present g.D.Device.state g.F.Format.directory self in
    let mid = present g.D.Device.state g.F.Format.directory c.loop-made.self in
    let new = present g.D.Device.state g.F.Format.directory c.step.new.self in
    let before = c.loop-made.invariant in
    let same = ap format_of before.only in
    let step = subst (λ f. IsStep (g.F.Format.meaning f) mid new (Ok (Wrote c.in-Wrote.field-0))) same
    (subst (λ p. IsStep (g.F.Format.meaning c.loop-made.self.format.now) mid new (Ok p)) c.in-Wrote.is c.in_ok-step.ensures.step) in
    let more = run_on format (g.met.F.Format.readable self.format.now) old mid new before.run.0 before.run.1 c.in-Wrote.field-0 step c.requires.0 c.requires.1 in
    let count : length (before.run.0 ++ more.0 ∷ []) ≡ c.loop-made.made + 1 = omega (arith, length-append before.run.0 (more.0 ∷ []), before.run.2) in
    record {
      only = c.step.ensures.only ∙ ap (λ s. with_work s c.step.new.self) before.only;
      run = (before.run.0 ++ more.0 ∷ [], more.1, count);
      within = omega arith;
    }
