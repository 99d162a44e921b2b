use Rattle.std.proofs.Common.{sym, ◌∙◌, ap, subst, arith}
use Rattle.vol_check.specs.Marks.{HasOwnMarks}
use Rattle.vol_check.specs.Walk.{unseen}
use Rattle.vol_check.proofs.Marks.{unseen_marks}
use Rattle.vol_check.proofs.file_walker.FileWalker.new.Goals as goal

pub returns : goal.returns
returns g c =
    let places = (g.D.Device.state c.args.device.now).places in
    record {
      marks = subst (HasOwnMarks places) (sym (c.in_ok-start.ensures ∙ ap (λ n. unseen n) c.places.ensures)) (unseen_marks places);
      unit = omega (arith, c.in_ok-vec.field-0.ok.0, c.in_ok-vec.ensures.len, c.unit.ensures);
    }
