use Rattle.vol_format.proofs.Kept.{same_files}
use Rattle.vol_mover.proofs.laws.the_same_volume_has_the_same_files.Goals as goal

pub returns : goal.returns
returns g c =
    let format = c.args.format.now in
    λ old new same.
    same_files (g.F.Format.meaning format) (g.met.F.WritableFormat.movable format) old new
    (λ before after was now. let volume = same before after was now in (volume.0, volume.2))
