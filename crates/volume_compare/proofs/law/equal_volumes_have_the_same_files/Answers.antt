use Rattle.volume_compare.proofs.Alike.{same_volumes}
use Rattle.volume_compare.proofs.law.equal_volumes_have_the_same_files.Goals as goal

pub returns : goal.returns
returns g c = λ all most device device_now other other_now comparison is equal.
    same_volumes all c.args.form (g.F.FileFormat.files c.args.format.now) (g.F.Format.meaning c.args.format.now) most device device_now other other_now comparison is equal
