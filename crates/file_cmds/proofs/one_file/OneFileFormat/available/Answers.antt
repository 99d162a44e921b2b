use Rattle.std.proofs.Common.{sym, arith}
use Rattle.file_cmds.specs.lemmas.FileAlone.{available-alone, available-past}
use Rattle.file_cmds.proofs.one_file.OneFileFormat.available.Goals as goal

pub returns-then-number-self : goal.returns-then-number-self
returns-then-number-self g c =
    let directory = g.F.Format.directory c.args.self.now.format.now c.args.self.now.volume.now in
    let file = c.args.self.now.file in
    sym (available-past directory file c.args.number (omega (arith, c.if-number-self.true, c.args.self.now.of_volume)))

pub returns : goal.returns
returns g c =
    let directory = g.F.Format.directory c.args.self.now.format.now c.args.self.now.volume.now in
    let file = c.args.self.now.file in
    sym (available-alone directory file c.args.number (omega (arith, c.if-number-self.false, c.args.self.now.of_volume)))
