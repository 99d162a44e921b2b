use Rattle.file_cmds.specs.lemmas.FileAlone.{available-alone}
use Rattle.file_cmds.proofs.one_file.OneFileFormat.index.Goals as goal

pub returns-clause-some : goal.returns-clause-some
returns-clause-some g c =
    let directory = g.F.Format.directory c.args.self.now.format.now c.args.self.now.volume.now in
    let file = c.args.self.now.file in
    available-alone directory file c.args.place c.requires
