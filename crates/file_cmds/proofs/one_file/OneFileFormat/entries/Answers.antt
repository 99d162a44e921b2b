use Rattle.std.proofs.Common.{◌∙◌, sym}
use Rattle.file_cmds.specs.lemmas.FileAlone.{entries-alone}
use Rattle.file_cmds.proofs.one_file.OneFileFormat.entries.Goals as goal

pub returns : goal.returns
returns g c =
    let directory = g.F.Format.directory c.args.self.now.format.now c.args.self.now.volume.now in
    let file = c.args.self.now.file in
    c.entries.ensures ∙ sym (entries-alone directory file)
