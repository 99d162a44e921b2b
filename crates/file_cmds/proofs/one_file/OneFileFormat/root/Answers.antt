use Rattle.std.proofs.Common.{◌∙◌, sym, arith}
use Rattle.file_cmds.specs.lemmas.FileAlone.{entries-alone, root-alone, root_of-other}
use Rattle.file_cmds.proofs.one_file.OneFileFormat.root.Goals as goal

pub returns-then-file-self : goal.returns-then-file-self
returns-then-file-self g c =
    let directory = g.F.Format.directory c.args.self.now.format.now c.args.self.now.volume.now in
    let file = c.args.self.now.file in
    sym (root_of-other directory file c.args.file c.if-file-self.true)

pub root-requires : goal.root-requires
root-requires g c =
    let directory = g.F.Format.directory c.args.self.now.format.now c.args.self.now.volume.now in
    let file = c.args.self.now.file in
    omega (arith, c.requires, entries-alone directory file)

pub returns : goal.returns
returns g c =
    let directory = g.F.Format.directory c.args.self.now.format.now c.args.self.now.volume.now in
    let file = c.args.self.now.file in
    c.root.ensures ∙ root-alone directory file c.args.file c.if-file-self.false (omega (arith, c.requires, entries-alone directory file))
