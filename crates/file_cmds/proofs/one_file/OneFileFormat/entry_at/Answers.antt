use Rattle.std.proofs.Common.{◌∙◌, sym, arith}
use Rattle.file_cmds.specs.lemmas.FileAlone.{entries-alone, place-alone, slot-alone}
use Rattle.file_cmds.proofs.one_file.OneFileFormat.entry_at.Goals as goal

pub entry_at-requires : goal.entry_at-requires
entry_at-requires g c =
    let directory = g.F.Format.directory c.args.self.now.format.now c.args.self.now.volume.now in
    let file = c.args.self.now.file in
    omega (arith, c.requires, entries-alone directory file)

pub returns-clause-place : goal.returns-clause-place
returns-clause-place g c =
    let directory = g.F.Format.directory c.args.self.now.format.now c.args.self.now.volume.now in
    let file = c.args.self.now.file in
    c.entry_at.ensures.place ∙ sym (place-alone directory file c.args.file (omega (arith, c.requires, entries-alone directory file)))

pub returns-clause-slot : goal.returns-clause-slot
returns-clause-slot g c =
    let directory = g.F.Format.directory c.args.self.now.format.now c.args.self.now.volume.now in
    let file = c.args.self.now.file in
    c.entry_at.ensures.slot ∙ sym (slot-alone directory file c.args.file (omega (arith, c.requires, entries-alone directory file)))
