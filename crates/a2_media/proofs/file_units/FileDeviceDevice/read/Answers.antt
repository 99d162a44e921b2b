use Rattle.std.proofs.Common.{ap, ◌*◌}
use Rattle.a2_media.specs.lemmas.Units.{read_at}
use Rattle.a2_media.proofs.file_units.FileDeviceDevice.read.Goals as goal

pub returns-in-Ok-clause-read : goal.returns-in-Ok-clause-read
returns-in-Ok-clause-read g c = λ honest.
    read_at c.args.self.now.kind c.args.self.now.places c.args.place _ _ (g.F.PositionedFile.state c.args.self.now.file).bytes c.read_whole.new.bytes c.requires.place
    (ap (λ n. c.args.place * n) c.unit.ensures) c.requires.unit (c.in-Ok.ensures.read honest)
