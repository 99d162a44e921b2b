use Rattle.std.proofs.Common.{ap, ◌*◌}
use Rattle.a2_media.specs.lemmas.Units.{state_failed, state_written}
use Rattle.a2_media.proofs.file_units.FileDeviceDevice.write.Goals as goal

pub returns-in-Ok-clause-written : goal.returns-in-Ok-clause-written
returns-in-Ok-clause-written g c = λ honest.
    state_written c.args.self.now.kind c.args.self.now.places c.args.place _ c.args.self.now.writes c.args.self.now.faults c.args.unit.now
    (g.F.PositionedFile.state c.args.self.now.file) (g.F.PositionedFile.state c.write_whole.new.self) (g.met.F.PositionedFile.whole c.args.self.now.file honest) c.args.self.now.long
    c.requires.place c.requires.unit (ap (λ n. c.args.place * n) c.unit.ensures) (c.in-Ok.ensures.written honest)

pub returns-in-Err-clause-failed : goal.returns-in-Err-clause-failed
returns-in-Err-clause-failed g c = λ honest fault.
    state_failed c.args.self.now.kind c.args.self.now.places c.args.place _ c.args.self.now.writes c.args.self.now.faults c.args.unit.now
    (g.F.PositionedFile.state c.args.self.now.file) (g.F.PositionedFile.state c.write_whole.new.self) (g.met.F.PositionedFile.whole c.args.self.now.file honest) c.args.self.now.long
    c.requires.place c.requires.unit (ap (λ n. c.args.place * n) c.unit.ensures) _ c.fault.ensures.counted (c.in-Err.ensures.failed honest)
