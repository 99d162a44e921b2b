use Rattle.std.proofs.Common.{ap, ⊎_elim, inl, inr}
use Rattle.std.proofs.lemmas.Result.{on_ok_weaker, on_err_weaker}
use Rattle.a2_media.specs.lemmas.Windows.{around_either, written_through}
use Rattle.a2_media.specs.Window.{window_state}
use Rattle.a2_media.proofs.window.WindowPositionedFile.write_whole.Goals as goal

pub returns-clause-written : goal.returns-clause-written
returns-clause-written g c = λ honest.
    let w = c.args.self.now in
    on_ok_weaker c.write_whole.result (written_through w.extent.start w.extent.size c.args.position c.args.bytes.now (g.F.PositionedFile.state w.file)
    (g.F.PositionedFile.state c.write_whole.new.self) (g.met.F.PositionedFile.whole w.file honest) w.inside c.requires.inside) (c.write_whole.ensures.written honest)

pub returns-clause-failed : goal.returns-clause-failed
returns-clause-failed g c = λ honest.
    let w = c.args.self.now in
    on_err_weaker c.write_whole.result (⊎_elim (λ same. inl (ap (window_state w.extent.start w.extent.size) same))
    (λ new. inr (written_through w.extent.start w.extent.size c.args.position c.args.bytes.now (g.F.PositionedFile.state w.file)
    (g.F.PositionedFile.state c.write_whole.new.self) (g.met.F.PositionedFile.whole w.file honest) w.inside c.requires.inside new))) (c.write_whole.ensures.failed honest)

pub returns-clause-around : goal.returns-clause-around
returns-clause-around g c = λ honest.
    let w = c.args.self.now in
    around_either c.write_whole.result w.extent.start w.extent.size c.args.position c.args.bytes.now (g.F.PositionedFile.state w.file)
    (g.F.PositionedFile.state c.write_whole.new.self) (g.met.F.PositionedFile.whole w.file honest) w.inside c.requires.inside
    (c.write_whole.ensures.written honest) (c.write_whole.ensures.failed honest)
