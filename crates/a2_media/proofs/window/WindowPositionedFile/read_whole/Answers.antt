use Rattle.std.proofs.Common.{◌≡◌, ◌∙◌, ◌+◌, arith, ap, sym, length}
use Rattle.std.specs.Prelude.{slice_range}
use Rattle.std.proofs.lemmas.Result.{on_ok_weaker}
use Rattle.a2_media.specs.lemmas.Windows.{nothing_around, part_of_part}
use Rattle.a2_media.proofs.window.WindowPositionedFile.read_whole.Goals as goal

pub returns-clause-read : goal.returns-clause-read
returns-clause-read g c = λ honest.
    let w = c.args.self.now in
    let start = w.extent.start in
    let size = w.extent.size in
    let file = g.F.PositionedFile.state w.file in
    let whole : length file.bytes ≡ file.size = g.met.F.PositionedFile.whole w.file honest in
    let end : start + c.args.position + length c.args.bytes.now ≡ start + (c.args.position + length c.args.bytes.now) = omega arith in
    on_ok_weaker c.read_whole.result (λ read. read ∙ ap (slice_range file.bytes (start + c.args.position)) end
    ∙ sym (part_of_part file.bytes start (start + size) c.args.position (c.args.position + length c.args.bytes.now)
    (omega (arith, whole, w.inside)) (omega (arith, c.requires.inside)) (omega arith))) (c.read_whole.ensures.read honest)

pub returns-clause-around : goal.returns-clause-around
returns-clause-around g c = λ honest.
    let w = c.args.self.now in
    nothing_around w.extent.start w.extent.size (g.F.PositionedFile.state w.file) (g.F.PositionedFile.state c.read_whole.new.self) (c.read_whole.ensures.kept honest)
