use Rattle.std.proofs.Common.{arith}
use Rattle.std.proofs.lemmas.List.Elements.{All-more}
use Rattle.ring_cert.specs.Certificates.{IsSmall, off_line}
use Rattle.ring_cert.proofs.Written.{run_written}
use Rattle.ring_cert.proofs.printing.push_misplaced.Goals as goal

pub loop-part-preserved : goal.loop-part-preserved
loop-part-preserved g c =
    let i = c.loop-part.part-index in
    let misplaced = c.args.misplaced.now in
    let within = c.loop-part-test.true in
    record {
      text = run_written off_line c.args.text.now.items misplaced i 0 c.loop-part.text.items c.push_line.new.text.items within c.loop-part.invariant.text
          c.in_ok-push_line.ensures.text;
      small = All-more IsSmall misplaced i 0 within c.loop-part.invariant.small (c.in_ok-push_line.ensures.small 0 0 (omega arith));
    }
