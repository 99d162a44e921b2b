use Rattle.std.proofs.Common.{get_or}
use Rattle.std.proofs.lemmas.List.Elements.{All-more}
use Rattle.vol_layout.specs.declared.moves.Move.{Move}
use Rattle.ring_cert.specs.Certificates.{IsMoveTold, move_line}
use Rattle.ring_cert.proofs.Written.{run_written, move_told}
use Rattle.ring_cert.proofs.printing.push_plan.Goals as goal

pub loop-step-preserved : goal.loop-step-preserved
loop-step-preserved g c =
    let i = c.loop-step.step-index in
    let moves = c.args.moves.now in
    let d : Move = record { part = 0; to = 0 } in
    record {
      text = run_written move_line c.args.text.now.items moves i d c.loop-step.text.items c.push_line.new.text.items c.loop-step-test.true
          c.loop-step.invariant.text c.in_ok-push_line.ensures.text;
      told = All-more IsMoveTold moves i d c.loop-step-test.true c.loop-step.invariant.told (move_told (get_or moves i d) c.in_ok-push_line.ensures.small);
    }
