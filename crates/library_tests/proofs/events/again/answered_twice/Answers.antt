use Rattle.std.proofs.Common.{length, arith}
use Rattle.library_tests.proofs.events.again.answered_twice.Goals as goal

pub returns : goal.returns
returns g c = λ nothing.
    let first = c.replay-answers.ensures.run (record {
      honest = nothing.honest;
      readable = nothing.readable;
      reads = nothing.reads;
      writes = nothing.writes;
      passes = nothing.passes;
      room = omega (arith, nothing.room);
    }) in
    let between = first.again (length c.args.second.now) (omega (arith, nothing.room)) in
    let second = c.replay-more.ensures.run between in
    second.again 0 (omega (arith, between.room))
