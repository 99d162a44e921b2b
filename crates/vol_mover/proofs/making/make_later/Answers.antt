use Rattle.std.proofs.Common.{◌++◌, get_or}
use Rattle.vol_mover.specs.Writes.{writes_after}
use Rattle.vol_mover.proofs.Moving.{making-more, next_move, no_move}
use Rattle.vol_mover.proofs.making.make_later.Goals as goal

pub loop-step-preserved : goal.loop-step-preserved
loop-step-preserved g c =
    let directory = g.F.Format.directory c.args.format.now c.args.volume.now in
    let moves = c.args.moves.now in
    let now = c.loop-step in
    rw (c.in_ok-left.ensures.left, c.in_ok-left.ensures.at, c.in_ok-left.ensures.draft, c.in_ok-change_between.ensures)
    (making-more directory moves (c.args.draft.now.tasks ++ writes_after directory c.args.left c.args.at.now moves) now.step-index now.left now.at now.draft now.invariant
    (get_or moves now.step-index no_move) (next_move moves now.step-index c.loop-step-test.true))
