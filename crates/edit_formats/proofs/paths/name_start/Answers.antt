use Rattle.std.proofs.Common.{◌∙◌}
use Rattle.edit_formats.proofs.PathStarts.{at_other, at_slash, start_read}
use Rattle.edit_formats.proofs.paths.name_start.Goals as goal
use Rattle.edit_formats.proofs.paths.name_start.Goals.{then-path-at-eq47, else-path-at-eq47}

pub loop-at-preserved : goal.loop-at-preserved
loop-at-preserved c = elim c.if-path-at-eq47.branch [
  | then-path-at-eq47 w ↦ w.start-is ∙ at_slash c.args.path.now c.loop-at.at c.loop-at-test.true w.if-path-at-eq47.true
  | else-path-at-eq47 w ↦ w.start-is ∙ c.loop-at.invariant ∙ at_other c.args.path.now c.loop-at.at c.loop-at-test.true w.if-path-at-eq47.false
]

pub returns-clause-within : goal.returns-clause-within
returns-clause-within c = start_read c.args.path.now c.loop-at.start c.loop-at.at c.loop-at.invariant c.loop-at-test.false
