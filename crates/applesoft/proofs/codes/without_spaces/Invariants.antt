use Rattle.std.proofs.Common.{◌≡◌, length}
use Rattle.applesoft.specs.Tokens.{without_spaces}
use Rattle.applesoft.proofs.codes.without_spaces.Given as goal

abbrev pub invariant-loop-text : goal.invariant-loop-text
invariant-loop-text l = without_spaces l.initial.text ≡ without_spaces l.text

abbrev pub decreases-loop-text : goal.decreases-loop-text
decreases-loop-text l = length l.text
