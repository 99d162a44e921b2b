use Rattle.std.proofs.Common.{◌≡◌, length}
use Rattle.applesoft.specs.Scan.{behind_letter}
use Rattle.applesoft.proofs.words.behind_letter.Given as goal

abbrev pub invariant-loop-codes : goal.invariant-loop-codes
invariant-loop-codes l = behind_letter l.letter l.initial.codes ≡ behind_letter l.letter l.codes

abbrev pub decreases-loop-codes : goal.decreases-loop-codes
decreases-loop-codes l = length l.codes
