use Rattle.std.proofs.Common.{◌≡◌, drop}
use Rattle.applesoft.specs.Scan.{behind_word}
use Rattle.applesoft.proofs.words.behind_word.Given as goal

abbrev pub invariant-loop-letter : goal.invariant-loop-letter
invariant-loop-letter l = behind_word l.word l.initial.codes ≡ behind_word (drop l.letter-index l.word) l.codes
