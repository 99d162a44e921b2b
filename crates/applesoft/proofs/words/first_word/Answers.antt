use Rattle.applesoft.specs.Scan.{first_word}
use Rattle.applesoft.proofs.Standing.{small_of}
use Rattle.applesoft.proofs.words.first_word.Goals as goal

pub returns-clause-small : goal.returns-clause-small
unfolding first_word
returns-clause-small c = small_of c.args.codes.now c.first_standing.result c.first_standing.ensures.some
