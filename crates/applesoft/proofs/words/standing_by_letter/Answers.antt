use Rattle.applesoft.proofs.Letters.{stands_not}
use Rattle.applesoft.proofs.words.standing_by_letter.Goals as goal

pub returns-then-not-begins_with-clause-none : goal.returns-then-not-begins_with-clause-none
returns-then-not-begins_with-clause-none c = stands_not c.args.token c.args.letter c.args.word.now c.args.codes.now c.requires c.begins_with.ensures c.if-not-begins_with.true
