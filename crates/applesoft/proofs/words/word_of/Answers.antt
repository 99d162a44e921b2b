use Rattle.applesoft.proofs.words.word_of.Goals as goal

pub returns : goal.returns
returns c = c.word_in.ensures
