use Rattle.vol_layout.proofs.Places.{places_more, names_none}
use Rattle.vol_layout.proofs.words.places_of_words.Goals as goal

pub returns-in-None-clause-syntax : goal.returns-in-None-clause-syntax
returns-in-None-clause-syntax g c = λ same places are.
    names_none c.args.form c.args.words.now c.loop-word.word-index _ c.loop-word-test.true c.in-None.ensures.none places are

pub loop-word-preserved : goal.loop-word-preserved
loop-word-preserved g c =
    rw c.in_ok-push-in-Some.ensures.items
    (places_more c.args.form c.args.words.now c.loop-word.word-index _ c.loop-word-test.true c.loop-word.places.items c.in-Some.place c.loop-word.invariant
    c.in-Some.ensures.some.0 c.in-Some.ensures.some.1)
