use Rattle.ring_cert.proofs.Spelling.{HasWords-none, HasWords-more, word_longer}
use Rattle.ring_cert.proofs.words.words_at.Goals as goal

pub loop-number-init : goal.loop-number-init
loop-number-init g c = rw c.new-numbers.ensures.items (HasWords-none c.args.bytes.now)

pub loop-number-smaller : goal.loop-number-smaller
loop-number-smaller g c = word_longer c.loop-number.rest.now c.in-Some.number c.in-Some.next.now c.in-Some.ensures.found

pub loop-number-preserved : goal.loop-number-preserved
loop-number-preserved g c =
    rw c.in_ok-push.ensures.items
    (HasWords-more c.args.bytes.now c.loop-number.numbers.items c.loop-number.rest.now c.in-Some.number c.in-Some.next.now c.loop-number.invariant
    c.in-Some.ensures.found c.in-Some.ensures.small c.in-Some.ensures.end)
