use Rattle.ring_cert.proofs.Spelling.{two_no_word, two_no_line}
use Rattle.ring_cert.proofs.words.two_numbers_at.Goals as goal

pub returns-in_err-first-clause-none : goal.returns-in_err-first-clause-none
returns-in_err-first-clause-none c =
    rw c.from_residual-in_err-first.ensures
    (two_no_word c.args.bytes.now c.args.name.now c.args.second_name.now c.in_ok-named.named.now c.requires c.in_ok-named.ensures
    c.in_err-first.ensures.none)

pub returns-in_err-second-clause-none : goal.returns-in_err-second-clause-none
returns-in_err-second-clause-none c =
    rw c.from_residual-in_err-second.ensures
    (two_no_line c.args.bytes.now c.args.name.now c.args.second_name.now c.in_ok-named.named.now c.in_ok-first.first c.in_ok-first.rest.now
    c.requires c.in_ok-named.ensures c.in_ok-first.ensures.found c.in_ok-first.ensures.small c.in_ok-first.ensures.end c.in_err-second.ensures.none)
