use Rattle.ring_cert.proofs.Spelling.{one_no_name, one_no_word, one_no_end, one_found}
use Rattle.ring_cert.proofs.words.one_number_at.Goals as goal

pub returns-in_err-named-clause-none : goal.returns-in_err-named-clause-none
returns-in_err-named-clause-none c = rw c.from_residual.ensures (one_no_name c.args.bytes.now c.args.name.now c.in_err-named.ensures)

pub returns-in_err-number-clause-none : goal.returns-in_err-number-clause-none
returns-in_err-number-clause-none c =
    rw c.from_residual-in_err-number.ensures
    (one_no_word c.args.bytes.now c.args.name.now c.in_ok-named.named.now c.in_ok-named.ensures c.in_err-number.ensures.none)

pub returns-in_err-next-clause-none : goal.returns-in_err-next-clause-none
returns-in_err-next-clause-none c =
    rw c.from_residual-in_err-next.ensures
    (one_no_end c.args.bytes.now c.args.name.now c.in_ok-named.named.now c.in_ok-number.number c.in_ok-number.rest.now c.in_ok-named.ensures
    c.in_ok-number.ensures.found c.in_ok-number.ensures.small c.in_ok-number.ensures.end c.in_err-next.ensures)

pub returns-clause-found : goal.returns-clause-found
returns-clause-found c =
    one_found c.args.bytes.now c.args.name.now c.in_ok-named.named.now c.in_ok-number.number c.in_ok-number.rest.now c.in_ok-next.next.now
    c.in_ok-named.ensures c.in_ok-number.ensures.found c.in_ok-next.ensures
