use Rattle.std.proofs.Common.{◌*◌, arith}
use Rattle.apple_single.proofs.Exits.{on_none}
use Rattle.apple_single.proofs.Headers.{not_counted, table_none, table_some, too_many}
use Rattle.apple_single.proofs.Infos.{are_bytes}
use Rattle.apple_single.proofs.header.table_of.Goals as goal

pub returns-in_err-count-clause-none : goal.returns-in_err-count-clause-none
returns-in_err-count-clause-none c = on_none c.from_residual.result (not_counted _ c.in_err-count.ensures.none)

pub returns-then-count-gt-MOST-clause-none : goal.returns-then-count-gt-MOST-clause-none
returns-then-count-gt-MOST-clause-none c = too_many _ _ _ c.in_ok-count.ensures.some
    (omega (arith, c.if-count-gt-MOST.true))

pub returns-clause-some : goal.returns-clause-some
returns-clause-some c =
    table_some c.args.file.now c.in_ok-count.rest.now c.in_ok-count.count
    (12 * c.from.result) c.get.result c.in_ok-count.ensures.some
    c.if-count-gt-MOST.false (omega (arith, c.from.ensures)) c.get.ensures.lookup
    (are_bytes c.args.file.now (λ k. (c.type_inv.file k).fits))

pub returns-clause-none : goal.returns-clause-none
returns-clause-none c =
    table_none c.args.file.now c.in_ok-count.rest.now c.in_ok-count.count
    (12 * c.from.result) c.get.result c.in_ok-count.ensures.some
    (omega (arith, c.from.ensures)) c.get.ensures.lookup
