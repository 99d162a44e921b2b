use Rattle.std.proofs.lemmas.Option.{IfSome_then}
use Rattle.apple_single.proofs.Headers.{counted_is}
use Rattle.apple_single.proofs.header.counted.Goals as goal

pub returns-clause-some : goal.returns-clause-some
returns-clause-some c =
    IfSome_then c.split_u16.result c.split_u16.ensures.some (λ head begins.
    counted_is c.args.file.now c.in_ok-rest.rest.now c.in_ok-rest-2.rest.now head.0 head.1.now c.in_ok-rest.ensures.some
    c.in_ok-rest-2.ensures.lookup.0.0 c.in_ok-rest-2.ensures.lookup.0.2 begins)
