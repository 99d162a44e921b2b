use Rattle.std.proofs.Common.{[]}
use Rattle.ring_cert.proofs.Repeats.{repeat_told}
use Rattle.ring_cert.proofs.seen.Seen.repeat_in.Goals as goal

pub returns-clause-found : goal.returns-clause-found
returns-clause-found g c =
    repeat_told c.insert_all.new.self c.args.numbers.now c.in_ok-found.found (c.in_ok-found.ensures [] c.requires)
