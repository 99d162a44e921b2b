use Rattle.std.proofs.Common.{arith}
use Rattle.new_volumes.proofs.Plains.{Filled-zeros}
use Rattle.new_volumes.proofs.plain.copy_front.Goals as goal

pub opened-requires : goal.opened-requires
opened-requires c = let fits = rw c.in-Some.is at c.requires.good in fits

pub returns-in-None-clause-copied : goal.returns-in-None-clause-copied
returns-in-None-clause-copied c = rw c.in-None.is (Filled-zeros 512 2 _ c.args.volume.now (λ place within. omega (arith, within, c.requires.room)) c.requires.zeroed)
