use Rattle.std.proofs.Common.{◌∙◌, ap, arith, length}
use Rattle.new_volumes.proofs.Plains.{Filled-zeros}
use Rattle.new_volumes.proofs.Units.{length-zeros}
use Rattle.new_volumes.proofs.plain.copy_tracks.Goals as goal

pub opened-requires : goal.opened-requires
opened-requires c = let fits = rw c.in-Some.is at c.requires.good in fits.0

pub returns-in-None-clause-copied : goal.returns-in-None-clause-copied
returns-in-None-clause-copied c = rw c.in-None.is (Filled-zeros 256 48 143360 c.args.disk.now (λ place within. omega (arith, within)) c.requires.zeroed)

pub copy_sectors-requires-clause-into : goal.copy_sectors-requires-clause-into
copy_sectors-requires-clause-into c = ap length c.requires.zeroed ∙ length-zeros 143360
