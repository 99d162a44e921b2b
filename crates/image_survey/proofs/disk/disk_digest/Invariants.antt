use Rattle.image_survey.specs.Disk.{units_of}
use Rattle.image_survey.specs.DiskHashing.{AreHashedTo}
use Rattle.image_survey.proofs.disk.disk_digest.Given as goal

abbrev pub invariant-loop-place : goal.invariant-loop-place
invariant-loop-place l = AreHashedTo (units_of l.image) l.place l.hasher
