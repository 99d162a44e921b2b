use Rattle.std.proofs.Common.{◌≡◌, Some}
use Rattle.a2_media.specs.DosPlaces.{sectors_by_place}
use Rattle.a2_media.specs.Units.{unit_in}
use Rattle.new_volumes.specs.Filling.{Filled}
use Rattle.new_volumes.proofs.boot.copy_sectors.Given as goal

abbrev pub invariant-loop-place : goal.invariant-loop-place
invariant-loop-place l = Filled 256 (λ place unit. unit_in (sectors_by_place l.image.sectors) place ≡ Some unit) 0 l.place l.initial.disk l.disk
