use Rattle.std.proofs.Common.{◌≡◌, Some}
use Rattle.a2_image.specs.Blocks.{blocks}
use Rattle.a2_media.specs.Units.{unit_in}
use Rattle.new_volumes.specs.Filling.{Filled}
use Rattle.new_volumes.proofs.boot.copy_blocks.Given as goal

abbrev pub invariant-loop-place : goal.invariant-loop-place
invariant-loop-place l = Filled 512 (λ place unit. unit_in (blocks l.image) place ≡ Some unit) 0 l.place l.initial.volume l.volume
