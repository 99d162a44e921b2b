use Rattle.std.proofs.Common.{◌≡◌, ◌+◌}
use Rattle.new_volumes.specs.DosUnits.{empty_sector}
use Rattle.new_volumes.specs.Filling.{Filled}
use Rattle.new_volumes.proofs.dos.write_track_17.Given as goal

abbrev pub invariant-loop-sector : goal.invariant-loop-sector
invariant-loop-sector l = Filled 256 (λ place unit. unit ≡ empty_sector l.number l.data_disk place) 272 (272 + l.sector) l.initial.disk l.disk
