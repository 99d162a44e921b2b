use Rattle.std.proofs.Common.{◌≡◌, take}
use Rattle.std.specs.Prelude.{flat_map}
use Rattle.host_folders.specs.HostNames.{piece}
use Rattle.host_folders.proofs.stem.stem.Given as goal

abbrev pub invariant-loop-byte : goal.invariant-loop-byte
invariant-loop-byte g l = l.text.items ≡ flat_map (piece l.form) (take l.byte-index l.bytes)
