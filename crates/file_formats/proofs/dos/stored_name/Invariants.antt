use Rattle.std.proofs.Common.{◌≡◌, ◌-◌, ◌++◌, map, take, replicate}
use Rattle.std.specs.Prelude.{bit_or}
use Rattle.file_formats.proofs.dos.stored_name.Given as goal

abbrev pub invariant-loop-i : goal.invariant-loop-i
invariant-loop-i l = l.name ≡ map (λ byte. bit_or byte 0x80) (take l.i l.path) ++ replicate (30 - l.i) 0xa0
