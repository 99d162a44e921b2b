use Rattle.std.proofs.Common.{◌≡◌, ◌-◌, ◌++◌, map, take, replicate}
use Rattle.std.specs.Char.{to_ascii_uppercase}
use Rattle.edit_formats.proofs.pro_naming.pro_name.Given as goal

abbrev pub invariant-loop-i : goal.invariant-loop-i
invariant-loop-i l = l.stored ≡ map to_ascii_uppercase (take l.i l.name) ++ replicate (15 - l.i) 0
