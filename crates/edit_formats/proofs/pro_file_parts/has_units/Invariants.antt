use Rattle.std.proofs.Common.{◌≡◌, ◌-◌, false}
use Rattle.edit_formats.specs.Parts.{any_stored}
use Rattle.edit_formats.proofs.pro_file_parts.has_units.Given as goal

abbrev pub invariant-loop-number : goal.invariant-loop-number
invariant-loop-number l = any_stored l.stored l.first (l.number - l.first) ≡ false
