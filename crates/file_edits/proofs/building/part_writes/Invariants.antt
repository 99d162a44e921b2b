use Rattle.std.proofs.Common.{map}
use Rattle.edit_formats.specs.Prepared.{write_of}
use Rattle.file_edits.specs.Parts.{HasPartWrites}
use Rattle.file_edits.proofs.building.part_writes.Given as goal

abbrev pub invariant-loop-at : goal.invariant-loop-at
invariant-loop-at g l = HasPartWrites (g.F.SavableFormat.saves l.format) l.size l.parts l.places l.stored l.units l.at (map write_of l.writes.items)
