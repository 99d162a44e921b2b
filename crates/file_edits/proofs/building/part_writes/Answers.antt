use Rattle.std.proofs.Common.{◌∙◌, ◌+◌, ◌∷◌, [], sym, ap, subst, map}
use Rattle.std.proofs.lemmas.List.{map-append}
use Rattle.edit_formats.specs.Prepared.{write_of}
use Rattle.file_edits.specs.Parts.{HasPartWrites}
use Rattle.file_edits.proofs.PartWrites.{one_written}
use Rattle.file_edits.proofs.building.part_writes.Goals as goal

pub loop-at-preserved : goal.loop-at-preserved
loop-at-preserved g c =
    let saves = g.F.SavableFormat.saves c.args.format.now in
    let at = c.loop-at.at in
    let write = c.in_ok-write.write in
    subst (HasPartWrites saves c.args.size c.args.parts.now c.args.places.now c.args.stored.now c.args.units.now (at + 1))
    (sym (ap (map write_of) c.in_ok-writes.ensures ∙ map-append write_of c.loop-at.writes.items (write ∷ [])))
    (one_written saves c.args.size c.args.parts.now c.args.places.now c.args.stored.now c.args.units.now at (map write_of c.loop-at.writes.items) (write_of write)
    c.loop-at.invariant c.in_ok-write.ensures)
