use Rattle.std.proofs.Common.{◌∙◌, ◌++◌, ap, sym}
use Rattle.edit_formats.specs.Parts.{list_with_bodies}
use Rattle.edit_formats.proofs.Ranges.{flat_next}
use Rattle.edit_formats.proofs.dos_file_parts.dos_parts.Goals as goal

pub loop-number-preserved : goal.loop-number-preserved
loop-number-preserved g c =
    let stored = c.args.stored.now in
    c.in_ok-take_list.ensures ∙ ap (λ l. l ++ list_with_bodies stored c.loop-number.number) c.loop-number.invariant
    ∙ sym (flat_next (list_with_bodies stored) c.loop-number.number)
