use Rattle.std.proofs.Common.{◌≡◌, ◌++◌, ◌∷◌}
use Rattle.a2_device.specs.declared.part.PartKind.TheVariants.{Master}
use Rattle.edit_formats.specs.Parts.{indexes, new_part}
use Rattle.edit_formats.proofs.pro_file_parts.take_tree.Given as goal

abbrev pub invariant-loop-number : goal.invariant-loop-number
invariant-loop-number g l = l.parts.items ≡ l.fn.parts.items ++ new_part Master 0 ∷ indexes l.stored l.number
