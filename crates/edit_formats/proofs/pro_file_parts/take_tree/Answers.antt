use Rattle.std.proofs.Common.{◌∙◌, ◌++◌, ◌∷◌, ap, sym, Vec}
use Rattle.a2_device.specs.declared.part.PartKind.TheVariants.{Master}
use Rattle.edit_formats.specs.declared.new_part.NewPart.{NewPart}
use Rattle.edit_formats.specs.Parts.{new_part}
use Rattle.edit_formats.proofs.Ranges.{index_passed, index_taken, indexes-none}
use Rattle.edit_formats.proofs.pro_file_parts.take_tree.Goals as goal
use Rattle.edit_formats.proofs.pro_file_parts.take_tree.Goals.{then-has_units+in_ok-take_index, else-has_units}

pub loop-number-init : goal.loop-number-init
loop-number-init g c = c.in_ok-take.ensures ∙ ap (λ l. c.args.parts.now.items ++ new_part Master 0 ∷ l) (sym (indexes-none c.args.stored.now))

pub loop-number-preserved : goal.loop-number-preserved
loop-number-preserved g c =
    elim c.if-has_units.branch [
      | then-has_units+in_ok-take_index w ↦
          ap (λ (v : Vec NewPart _). v.items) w.parts-is ∙ w.in_ok-take_index.ensures
          ∙ index_taken c.args.stored.now (new_part Master 0) c.args.parts.now.items c.loop-number.parts.items c.loop-number.number c.loop-number.invariant (sym c.has_units.ensures ∙ w.if-has_units.true)
      | else-has_units w ↦
          ap (λ (v : Vec NewPart _). v.items) w.parts-is
          ∙ index_passed c.args.stored.now (new_part Master 0) c.args.parts.now.items c.loop-number.parts.items c.loop-number.number c.loop-number.invariant (sym c.has_units.ensures ∙ w.if-has_units.false)
    ]
