use Rattle.std.proofs.Common.{◌∷◌, take}
use Rattle.std.specs.Prelude.{flat_map}
use Rattle.std.specs.Fmt.{HasWritten, IsPlainFormatter}
use Rattle.a2_device.specs.declared.part.Part.{Part}
use Rattle.json.specs.Print.{quoted}
use Rattle.row_text.specs.Places.{part_text}
use Rattle.row_text.proofs.json_parts.LaterPartsDisplay.fmt.Given as goal

abbrev pub invariant-loop-part : goal.invariant-loop-part
invariant-loop-part g l =
    IsPlainFormatter l.initial.f → HasWritten g.W.Write.write_str_gives l.initial.f (flat_map (λ (part : Part). 44 ∷ quoted (part_text l.form part)) (take l.part-index l.parts)) l.f
