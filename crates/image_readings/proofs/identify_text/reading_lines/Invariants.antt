use Rattle.std.proofs.Common.{◌≡◌, string_bytes, take}
use Rattle.std.specs.Prelude.{flat_map}
use Rattle.image_readings.specs.IdentifyText.{reading_line}
use Rattle.image_readings.proofs.identify_text.reading_lines.Given as goal

abbrev pub invariant-loop-reading : goal.invariant-loop-reading
invariant-loop-reading l = string_bytes l.text ≡ flat_map reading_line (take l.reading-index l.readings)
