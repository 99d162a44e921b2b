use Rattle.std.proofs.Common.{◌≡◌, map, take}
use Rattle.std.specs.Prelude.{All}
use Rattle.image_readings.specs.IdentifyReply.{way_of}
use Rattle.image_readings.specs.Readings.{IsReadingOf}
use Rattle.image_readings.proofs.identify.readings_of.Given as goal

abbrev pub invariant-loop-way : goal.invariant-loop-way
invariant-loop-way l = record {
  same : l.image.items ≡ l.fn.image.items;
  in_order : map way_of l.readings.items ≡ take l.way-index l.way-items;
  each : All (IsReadingOf l.fn.image.items) l.readings.items;
}
