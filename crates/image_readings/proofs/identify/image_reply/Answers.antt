use Rattle.std.proofs.Common.{◌∙◌, sym}
use Rattle.image_readings.proofs.Told.{some_readings, told}
use Rattle.image_readings.proofs.identify.image_reply.Goals as goal

pub returns-in-Ok-2 : goal.returns-in-Ok-2
returns-in-Ok-2 c =
    let readings = c.in-Ok.readings in
    told c.args.head.now c.args.image.items readings.items c.ranked_reply.result c.in-Ok.ensures.readings
    (some_readings readings.items _ readings.ok.0 (sym c.is_empty.ensures ∙ c.if-is_empty.false)) (rw c.as_slice.ensures.value at c.ranked_reply.ensures)
