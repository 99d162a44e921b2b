use Rattle.std.proofs.Common.{◌≡◌, length, true}
use Rattle.image_readings.specs.IdentifyReply.{allows}
use Rattle.image_readings.proofs.Taken.{allowed_takes, lacks_memory}
use Rattle.image_readings.proofs.identify.reading_in.Goals as goal

pub unreachable-requires : goal.unreachable-requires
unreachable-requires c =
    let bytes = length c.replace-bytes.result.items in
    let allowed : allows bytes c.args.way ≡ true = rw c.replace-bytes.ensures.value c.requires in
    c.in_default.not-Memory (lacks_memory c.args.way.0 c.args.way.1 bytes c.in-Err.error (allowed_takes bytes c.args.way.0 c.args.way.1 allowed) c.in-Err.ensures.refused)
