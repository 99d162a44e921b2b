use Rattle.image_readings.proofs.Told.{plainly}
use Rattle.image_readings.proofs.identify.identify_reply.Goals as goal

pub returns-then-not-begins_like_container : goal.returns-then-not-begins_like_container
returns-then-not-begins_like_container c =
    plainly c.args.file.items c.as_slice.result.now c.image_reply.result c.begins_like_container.result c.as_slice.ensures.value
    c.begins_like_container.ensures c.if-not-begins_like_container.true c.image_reply.ensures
