use Rattle.shop_jobs.specs.declared.input.FileSystem.TheVariants.{Prodos}
use Rattle.shop_replies.specs.Volume.{device_of}
use Rattle.image_readings.proofs.Lent.{found_lent, stops_lent}
use Rattle.image_readings.proofs.Stopped.{told_if}
use Rattle.image_readings.proofs.volume.prodos_finding.Goals as goal

pub returns-in-Ok : goal.returns-in-Ok
returns-in-Ok c = found_lent Prodos c.args.image.now _ c.in-Ok.found c.prodos-device.ensures c.in-Ok.ensures.found

pub returns-in-Err : goal.returns-in-Err
returns-in-Err c =
    let device = device_of Prodos c.args.image.now in
    told_if Prodos device c.finding_at.result (c.finding_at.ensures device (stops_lent Prodos c.args.image.now _ _ c.prodos-device.ensures c.in-Err.ensures.refused))
