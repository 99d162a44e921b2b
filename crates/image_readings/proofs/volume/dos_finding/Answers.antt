use Rattle.shop_jobs.specs.declared.input.FileSystem.TheVariants.{Dos}
use Rattle.shop_replies.specs.Volume.{device_of}
use Rattle.image_readings.proofs.Lent.{found_lent, stops_lent}
use Rattle.image_readings.proofs.Stopped.{told_if}
use Rattle.image_readings.proofs.volume.dos_finding.Goals as goal

pub returns-in-Ok : goal.returns-in-Ok
returns-in-Ok c = found_lent Dos c.args.disk.now _ c.in-Ok.found c.dos-device.ensures c.in-Ok.ensures.found

pub returns-in-Err : goal.returns-in-Err
returns-in-Err c =
    let device = device_of Dos c.args.disk.now in
    told_if Dos device c.finding_at.result (c.finding_at.ensures device (stops_lent Dos c.args.disk.now _ _ c.dos-device.ensures c.in-Err.ensures.refused))
