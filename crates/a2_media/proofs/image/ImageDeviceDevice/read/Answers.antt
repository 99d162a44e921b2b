use Rattle.a2_media.proofs.Failed.{failed_read}
use Rattle.a2_media.proofs.image.ImageDeviceDevice.read.Goals as goal

pub returns-in-Err-clause-device : goal.returns-in-Err-clause-device
returns-in-Err-clause-device g c = failed_read _ _ c.args.place c.in-Err.ensures.unreadable c.fault.ensures.counted
