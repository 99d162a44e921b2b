use Rattle.std.proofs.Common.{subst}
use Rattle.a2_device.specs.Device.{DeviceState, FailsRead}
use Rattle.a2_media.specs.FileDevice.{file_units}
use Rattle.a2_media.specs.declared.units.UnitKind.TheVariants.{Sector}
use Rattle.a2_image.proofs.Opened.{IsImageLength-Dos, IsOfDisk-Dos}
use Rattle.new_volumes.proofs.Checked.{empty_disk as checked_disk, refused_disk}
use Rattle.new_volumes.proofs.Units.{sectors_stand, reads_all}
use Rattle.new_volumes.proofs.finishing.empty_disk.Goals as goal

pub opened-requires : goal.opened-requires
opened-requires c = IsImageLength-Dos _ c.requires.long

pub dos-requires : goal.dos-requires
dos-requires c = IsOfDisk-Dos c.in_ok-image.image c.in_ok-image.ensures.image.in_order

pub require_empty-requires-clause-readable : goal.require_empty-requires-clause-readable
require_empty-requires-clause-readable c = λ place state fails.
    reads_all Sector c.in_ok-image.image (file_units 256 560 c.args.bytes.items) (sectors_stand c.args.bytes.items c.in_ok-image.image c.in_ok-image.ensures.image)
    place state (subst (λ (d : DeviceState). FailsRead place d state) c.dos.ensures fails)

pub returns-clause-refused : goal.returns-clause-refused
returns-clause-refused c = refused_disk c.args.data_disk c.in_ok-format.format c.none.result _ c.args.bytes.items c.in_ok-image.image (c.in_ok-format.ensures) c.none.ensures c.dos.ensures c.in_ok-image.ensures.image c.in-Err.error c.in-Err.ensures.refused

pub returns-in-Ok-clause-empty : goal.returns-in-Ok-clause-empty
returns-in-Ok-clause-empty c = checked_disk c.args.data_disk c.in_ok-format.format c.none.result _ c.args.bytes.items c.in_ok-image.image (c.in_ok-format.ensures) c.none.ensures c.dos.ensures c.in_ok-image.ensures.image c.in-Ok.ensures.empty
