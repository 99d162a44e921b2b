use Rattle.shop_inputs.proofs.FileUnits.{each_ok, units_of}
use Rattle.shop_inputs.proofs.image.OpenImage.device.Goals as goal

pub returns-clause-units : goal.returns-clause-units
returns-clause-units g c =
    each_ok c.of_image.result (λ device is. units_of c.args.volume.file_system c.args.volume.order c.unit_kind-kind.result _ _ c.unit_kind-kind.ensures is) c.of_image.ensures.opened
