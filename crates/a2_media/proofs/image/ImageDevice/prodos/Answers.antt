use Rattle.a2_media.proofs.Images.{AreUnits-blocks}
use Rattle.a2_media.proofs.image.ImageDevice.prodos.Goals as goal

pub over-requires-clause-units : goal.over-requires-clause-units
over-requires-clause-units g c = AreUnits-blocks c.args.image c.order-order.ensures.long c.blocks-blocks.ensures.disk
