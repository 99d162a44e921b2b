use Rattle.a2_media.proofs.Images.{AreUnits-sectors_by_place}
use Rattle.a2_media.proofs.image.ImageDevice.dos.Goals as goal

pub over-requires-clause-units : goal.over-requires-clause-units
over-requires-clause-units g c = AreUnits-sectors_by_place c.args.image (c.blocks-blocks.ensures.disk c.requires)
