use Rattle.a2_media.proofs.Images.{AreUnits-sectors_by_place}
use Rattle.a2_media.proofs.lent.LentDevice.dos.Goals as goal

pub over-requires-clause-units : goal.over-requires-clause-units
over-requires-clause-units g c = AreUnits-sectors_by_place c.args.image.now (c.blocks-blocks.ensures.disk c.requires)
