use Rattle.a2_image.proofs.LentSectors.{lent_is_one}
use Rattle.a2_image.proofs.laws.a_lent_sector_is_one.Goals as goal

pub returns : goal.returns
returns c = lent_is_one
