use Rattle.pro_format.proofs.FileFree.{pro_is_file_free}
use Rattle.pro_format.proofs.numbering.pro_units_mean_the_same_in_every_file.Goals as goal

pub returns : goal.returns
returns c = pro_is_file_free
