use Rattle.dos_format.specs.lemmas.FileFree.{dos_is_file_free}
use Rattle.dos_format.proofs.formats.dos_units_mean_the_same_in_every_file.Goals as goal

pub returns : goal.returns
returns c = dos_is_file_free
