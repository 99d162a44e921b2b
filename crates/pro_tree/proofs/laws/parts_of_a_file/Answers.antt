use Rattle.pro_tree.specs.lemmas.FileLaws.{in_file-placed, placed-in_file}
use Rattle.pro_tree.proofs.laws.parts_of_a_file.Goals as goal

pub returns : goal.returns
returns c = λ store file storage key part. (in_file-placed store file storage key part, placed-in_file store file storage key part)
