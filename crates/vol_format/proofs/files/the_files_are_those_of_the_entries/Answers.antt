use Rattle.vol_format.proofs.Entries.{numbers_are, count_is, paths_are, bytes_are}
use Rattle.vol_format.proofs.files.the_files_are_those_of_the_entries.Goals as goal

pub returns-clause-numbers : goal.returns-clause-numbers
returns-clause-numbers g c = numbers_are

pub returns-clause-count : goal.returns-clause-count
returns-clause-count g c =
    let format = c.args.format.now in
    count_is (g.F.Format.meaning format)

pub returns-clause-paths : goal.returns-clause-paths
returns-clause-paths g c =
    let format = c.args.format.now in
    paths_are (g.F.Format.meaning format)

pub returns-clause-bytes : goal.returns-clause-bytes
returns-clause-bytes g c =
    let format = c.args.format.now in
    bytes_are (g.F.Format.meaning format)
