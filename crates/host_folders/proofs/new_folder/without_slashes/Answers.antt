use Rattle.host_folders.proofs.Slashes.{trimmed, trimmed_unslashed}
use Rattle.host_folders.proofs.new_folder.without_slashes.Goals as goal

pub returns-clause-cut : goal.returns-clause-cut
returns-clause-cut c = trimmed c.args.path.now c.trim_end_matches.result.now c.trim_end_matches.ensures.matches

pub returns-clause-unslashed : goal.returns-clause-unslashed
returns-clause-unslashed c = trimmed_unslashed c.args.path.now c.trim_end_matches.result.now c.trim_end_matches.ensures.matches
