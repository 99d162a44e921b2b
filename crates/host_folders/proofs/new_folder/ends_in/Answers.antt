use Rattle.std.proofs.Common.{rules}
use Rattle.std.proofs.lemmas.Str.Pattern.{ends_text}
use Rattle.host_folders.proofs.new_folder.ends_in.Goals as goal

pub returns : goal.returns
returns c = let is = ends_text c.ends_with.result c.args.text.now c.args.path.now c.ends_with.ensures.cases in search rules
