use Rattle.folder_adding.proofs.KeptDirectories.{keep_files}
use Rattle.folder_adding.proofs.law.directories_keep_the_files.Goals as goal

pub returns : goal.returns
returns g c = keep_files (g.F.DirectoryFormat.directories c.args.format.now) (g.F.Format.meaning c.args.format.now) (g.met.F.DirectoryFormat.keeps c.args.format.now)
