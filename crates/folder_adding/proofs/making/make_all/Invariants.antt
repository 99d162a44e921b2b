use Rattle.std.proofs.Common.{map}
use Rattle.folder_adding.specs.Directories.{making_by}
use Rattle.folder_adding.proofs.KeptDirectories.{AreKeptTo}
use Rattle.folder_adding.proofs.making.make_all.Given as goal

-- the directories so far are there
abbrev pub invariant-loop-number : goal.invariant-loop-number
invariant-loop-number g l =
    AreKeptTo (making_by (g.F.DirectoryFormat.directories l.format) (g.F.Format.meaning l.format) l.date) (map (λ path. path.items) l.paths) l.number
    (g.D.Device.state l.fn.device) (g.D.Device.state l.device)
