use Rattle.std.proofs.Common.{length, map}
use denote.Text.{Utf8}
use denote.Shadow.{shadow}
use Rattle.folder_adding.proofs.PathParts.{AreRead}
use Rattle.folder_adding.proofs.said_path.folders_of.Given as goal

-- the parts that were read say the directories
abbrev pub invariant-loop-folder : goal.invariant-loop-folder
invariant-loop-folder l = shadow (Utf8 l.rest) × AreRead l.path l.rest (map (λ name. name.items) l.directories.items)

abbrev pub decreases-loop-folder : goal.decreases-loop-folder
decreases-loop-folder l = length l.rest
