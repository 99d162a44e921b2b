use Rattle.std.proofs.Common.{◌≡◌, ◌<◌, length, reverse}
use Rattle.pro_dir.specs.Parents.{path_above}
use Rattle.pro_dir.specs.Paths.{name_below, path_of}
use Rattle.pro_dir.proofs.volume.VolumeDir.path_into.Given as goal

abbrev pub invariant-loop-parent : goal.invariant-loop-parent
invariant-loop-parent g l = record {
  inside : l.number < length l.self.entries.items;
  path : path_of l.self.entries.items l.entry ≡ name_below (path_above l.self.entries.items l.number) (reverse l.path.items);
}

abbrev pub decreases-loop-parent : goal.decreases-loop-parent
decreases-loop-parent g l = l.number
