use Rattle.std.proofs.Common.{◌≡◌, ◌<◌, ◌↔◌, length}
use Rattle.pro_dir.specs.Letters.{taken}
use Rattle.pro_dir.specs.Paths.{path_of}
use Rattle.pro_dir.proofs.volume.VolumeDir.is_path.Given as goal

abbrev pub invariant-loop-parent : goal.invariant-loop-parent
invariant-loop-parent g l = record {
  inside : l.number < length l.self.entries.items;
  same : (taken l.letters l.path ≡ path_of l.self.entries.items l.entry) ↔ (taken l.letters l.rest ≡ path_of l.self.entries.items l.number);
}

abbrev pub decreases-loop-parent : goal.decreases-loop-parent
decreases-loop-parent g l = l.number
