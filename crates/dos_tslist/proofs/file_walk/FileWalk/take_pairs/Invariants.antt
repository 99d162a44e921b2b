use Rattle.std.proofs.Common.{◌≡◌, length}
use Rattle.dos_tslist.specs.Walk.{IsPairing}
use Rattle.dos_tslist.proofs.file_walk.FileWalk.take_pairs.Given as goal

abbrev pub invariant-loop-index : goal.invariant-loop-index
invariant-loop-index g l = record {
  file : l.self.file ≡ l.fn.self.file;
  size : length l.self.met ≡ 560;
  pairing : IsPairing l.fn.self.file l.number l.holder l.unit l.fn.self.met l.self.met l.fn.self.parts.items l.self.parts.items l.index;
}
