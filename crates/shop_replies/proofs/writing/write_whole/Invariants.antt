use Rattle.std.proofs.Common.{◌≤◌, length, take}
use Rattle.std.specs.Io.KnownBytes.{Appends}
use Rattle.shop_replies.proofs.writing.write_whole.Given as goal

abbrev pub invariant-loop : goal.invariant-loop
invariant-loop g l = record {
  within : l.taken ≤ length l.bytes;
  grown : Appends (g.W.Write.contents l.fn.writer) (g.W.Write.contents l.writer) (take l.taken l.bytes);
}
