use Rattle.std.proofs.Common.{◌≡◌, flat_map, take}
use Rattle.std.specs.Io.KnownBytes.{Appends}
use Rattle.file_listings.specs.ProLines.{lines_of, listed_in}
use Rattle.shop_replies.proofs.writing.write_entries.Given as goal

abbrev pub invariant-loop-entry : goal.invariant-loop-entry
invariant-loop-entry g l = record {
  lines : listed_in l.lines ≡ listed_in l.fn.lines;
  grown : Appends (g.W.Write.contents l.fn.writer) (g.W.Write.contents l.writer)
      (flat_map (λ text. text) (take l.entry (lines_of (listed_in l.fn.lines))));
}
