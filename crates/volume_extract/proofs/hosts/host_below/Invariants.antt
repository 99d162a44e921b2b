use Rattle.std.proofs.Common.{◌≡◌, List, length, string_bytes}
use Rattle.volume_extract.specs.Items.{Item, host_below}
use Rattle.volume_extract.specs.Kept.{AreKept, StandsBefore}
use Rattle.volume_extract.proofs.Chain.{numbers_left}
use Rattle.volume_extract.proofs.hosts.host_below.Given as goal

abbrev pub invariant-loop-next : goal.invariant-loop-next
invariant-loop-next g l = record {
  before : StandsBefore (length l.kept) l.next;
  path : (items : List Item) → AreKept l.opened.form (g.F.TreeFormat.own l.opened.format.now) (g.F.Format.directory l.opened.format.now l.opened.volume) l.opened.naming items l.kept
      → host_below items l.fn.above (string_bytes l.fn.name) ≡ host_below items l.next (string_bytes l.path);
}

abbrev pub decreases-loop-next : goal.decreases-loop-next
decreases-loop-next g l = numbers_left l.next
