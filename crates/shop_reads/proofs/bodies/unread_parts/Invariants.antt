use Rattle.std.proofs.Common.{◌≡◌, length}
use Rattle.std.specs.Prelude.{IsTrue}
use Rattle.file_cmds.specs.ReadingOn.{ReadsOn}
use Rattle.shop_reads.proofs.Unread.{AreAmong, AreUnread}
use Rattle.shop_reads.proofs.bodies.unread_parts.Given as goal

abbrev pub invariant-loop-part : goal.invariant-loop-part
invariant-loop-part g l =
    let start = g.D.Device.state l.fn.device in
    record {
      reads : ReadsOn start (g.D.Device.state l.device);
      unit : length l.unit.items ≡ start.unit_size;
      among : AreAmong start l.parts l.unread.items;
      unread : IsTrue start.honest → AreUnread start l.parts (g.D.Device.state l.device) l.part-index l.unread.items;
    }
