use Rattle.std.proofs.Common.{◌≡◌, length, false, replicate}
use Rattle.std.specs.Prelude.{IsTrue}
use Rattle.a2_device.specs.Device.{OnlyReads}
use Rattle.file_cmds.proofs.Texts.{IsTextTo}
use Rattle.file_cmds.proofs.text.text_of.Given as goal

abbrev pub invariant-loop-part : goal.invariant-loop-part
invariant-loop-part g l =
    let start = g.D.Device.state l.fn.device in
    record {
      device : OnlyReads false start (g.D.Device.state l.device);
      zeros : l.zeros.items ≡ replicate start.unit_size 0;
      unit : length l.unit.items ≡ start.unit_size;
      text : IsTrue start.honest → IsTextTo start.unit_size start.store l.parts l.part-index l.next l.text.items;
    }
