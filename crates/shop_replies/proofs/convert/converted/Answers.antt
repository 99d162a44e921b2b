use Rattle.std.proofs.Common.{refl}
use Rattle.shop_replies.proofs.Converted.{disk_converted}
use Rattle.shop_replies.proofs.convert.converted.Goals as goal

pub returns-clause-converted : goal.returns-clause-converted
returns-clause-converted c =
    disk_converted c.args.order c.args.to c.args.volume c.args.image.items c.into_bytes.result.items c.in_ok-disk.disk c.in_ok-made.made
    (c.in_ok-disk.ensures.takes refl) c.in_ok-disk.ensures.holds
    (record {
      every = c.in_ok-made.ensures.there refl;
      order = c.in_ok-made.ensures.order;
      disk_too = c.in_ok-made.ensures.disk;
      sectors = c.in_ok-made.ensures.sectors;
      long = c.order-order.ensures.long;
      holds = c.order-order.ensures.holds;
      tracks = c.in_ok-made.ensures.made;
    })
    c.into_bytes.ensures.bytes
