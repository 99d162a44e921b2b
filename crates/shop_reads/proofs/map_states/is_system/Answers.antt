use Rattle.std.proofs.Common.{sym}
use Rattle.shop_reads.proofs.PlaceTables.{outside_system}
use Rattle.shop_reads.proofs.map_states.is_system.Goals as goal

pub returns-in-None : goal.returns-in-None
returns-in-None g c = sym c.in-None.ensures.none

pub returns-in-Some : goal.returns-in-Some
returns-in-Some g c = sym (
    outside_system (g.F.Format.meaning c.args.format.now) (g.F.Format.directory c.args.format.now c.args.volume.now) c.args.place c.in-Some.field-0
    (g.met.F.Format.rooted c.args.format.now c.args.volume.now) c.in-Some.ensures.some
    )
