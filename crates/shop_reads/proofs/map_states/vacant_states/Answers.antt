use Rattle.shop_reads.specs.MapSteps.{vacant_state}
use Rattle.shop_reads.proofs.Pictures.{pushed}
use Rattle.shop_reads.proofs.map_states.vacant_states.Goals as goal

pub loop-place-preserved : goal.loop-place-preserved
loop-place-preserved g c =
    pushed (vacant_state (g.F.Format.directory c.args.format.now c.args.volume.now)) c.loop-place.table.items c.push.new.self.items c.loop-place.place
    c.vacant_state.result c.loop-place.invariant c.in_ok-push.ensures.items c.vacant_state.ensures
