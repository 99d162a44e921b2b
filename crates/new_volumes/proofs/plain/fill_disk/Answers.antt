use Rattle.std.proofs.Common.{◌∙◌, ap, length}
use Rattle.new_volumes.proofs.Plains.{disk_plain}
use Rattle.new_volumes.proofs.Units.{length-zeros}
use Rattle.new_volumes.proofs.plain.fill_disk.Goals as goal

pub returns-clause-made : goal.returns-clause-made
returns-clause-made c =
    disk_plain c.args.number c.args.data_disk c.args.order _ c.args.disk.now c.copy_tracks.new.disk c.write_track_17.new.disk c.requires.zeroed c.in_ok-copy_tracks.ensures.copied
    c.write_track_17.ensures

pub write_track_17-requires : goal.write_track_17-requires
write_track_17-requires c = c.copy_tracks.auto.disk ∙ ap length c.requires.zeroed ∙ length-zeros 143360
