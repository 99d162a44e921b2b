use Rattle.vol_check.specs.Told.{told_of, volume_of}
use Rattle.shop_reads.proofs.PlaceTables.{put_are}
use Rattle.shop_reads.proofs.map.checked_map.Goals as goal

pub returns-clause-map : goal.returns-clause-map
returns-clause-map g c = λ honest.
    let format = g.F.Format.meaning c.args.format.now in
    let store = (g.D.Device.state c.args.device.now).store in
    let checked = c.in_ok-checked.checked in
    let directory = g.F.Format.directory c.args.format.now (volume_of checked) in
    let parts = (told_of checked).parts in
    let are_parts = c.in_ok-checked.ensures.parts honest in
    let put = c.in_ok-map_of.ensures.places in
    record {
      directory = directory;
      accepted = c.in_ok-checked.ensures.accepted honest;
      parts = parts;
      are_parts = are_parts;
      are_many = c.in_ok-map_of.ensures.parts;
      are_states = put_are format store directory parts (g.met.F.Format.rooted c.args.format.now (volume_of checked)) are_parts put.vacant
          c.in_ok-map_of.field-0.places.items put.is put.put;
    }
