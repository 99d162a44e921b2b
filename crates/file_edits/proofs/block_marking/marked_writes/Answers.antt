use Rattle.std.proofs.Common.{◌≡◌, ◌<◌, ◌∙◌, ◌∷◌, [], List, length, map, ap}
use Rattle.vol_laws.specs.Writes.{Write}
use Rattle.edit_formats.specs.declared.writes.Prepared.{Prepared}
use Rattle.edit_formats.specs.Prepared.{write_of}
use Rattle.file_edits.proofs.TwoWrites.{all_two, are_two, mark_below, one_mark}
use Rattle.file_edits.proofs.block_marking.marked_writes.Goals as goal

pub returns-clause-inside : goal.returns-clause-inside
returns-clause-inside g c =
    let old = g.D.Device.state c.args.device.now in
    let directory = g.F.Format.directory c.args.format.now c.args.volume.now in
    all_two c.args.write c.in_ok-marked.marked c.in_ok-writes.writes.items c.in_ok-behind.field-0.items c.in_ok-writes.ensures c.in_ok-behind.ensures
    (λ (write : Prepared g.row.A.Denot). write.place < old.places) c.requires.place
    (mark_below (g.F.Format.meaning c.args.format.now) directory (g.met.F.Format.rooted c.args.format.now c.args.volume.now) c.args.write.place c.in_ok-marked.marked.place old.places
    c.requires.volume c.requires.place (c.in_ok-marked.ensures.place ∙ c.map_unit-at.ensures))

pub returns-clause-sizes : goal.returns-clause-sizes
returns-clause-sizes g c =
    let old = g.D.Device.state c.args.device.now in
    all_two c.args.write c.in_ok-marked.marked c.in_ok-writes.writes.items c.in_ok-behind.field-0.items c.in_ok-writes.ensures c.in_ok-behind.ensures
    (λ (write : Prepared g.row.A.Denot). length write.unit.items ≡ old.unit_size) c.requires.unit c.in_ok-marked.ensures.size

pub returns-clause-marked : goal.returns-clause-marked
returns-clause-marked g c = λ honest.
    let meaning = g.F.Format.meaning c.args.format.now in
    let directory = g.F.Format.directory c.args.format.now c.args.volume.now in
    let old = g.D.Device.state c.args.device.now in
    ap (λ (l : List (Prepared g.row.A.Denot)). map write_of l)
    (are_two c.args.write c.in_ok-marked.marked c.in_ok-writes.writes.items c.in_ok-behind.field-0.items c.in_ok-writes.ensures c.in_ok-behind.ensures)
    ∙ ap (λ (w : Write). write_of c.args.write ∷ w ∷ [])
    (c.in_ok-marked.ensures.prepared honest ∙ one_mark meaning directory old.store c.args.write.place c.map_unit-at.result c.map_unit-at.ensures)
