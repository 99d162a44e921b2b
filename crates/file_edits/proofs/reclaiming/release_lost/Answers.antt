use Rattle.std.proofs.Common.{◌≡◌, ◌<◌, length, map, true}
use Rattle.std.specs.Prelude.{All}
use Rattle.edit_formats.specs.declared.writes.Prepared.{Prepared}
use Rattle.edit_formats.specs.Markings.{AreMarked}
use Rattle.edit_formats.specs.Prepared.{write_of}
use Rattle.edit_formats.proofs.Deletions.{if_ok}
use Rattle.file_edits.specs.Reclaimed.{IsReclaiming}
use Rattle.file_edits.proofs.LostMarks.{lost_inside, lost_sizes, whole_reclaim}
use Rattle.file_edits.proofs.reclaiming.release_lost.Goals as goal

pub returns-clause-inside : goal.returns-clause-inside
returns-clause-inside g c =
    let meaning = g.F.Format.meaning c.args.format.now in
    let directory = g.F.Format.directory c.args.format.now c.args.volume.now in
    let old = g.D.Device.state c.args.device.now in
    let lost = c.args.lost.now in
    let start = c.new.result.items in
    if_ok c.mark_all.result (λ writes. AreMarked meaning true directory lost old start writes.items)
    (λ writes. All (λ (write : Prepared g.row.A.Denot). write.place < old.places) writes.items)
    (λ writes all. lost_inside meaning directory lost old start writes.items c.new.ensures.items all c.requires.places) c.mark_all.ensures.marked

pub returns-clause-sizes : goal.returns-clause-sizes
returns-clause-sizes g c =
    let meaning = g.F.Format.meaning c.args.format.now in
    let directory = g.F.Format.directory c.args.format.now c.args.volume.now in
    let old = g.D.Device.state c.args.device.now in
    let lost = c.args.lost.now in
    let start = c.new.result.items in
    if_ok c.mark_all.result (λ writes. AreMarked meaning true directory lost old start writes.items)
    (λ writes. All (λ (write : Prepared g.row.A.Denot). length write.unit.items ≡ old.unit_size) writes.items)
    (λ writes all. lost_sizes meaning directory lost old start writes.items c.new.ensures.items all) c.mark_all.ensures.marked

pub returns-clause-reclaims : goal.returns-clause-reclaims
returns-clause-reclaims g c = λ honest are.
    let meaning = g.F.Format.meaning c.args.format.now in
    let directory = g.F.Format.directory c.args.format.now c.args.volume.now in
    let old = g.D.Device.state c.args.device.now in
    let lost = c.args.lost.now in
    let start = c.new.result.items in
    if_ok c.mark_all.result (λ writes. AreMarked meaning true directory lost old start writes.items)
    (λ writes. IsReclaiming meaning directory old.store (map write_of writes.items))
    (λ writes all. whole_reclaim meaning directory lost old start writes.items c.new.ensures.items all honest are) c.mark_all.ensures.marked
