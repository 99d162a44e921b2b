use Rattle.std.proofs.Common.{◌≡◌, ◌<◌, ◌∙◌, sym, subst, refl, map, length, true}
use Rattle.std.specs.Prelude.{All}
use Rattle.a2_device.specs.Device.{DeviceState}
use Rattle.vol_laws.specs.Deletion.{IsDeletion}
use Rattle.edit_formats.specs.declared.writes.Prepared.{Prepared}
use Rattle.edit_formats.specs.Prepared.{write_of}
use Rattle.edit_formats.specs.Markings.{AreMarked}
use Rattle.edit_formats.proofs.Deletions.{if_ok, own_below, all_inside, all_sizes, made_deletion}
use Rattle.file_edits.proofs.deleting.deletion.Goals as goal

pub mark_all-requires-clause-places : goal.mark_all-requires-clause-places
mark_all-requires-clause-places g c =
    let directory = g.F.Format.directory c.args.format.now c.args.volume.now in
    subst (All (λ place. place < directory.places)) (sym (c.as_slice.ensures.value ∙ c.in_ok-places.ensures)) (own_below directory c.args.file c.args.parts.now c.requires.parts)

pub returns-clause-inside : goal.returns-clause-inside
returns-clause-inside g c =
    let meaning = g.F.Format.meaning c.args.format.now in
    let directory = g.F.Format.directory c.args.format.now c.args.volume.now in
    let places = c.as_slice.result.now in
    let n = (g.D.Device.state c.args.device.now).places in
    let mid = g.D.Device.state c.erase.new.device in
    let start = c.in_ok-erased.erased.items in
    if_ok c.mark_all.result (λ writes. AreMarked meaning true directory places mid start writes.items)
    (λ writes. All (λ (write : Prepared g.row.A.Denot). write.place < n) writes.items)
    (λ writes all. all_inside meaning directory places mid start writes.items all n c.requires.places c.in_ok-erased.ensures.inside) c.mark_all.ensures.marked

pub returns-clause-sizes : goal.returns-clause-sizes
returns-clause-sizes g c =
    let meaning = g.F.Format.meaning c.args.format.now in
    let directory = g.F.Format.directory c.args.format.now c.args.volume.now in
    let places = c.as_slice.result.now in
    let n = (g.D.Device.state c.args.device.now).unit_size in
    let mid = g.D.Device.state c.erase.new.device in
    let start = c.in_ok-erased.erased.items in
    if_ok c.mark_all.result (λ writes. AreMarked meaning true directory places mid start writes.items)
    (λ writes. All (λ (write : Prepared g.row.A.Denot). length write.unit.items ≡ n) writes.items)
    (λ writes all. all_sizes meaning directory places mid start writes.items all n c.in_ok-erased.ensures.device.same.unit_size c.in_ok-erased.ensures.sizes)
    c.mark_all.ensures.marked

pub returns-clause-deletes : goal.returns-clause-deletes
returns-clause-deletes g c = λ honest accepted are.
    let format = c.args.format.now in
    let meaning = g.F.Format.meaning format in
    let erasures = g.F.EditableFormat.erasures format in
    let directory = g.F.Format.directory format c.args.volume.now in
    let file = c.args.file in
    let parts = c.args.parts.now in
    let places = c.as_slice.result.now in
    let old = g.D.Device.state c.args.device.now in
    let mid = g.D.Device.state c.erase.new.device in
    let start = c.in_ok-erased.erased.items in
    if_ok c.mark_all.result (λ writes. AreMarked meaning true directory places mid start writes.items)
    (λ writes. (deletion : IsDeletion meaning directory file old.store (map write_of writes.items)) × erasures.Erases old.store directory file deletion.system)
    (λ writes all.
    made_deletion meaning (g.met.F.Format.readable format) (g.met.F.WritableFormat.movable format) erasures (g.met.F.EditableFormat.erasable format)
    directory file parts old start writes.items honest (g.met.D.Device.whole c.args.device.now honest) c.requires.fits.unit accepted c.requires.file c.requires.is_file are c.requires.parts
    (c.in_ok-erased.ensures.erases honest accepted.described)
    (subst (λ of. AreMarked meaning true directory of old start writes.items) (c.as_slice.ensures.value ∙ c.in_ok-places.ensures)
    (subst (λ (d : DeviceState). AreMarked meaning true directory places d start writes.items) (c.in_ok-erased.ensures.device.kept honest refl) all)))
    c.mark_all.ensures.marked
