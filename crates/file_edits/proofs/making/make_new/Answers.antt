use Rattle.std.proofs.Common.{◌≡◌, ◌<◌, ◌∙◌, List, ap, sym, subst, map, length}
use Rattle.std.specs.Prelude.{All}
use Rattle.vol_laws.specs.Writes.{Write}
use Rattle.edit_formats.specs.declared.writes.Prepared.{Prepared}
use Rattle.edit_formats.specs.Prepared.{write_of}
use Rattle.edit_formats.proofs.Edits.{edited_after, edited_as}
use Rattle.file_edits.specs.Making.{making}
use Rattle.file_edits.specs.Made.{IsMaking}
use Rattle.file_edits.proofs.making.make_new.Goals as goal

pub write_all-requires-clause-places : goal.write_all-requires-clause-places
write_all-requires-clause-places g c =
    let places = (g.D.Device.state c.args.device.now).places in
    let writes = c.in-Ok.ensures in
    subst (λ n. All (λ (write : Prepared g.row.A.Denot). write.place < n) c.as_slice.result.now) (sym writes.device.same.places)
    (subst (All (λ (write : Prepared g.row.A.Denot). write.place < places)) (sym c.as_slice.ensures.value) writes.fit.inside)

pub write_all-requires-clause-units : goal.write_all-requires-clause-units
write_all-requires-clause-units g c =
    let size = (g.D.Device.state c.args.device.now).unit_size in
    let writes = c.in-Ok.ensures in
    subst (λ n. All (λ (write : Prepared g.row.A.Denot). length write.unit.items ≡ n) c.as_slice.result.now) (sym writes.device.same.unit_size)
    (subst (All (λ (write : Prepared g.row.A.Denot). length write.unit.items ≡ size)) (sym c.as_slice.ensures.value) writes.fit.sizes)

pub returns-in-Ok-clause-edited : goal.returns-in-Ok-clause-edited
returns-in-Ok-clause-edited g c =
    let old = g.D.Device.state c.args.device.now in
    let mid = g.D.Device.state c.checked_writes.new.device in
    let new = g.D.Device.state c.write_all.new.device in
    let IsMade : List Write → Type 0 = λ made. made ≡ map write_of c.as_slice.result.now in
    let IsEdit : List Write → Type 0 = IsMaking (making c.args.format.now old.store c.args.path.now c.args.date) in
    edited_as c.write_all.result old new IsMade IsEdit
    (λ honest made is. subst IsEdit (sym (is ∙ ap (map write_of) c.as_slice.ensures.value)) (c.in-Ok.ensures.made honest))
    (edited_after c.write_all.result old new IsMade mid c.in-Ok.ensures.device c.write_all.ensures.edited)
