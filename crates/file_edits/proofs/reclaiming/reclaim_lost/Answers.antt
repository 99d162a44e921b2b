use Rattle.std.proofs.Common.{◌≡◌, ◌<◌, ◌∙◌, ℕ, List, ap, sym, subst, refl, map, IsTrue, length, false}
use Rattle.std.specs.Prelude.{◌↔◌, All, Contains}
use Rattle.a2_device.specs.Device.{DeviceState}
use Rattle.a2_device.specs.Reading.{then_reads}
use Rattle.vol_check.specs.Told.{told_of, volume_of}
use Rattle.vol_format.specs.Standing.{IsLost}
use Rattle.vol_laws.specs.Writes.{Write}
use Rattle.edit_formats.specs.declared.writes.Prepared.{Prepared}
use Rattle.edit_formats.specs.Prepared.{write_of}
use Rattle.edit_formats.proofs.Edits.{edited_after, edited_as}
use Rattle.file_edits.specs.Reclaimed.{IsReclaimEdit, IsReclaiming}
use Rattle.file_edits.proofs.LostMarks.{lost_below, device_refusal}
use Rattle.file_edits.proofs.reclaiming.reclaim_lost.Goals as goal

pub release_lost-requires-clause-lost : goal.release_lost-requires-clause-lost
release_lost-requires-clause-lost g c =
    let format = c.args.format.now in
    let checked = c.in_ok-checked.checked in
    let volume = volume_of checked in
    let directory = g.F.Format.directory format volume in
    subst (λ v. All (λ place. place < (g.F.Format.directory format v).places) c.lost.result.now) (sym c.volume.ensures)
    (subst (All (λ place. place < directory.places)) (sym c.lost.ensures)
    (lost_below (g.F.Format.meaning format) directory (told_of checked) (g.met.F.Format.rooted format volume) c.in_ok-checked.ensures.told))

pub write_all-requires-clause-places : goal.write_all-requires-clause-places
write_all-requires-clause-places g c =
    let places = (g.D.Device.state c.check.new.device).places in
    let writes = c.in_ok-writes.ensures in
    subst (λ n. All (λ (write : Prepared g.row.A.Denot). write.place < n) c.as_slice.result.now) (sym writes.device.same.places)
    (subst (All (λ (write : Prepared g.row.A.Denot). write.place < places)) (sym c.as_slice.ensures.value) writes.inside)

pub write_all-requires-clause-units : goal.write_all-requires-clause-units
write_all-requires-clause-units g c =
    let size = (g.D.Device.state c.check.new.device).unit_size in
    let writes = c.in_ok-writes.ensures in
    subst (λ n. All (λ (write : Prepared g.row.A.Denot). length write.unit.items ≡ n) c.as_slice.result.now) (sym writes.device.same.unit_size)
    (subst (All (λ (write : Prepared g.row.A.Denot). length write.unit.items ≡ size)) (sym c.as_slice.ensures.value) writes.sizes)

pub returns-clause-edited : goal.returns-clause-edited
returns-clause-edited g c =
    let format = c.args.format.now in
    let meaning = g.F.Format.meaning format in
    let old = g.D.Device.state c.args.device.now in
    let mid = g.D.Device.state c.check.new.device in
    let read = g.D.Device.state c.release_lost.new.device in
    let new = g.D.Device.state c.write_all.new.device in
    let checked = c.in_ok-checked.ensures in
    let directory = g.F.Format.directory format (volume_of c.in_ok-checked.checked) in
    let lost = c.lost.result.now in
    let IsMade : List Write → Type 0 = λ made. made ≡ map write_of c.as_slice.result.now in
    edited_as c.write_all.result old new IsMade (IsReclaimEdit meaning old.store)
    (λ honest made is.
    let kept = checked.device.kept honest refl in
    let are : (place : ℕ) → Contains lost place ↔ IsLost meaning (g.F.Format.directory format c.volume.result.now) mid.store place =
    subst (λ v. (place : ℕ) → Contains lost place ↔ IsLost meaning (g.F.Format.directory format v) mid.store place) (sym c.volume.ensures)
    (subst (λ (d : DeviceState). (place : ℕ) → Contains lost place ↔ IsLost meaning directory d.store place) (sym kept)
    (subst (λ places. (place : ℕ) → Contains places place ↔ IsLost meaning directory old.store place) (sym c.lost.ensures) (checked.lost honest))) in
    let reclaims =
    subst (λ (d : DeviceState). IsReclaiming meaning directory d.store (map write_of c.in_ok-writes.writes.items)) kept
    (subst (λ v. IsReclaiming meaning (g.F.Format.directory format v) mid.store (map write_of c.in_ok-writes.writes.items)) c.volume.ensures
    (c.in_ok-writes.ensures.reclaims (subst IsTrue (sym checked.device.same.honest) honest) are)) in
    subst (IsReclaimEdit meaning old.store) (sym (is ∙ ap (map write_of) c.as_slice.ensures.value))
    (record { directory = directory; accepted = checked.accepted honest; reclaiming = reclaims; few = c.in_ok-writes.ensures.few }))
    (edited_after c.write_all.result old new IsMade read (then_reads false old mid read checked.device c.in_ok-writes.ensures.device) c.write_all.ensures.edited)

pub returns-clause-refusals : goal.returns-clause-refusals
returns-clause-refusals g c = device_refusal c.write_all.result c.write_all.ensures.refused
