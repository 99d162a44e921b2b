use Rattle.std.proofs.Common.{◌≡◌, ◌∙◌, None, Some, IsTrue, ap, sym, subst, refl, false, arith}
use Rattle.a2_device.specs.Device.{DeviceState}
use Rattle.a2_device.specs.Reading.{unread, then_reads}
use Rattle.vol_laws.specs.Markings.{marking_write}
use Rattle.edit_formats.specs.Markings.{nearest, marked_in}
use Rattle.edit_formats.proofs.Nearest.{nearest_none}
use Rattle.edit_formats.proofs.MarkedUnits.{none_marked, one_marked, unit_inside, above_from, not_some}
use Rattle.edit_formats.proofs.marking.mark_all.Goals as goal

pub loop-at-init : goal.loop-at-init
loop-at-init g c =
    let format = c.args.format.now in
    let old = g.D.Device.state c.args.device.now in
    (unread old, none_marked (g.F.Format.meaning format) c.args.free (g.F.Format.directory format c.args.volume.now) c.args.places.now old c.args.writes.items)

pub mark_unit-requires-clause-at : goal.mark_unit-requires-clause-at
mark_unit-requires-clause-at g c =
    let format = c.args.format.now in
    let directory = g.F.Format.directory format c.args.volume.now in
    let next : nearest directory c.loop-at.from None c.args.places.now ≡ Some c.in-Some.at = cc (c.next_unit.ensures, c.in-Some.is) in
    unit_inside (g.F.Format.meaning format) directory (g.met.F.Format.rooted format c.args.volume.now) c.args.places.now c.requires.places c.loop-at.from c.in-Some.at next

pub loop-at-smaller : goal.loop-at-smaller
loop-at-smaller g c =
    let format = c.args.format.now in
    let directory = g.F.Format.directory format c.args.volume.now in
    let next : nearest directory c.loop-at.from None c.args.places.now ≡ Some c.in-Some.at = cc (c.next_unit.ensures, c.in-Some.is) in
    let within = unit_inside (g.F.Format.meaning format) directory (g.met.F.Format.rooted format c.args.volume.now) c.args.places.now c.requires.places c.loop-at.from c.in-Some.at next in
    let above = above_from directory c.loop-at.from c.in-Some.at c.args.places.now next in
    omega (arith, within, above, c.from-from.ensures)

pub loop-at-preserved : goal.loop-at-preserved
loop-at-preserved g c =
    let format = c.args.format.now in
    let meaning = g.F.Format.meaning format in
    let directory = g.F.Format.directory format c.args.volume.now in
    let places = c.args.places.now in
    let old = g.D.Device.state c.args.device.now in
    let mid = g.D.Device.state c.loop-at.device in
    let new = g.D.Device.state c.mark_unit.new.device in
    let at = c.in-Some.at in
    let reads = c.loop-at.invariant.0 in
    let made = c.in_ok-write.ensures in
    let next : nearest directory c.loop-at.from None places ≡ Some at = cc (c.next_unit.ensures, c.in-Some.is) in
    let within = unit_inside meaning directory (g.met.F.Format.rooted format c.args.volume.now) places c.requires.places c.loop-at.from at next in
    let more = one_marked meaning c.args.free directory places old c.args.writes.items c.loop-at.from at c.loop-at.writes.items c.loop-at.invariant.1 next within
    c.in_ok-write.write made.place (made.size ∙ reads.same.unit_size)
    (λ honest. made.prepared (subst IsTrue (sym reads.same.honest) honest)
    ∙ ap (λ (d : DeviceState). marking_write meaning c.args.free d.store (record { at = at; places = marked_in directory at places })) (reads.kept honest refl)) in (
      then_reads false old mid new reads made.device,
      rw (c.in_ok-writes.ensures, c.from-from.ensures) more,
    )

pub returns-clause-marked : goal.returns-clause-marked
returns-clause-marked g c =
    let format = c.args.format.now in
    let directory = g.F.Format.directory format c.args.volume.now in
    let places = c.args.places.now in (
      c.loop-at.from,
      c.loop-at.invariant.1,
      nearest_none directory c.loop-at.from places (not_some (nearest directory c.loop-at.from None places) (λ at is. c.in_default.not-Some at (c.next_unit.ensures ∙ is))),
    )
