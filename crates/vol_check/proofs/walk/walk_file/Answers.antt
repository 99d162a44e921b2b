use Rattle.std.proofs.Common.{◌≡◌, ◌<◌, ◌+◌, ◌++◌, [], ◌∷◌, refl, sym, ◌∙◌, ap, subst, arith, false}
use Rattle.std.specs.Prelude.{IsTrue}
use Rattle.std.proofs.lemmas.Result.{err_from_is_err_and}
use Rattle.a2_device.specs.Device.{DeviceState, OnlyReads}
use Rattle.a2_device.specs.Reading.{unread, then_reads}
use Rattle.a2_device.specs.Stop.{is_device_stop, same_stop}
use Rattle.vol_check.specs.Walk.{lists, IsSound, after_next, next_unit}
use Rattle.vol_check.proofs.Failing.{fails_in_file}
use Rattle.vol_check.proofs.FileFaults.{begins_telling, goes_on_telling}
use Rattle.vol_check.proofs.Files.{root_sound, root_walking, next_walking}
use Rattle.vol_check.proofs.Marks.{marks_then}
use Rattle.vol_check.proofs.Room.{next_sound, next_work, work, top_in_range}
use Rattle.vol_check.proofs.walk.walk_file.Goals as goal

pub returns-in_err-note : goal.returns-in_err-note
returns-in_err-note g c =
    let given = err_from_is_err_and c.from_residual.result c.from_residual.ensures.1 in
    rw (given.1, given.2) (record {
      device = unread (g.D.Device.state c.args.device.now);
      pending = tt;
      sound = tt;
      walking = λ _. tt;
      told = λ _. tt;
      marks = c.note.ensures.marks;
      failed = λ _ failed. absurd (cc);
    })

pub go_on-requires-clause-size : goal.go_on-requires-clause-size
go_on-requires-clause-size g c = c.loop-next.invariant.device.same.unit_size ∙ c.requires.fits.unit

pub go_on-requires-clause-places : goal.go_on-requires-clause-places
go_on-requires-clause-places g c = c.requires.places ∙ sym c.loop-next.invariant.device.same.places

pub go_on-requires-clause-visited : goal.go_on-requires-clause-visited
go_on-requires-clause-visited g c = c.loop-next.invariant.sound.size

pub returns-in_err-go_on-clause-device : goal.returns-in_err-go_on-clause-device
returns-in_err-go_on-clause-device g c =
    let start = g.D.Device.state c.args.device.now in
    let mid = g.D.Device.state c.loop-next.device in
    let new = g.D.Device.state c.go_on.new.device in
    let last = same_stop c.from_residual-in_err-go_on.result c.in_err-go_on.field-0.0 c.from_residual-in_err-go_on.ensures.1 in
    then_reads (is_device_stop c.from_residual-in_err-go_on.result) start mid new c.loop-next.invariant.device
    (subst (λ failed. OnlyReads failed mid new) (sym last) c.in_err-go_on.ensures.device)

pub returns-clause-device : goal.returns-clause-device
returns-clause-device g c = c.loop-next.invariant.device

pub returns-clause-marks : goal.returns-clause-marks
returns-clause-marks g c = c.loop-next.invariant.marks

pub returns-clause-failed : goal.returns-clause-failed
returns-clause-failed g c = λ _ failed. absurd (cc)

pub loop-next-init : goal.loop-next-init
loop-next-init g c =
    let format = g.F.Format.meaning c.args.format.now in
    let laws = g.met.F.Format.readable c.args.format.now in
    let of = g.met.F.Format.rooted c.args.format.now c.args.volume.now in
    let directory = g.F.Format.directory c.args.format.now c.args.volume.now in
    let device = g.D.Device.state c.args.device.now in
    record {
      device = unread device;
      sound = root_sound format laws directory of c.args.file c.entry_at-entry.result.place c.root.result (lists c.args.walk.now) (lists c.note.new.walk)
          (subst format.Takes (sym c.requires.places) c.requires.fits.places) c.requires.file c.root.ensures c.in_ok-note.ensures.walk c.requires.sound;
      walking = λ honest. root_walking format laws directory device.store of c.args.file c.entry_at-entry.result.place c.root.result
          (lists c.args.walk.now) (lists c.note.new.walk) c.entry_at-entry.ensures.place c.root.ensures c.in_ok-note.ensures.walk c.requires.file c.requires.pending (c.requires.walking honest);
      telling = λ honest. begins_telling format directory device.store c.args.file (lists c.args.walk.now).faults c.entry_at-entry.result.place c.root.result
          (lists c.args.walk.now) (lists c.note.new.walk) c.requires.file c.entry_at-entry.ensures.place c.root.ensures c.in_ok-note.ensures.walk c.requires.pending refl;
      marks = c.note.ensures.marks;
    }

pub go_on-requires-clause-place : goal.go_on-requires-clause-place
go_on-requires-clause-place g c = λ part is.
    let format = g.F.Format.meaning c.args.format.now in
    let laws = g.met.F.Format.readable c.args.format.now in
    let directory = g.F.Format.directory c.args.format.now c.args.volume.now in
    let takes = subst format.Takes (sym c.requires.places) c.requires.fits.places in
    let top = c.in-Some.ensures.items ∙ ap (λ next. c.pop.new.self.items ++ next ∷ []) is in
    omega (
      arith,
      top_in_range format laws directory takes (lists c.loop-next.walk) c.pop.new.self.items part [] c.loop-next.invariant.sound top,
      c.requires.places,
      c.loop-next.invariant.device.same.places,
    )

pub loop-next-smaller : goal.loop-next-smaller
loop-next-smaller g c =
    let format = g.F.Format.meaning c.args.format.now in
    let laws = g.met.F.Format.readable c.args.format.now in
    let directory = g.F.Format.directory c.args.format.now c.args.volume.now in
    let takes = subst format.Takes (sym c.requires.places) c.requires.fits.places in
    let next : work (lists c.go_on.new.walk) < work (lists c.loop-next.walk) =
    subst (λ w. work w < work (lists c.loop-next.walk)) (sym c.in_ok-go_on.ensures.walk)
    (next_work format laws directory takes (lists c.loop-next.walk) c.pop.new.self.items c.in-Some.next c.go_on.new.unit c.loop-next.invariant.sound c.in-Some.ensures.items) in
    next

pub loop-next-preserved : goal.loop-next-preserved
loop-next-preserved g c =
    let format = g.F.Format.meaning c.args.format.now in
    let laws = g.met.F.Format.readable c.args.format.now in
    let directory = g.F.Format.directory c.args.format.now c.args.volume.now in
    let takes = subst format.Takes (sym c.requires.places) c.requires.fits.places in
    let device = g.D.Device.state c.args.device.now in
    let before = c.loop-next.invariant in
    let items = c.in-Some.ensures.items in
    record {
      device = then_reads false device (g.D.Device.state c.loop-next.device) (g.D.Device.state c.go_on.new.device) before.device c.in_ok-go_on.ensures.device;
      sound = subst (IsSound format directory) (sym c.in_ok-go_on.ensures.walk)
          (next_sound format laws directory takes (lists c.loop-next.walk) c.pop.new.self.items c.in-Some.next c.go_on.new.unit before.sound items);
      walking = λ honest.
          let same = before.device.kept honest refl in
          let still = subst IsTrue (sym before.device.same.honest) honest in
          let whole = g.met.D.Device.whole c.args.device.now honest in
          next_walking format laws directory device.store (c.args.file + 1) (lists c.loop-next.walk) (lists c.go_on.new.walk) c.pop.new.self.items c.in-Some.next
          before.sound (before.walking honest) items (c.requires.places ∙ sym whole.all)
          (subst (λ (d : DeviceState). lists c.go_on.new.walk ≡ after_next format directory c.in-Some.next (next_unit d.store c.in-Some.next) (record (lists c.loop-next.walk) { pending = c.pop.new.self.items }))
          same (c.in_ok-go_on.ensures.honest still));
      telling = λ honest.
          let same = before.device.kept honest refl in
          let still = subst IsTrue (sym before.device.same.honest) honest in
          let whole = g.met.D.Device.whole c.args.device.now honest in
          goes_on_telling format directory device.store c.args.file (lists c.args.walk.now).faults laws (lists c.loop-next.walk) (lists c.go_on.new.walk)
          c.pop.new.self.items c.in-Some.next (before.walking honest) items (c.requires.places ∙ sym whole.all)
          (subst (λ (d : DeviceState). lists c.go_on.new.walk ≡ after_next format directory c.in-Some.next (next_unit d.store c.in-Some.next) (record (lists c.loop-next.walk) { pending = c.pop.new.self.items }))
          same (c.in_ok-go_on.ensures.honest still)) (before.telling honest);
      marks = marks_then (lists c.args.walk.now) (lists c.loop-next.walk) (lists c.go_on.new.walk) before.marks c.go_on.ensures.marks;
    }

pub returns-in_err-go_on-clause-marks : goal.returns-in_err-go_on-clause-marks
returns-in_err-go_on-clause-marks g c =
    marks_then (lists c.args.walk.now) (lists c.loop-next.walk) (lists c.go_on.new.walk) c.loop-next.invariant.marks c.go_on.ensures.marks

pub returns-in_err-go_on-clause-failed : goal.returns-in_err-go_on-clause-failed
returns-in_err-go_on-clause-failed g c = λ honest failed.
    let before = c.loop-next.invariant in
    let still = subst IsTrue (sym before.device.same.honest) honest in
    let last = same_stop c.from_residual-in_err-go_on.result c.in_err-go_on.field-0.0 c.from_residual-in_err-go_on.ensures.1 in
    fails_in_file (g.F.Format.meaning c.args.format.now) (g.F.Format.directory c.args.format.now c.args.volume.now) c.args.file
    (g.D.Device.state c.args.device.now) (g.D.Device.state c.loop-next.device) (g.D.Device.state c.go_on.new.device)
    (lists c.loop-next.walk) c.pop.new.self.items c.in-Some.next (before.device.kept honest refl) (before.walking honest) c.in-Some.ensures.items
    (c.in_err-go_on.ensures.failed still (subst IsTrue last failed))
