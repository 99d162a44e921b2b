use Rattle.std.proofs.Common.{◌≡◌, ◌∙◌, ◌+◌, [], false, length, refl, ap, subst, sym, arith}
use Rattle.std.specs.List.{AllZip}
use Rattle.std.specs.Prelude.{IsTrue}
use Rattle.std.proofs.lemmas.List.{with_items_is}
use Rattle.std.proofs.lemmas.Result.{err_from_is_err_and}
use Rattle.a2_device.specs.Device.{DeviceState, OnlyReads}
use Rattle.a2_device.specs.Reading.{unread, then_reads}
use Rattle.a2_device.specs.Stop.{is_device_stop, same_stop}
use Rattle.vol_check.specs.FaultFiles.{FileFaultAt, TellsOf}
use Rattle.vol_check.specs.Walk.{lists, unseen}
use Rattle.vol_check.specs.Walking.{IsWalking, None}
use Rattle.vol_check.proofs.FileFaults.{files_below, zipped_on}
use Rattle.vol_check.proofs.Files.{start_sound, start_walking}
use Rattle.vol_check.proofs.walk.walk_files.Goals as goal

pub returns-in_err-walk : goal.returns-in_err-walk
returns-in_err-walk g c =
    let given = err_from_is_err_and c.from_residual.result c.from_residual.ensures.1 in
    rw (given.1, given.2) (record {
      device = unread (g.D.Device.state c.args.device.now);
      pending = tt;
      sound = tt;
      walking = λ _. tt;
      entries = tt;
      files = λ _. tt;
    })

pub returns-in_err-unit : goal.returns-in_err-unit
returns-in_err-unit g c =
    let given = err_from_is_err_and c.from_residual-in_err-unit.result c.from_residual-in_err-unit.ensures.1 in
    rw (given.1, given.2) (record {
      device = unread (g.D.Device.state c.args.device.now);
      pending = tt;
      sound = tt;
      walking = λ _. tt;
      entries = tt;
      files = λ _. tt;
    })

pub walk_file-requires-clause-fits : goal.walk_file-requires-clause-fits
walk_file-requires-clause-fits g c =
    let same = c.loop-file.invariant.device.same in
    record {
      unit = same.unit_size ∙ c.requires.fits.unit;
      places = subst (g.F.Format.meaning c.args.format.now).Takes (sym same.places) c.requires.fits.places;
    }

pub walk_file-requires-clause-places : goal.walk_file-requires-clause-places
walk_file-requires-clause-places g c = c.requires.places ∙ sym c.loop-file.invariant.device.same.places

pub walk_file-requires-clause-walking : goal.walk_file-requires-clause-walking
walk_file-requires-clause-walking g c = λ still.
    let format = g.F.Format.meaning c.args.format.now in
    let directory = g.F.Format.directory c.args.format.now c.args.volume.now in
    let before = c.loop-file.invariant in
    let honest = subst IsTrue before.device.same.honest still in
    subst (λ (d : DeviceState). IsWalking format directory d.store c.loop-file.file None (lists c.loop-file.walk)) (sym (before.device.kept honest refl)) (before.walking honest)

pub returns-in_err-resize : goal.returns-in_err-resize
returns-in_err-resize g c =
    let given = err_from_is_err_and c.from_residual-in_err-resize.result c.from_residual-in_err-resize.ensures.1 in
    rw (given.1, given.2) (record {
      device = then_reads false (g.D.Device.state c.args.device.now) (g.D.Device.state c.loop-file.device) (g.D.Device.state c.walk_file.new.device) c.loop-file.invariant.device c.in_ok-walk_file.ensures.device;
      pending = tt;
      sound = tt;
      walking = λ _. tt;
      entries = tt;
      files = λ _. tt;
    })

pub returns-clause-device : goal.returns-clause-device
returns-clause-device g c = c.loop-file.invariant.device

pub returns-clause-files : goal.returns-clause-files
returns-clause-files g c = c.loop-file.invariant.files

pub loop-file-init : goal.loop-file-init
loop-file-init g c =
    let format = g.F.Format.meaning c.args.format.now in
    let laws = g.met.F.Format.readable c.args.format.now in
    let directory = g.F.Format.directory c.args.format.now c.args.volume.now in
    let device = g.D.Device.state c.args.device.now in
    let start : lists c.in_ok-walk.walk ≡ unseen directory.places = c.in_ok-walk.ensures ∙ ap (λ n. unseen n) (c.places.ensures ∙ sym c.requires.places) in
    record {
      device = unread device;
      unit_size = omega (arith, c.in_ok-unit.unit.ok.0, c.in_ok-unit.ensures.len, c.unit.ensures, c.requires.fits.unit);
      pending = ap (λ (l : _). l.pending) c.in_ok-walk.ensures;
      sound = start_sound format laws directory (lists c.in_ok-walk.walk) start;
      walking = λ honest. start_walking format laws directory device.store 0 (λ file less. absurd (omega (arith, less))) (lists c.in_ok-walk.walk) start;
      entries = λ k d within. absurd (omega (arith, within, ap length c.new-files.ensures.items));
      files = λ honest.
          subst (λ fs. AllZip (FileFaultAt format directory device.store) fs c.in_ok-walk.walk.faults.items) (sym c.new-files.ensures.items)
          (subst (AllZip (FileFaultAt format directory device.store) []) (sym (ap (λ (l : _). l.faults) start)) tt);
    }

pub returns-clause-walking : goal.returns-clause-walking
returns-clause-walking g c = λ honest.
    let format = g.F.Format.meaning c.args.format.now in
    let directory = g.F.Format.directory c.args.format.now c.args.volume.now in
    let device = g.D.Device.state c.args.device.now in
    let last : c.loop-file.file ≡ c.entries-file-end.result = omega (arith, c.loop-file.auto.file-end) in
    subst (λ n. IsWalking format directory device.store n None (lists c.loop-file.walk)) (last ∙ c.entries-file-end.ensures) (c.loop-file.invariant.walking honest)

pub returns-in_err-walk_file-clause-device : goal.returns-in_err-walk_file-clause-device
returns-in_err-walk_file-clause-device g c =
    let start = g.D.Device.state c.args.device.now in
    let mid = g.D.Device.state c.loop-file.device in
    let new = g.D.Device.state c.walk_file.new.device in
    let last = same_stop c.from_residual-in_err-walk_file.result c.in_err-walk_file.field-0.0 c.from_residual-in_err-walk_file.ensures.1 in
    then_reads (is_device_stop c.from_residual-in_err-walk_file.result) start mid new c.loop-file.invariant.device
    (subst (λ failed. OnlyReads failed mid new) (sym last) c.in_err-walk_file.ensures.device)

pub loop-file-preserved : goal.loop-file-preserved
loop-file-preserved g c =
    let format = g.F.Format.meaning c.args.format.now in
    let directory = g.F.Format.directory c.args.format.now c.args.volume.now in
    let start = g.D.Device.state c.args.device.now in
    let mid = g.D.Device.state c.loop-file.device in
    let before = c.loop-file.invariant in
    let walked = c.in_ok-walk_file.ensures in
    let unit : length c.walk_file.new.unit ≡ length c.loop-file.unit.items = c.walk_file.auto.unit ∙ ap length c.deref_mut.ensures.value in
    record {
      device = then_reads false start mid (g.D.Device.state c.walk_file.new.device) before.device walked.device;
      unit_size = ap length (with_items_is c.loop-file.unit c.walk_file.new.unit (unit ∙ sym c.loop-file.unit.ok.0)) ∙ unit ∙ before.unit_size;
      pending = walked.pending;
      sound = walked.sound;
      walking = λ honest.
          subst (λ (d : DeviceState). IsWalking format directory d.store (c.loop-file.file + 1) None (lists c.walk_file.new.walk)) (before.device.kept honest refl)
          (walked.walking (subst IsTrue (sym before.device.same.honest) honest));
      entries = files_below c.loop-file.file c.loop-file.files.items c.resize.new.self.items c.len.result _ before.entries c.in_ok-resize.ensures.items;
      files = λ honest.
          let told = subst (λ (d : DeviceState). TellsOf format directory d.store c.loop-file.file c.loop-file.walk.faults.items c.walk_file.new.walk.faults.items)
          (before.device.kept honest refl) (walked.told (subst IsTrue (sym before.device.same.honest) honest)) in
          zipped_on (FileFaultAt format directory start.store) c.loop-file.file c.loop-file.files.items c.resize.new.self.items c.loop-file.walk.faults.items
          told.told c.walk_file.new.walk.faults.items c.len.result c.loop-file.files.len (before.files honest) told.behind told.of_file
          (c.len.ensures ∙ c.walk_file.new.walk.faults.ok.0) c.loop-file.files.ok.0 c.in_ok-resize.ensures.items;
    }

pub returns-clause-entries : goal.returns-clause-entries
returns-clause-entries g c = λ k d within.
    omega (arith, c.loop-file.invariant.entries k d within, c.loop-file.auto.file-end, c.entries-file-end.ensures)
