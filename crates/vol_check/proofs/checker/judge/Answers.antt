use Rattle.std.proofs.Common.{◌≡◌, ◌<◌, ◌∙◌, false, length, refl, sym, subst, arith, inr}
use Rattle.std.proofs.lemmas.Bool.Decides.{nat_tests}
use Rattle.std.specs.List.{All, AllZip}
use Rattle.vol_format.specs.Directory.{entries}
use Rattle.std.specs.Prelude.{IsErrAnd, IsTrue, Result, Ok, Err}
use Rattle.std.proofs.lemmas.Result.{err_from_is_err_and}
use Rattle.a2_device.specs.Device.{DeviceState, OnlyReads}
use Rattle.a2_device.specs.Reading.{then_reads}
use Rattle.a2_device.specs.Stop.{is_stop_of_device}
use Rattle.a2_device.specs.declared.stop.Stop.{Stop}
use Rattle.a2_device.specs.declared.stop.Stop.TheVariants.{Device, Memory}
use Rattle.vol_format.specs.Reach.{IsPartsOf}
use Rattle.vol_format.specs.Accepted.{IsAccepted}
use Rattle.vol_check.specs.Answer.{error_of, is_device_error}
use Rattle.vol_check.specs.FaultFiles.{FaultList, FileFaultAt}
use Rattle.vol_check.specs.declared.error.CheckError.{CheckError}
use Rattle.vol_check.specs.Judgement.{AreFileFaults}
use Rattle.vol_check.specs.Told.{told_of, volume_of, IsToldOf}
use Rattle.vol_check.specs.Walk.{lists}
use Rattle.vol_check.proofs.Visits.{accepted, parts_of}
use Rattle.vol_check.proofs.Lost.{lost_are}
use Rattle.vol_check.proofs.Verdict.{nothing, some_faults, walked}
use Rattle.vol_check.proofs.checker.judge.Goals as goal

-- a walk that ended early ends the check alike
same_error : {T A : Type 0} (result : Result T (CheckError A)) (stop : Stop) → IsErrAnd result (λ e. e ≡ error_of stop) → is_device_error result ≡ is_stop_of_device stop
same_error (Ok value) stop is = absurd is
same_error (Err error) Device is = rw is refl
same_error (Err error) Memory is = rw is refl

pub walk_files-requires-clause-fits : goal.walk_files-requires-clause-fits
walk_files-requires-clause-fits g c =
    let same = c.in_ok-volume.ensures.device.same in
    record {
      unit = same.unit_size ∙ c.requires.fits.unit;
      places = subst (g.F.Format.meaning c.args.format.now).Takes (sym same.places) c.requires.fits.places;
    }

pub walk_files-requires-clause-places : goal.walk_files-requires-clause-places
walk_files-requires-clause-places g c = c.in_ok-volume.ensures.places ∙ sym c.in_ok-volume.ensures.device.same.places

pub returns-in_err-volume : goal.returns-in_err-volume
returns-in_err-volume g c =
    let given = err_from_is_err_and c.from_residual.result c.from_residual.ensures.1 in
    rw (given.1, given.2) (record {
      device = c.in_err-volume.ensures.device;
      places = tt;
      told = tt;
      entries = tt;
      accepted = λ _. tt;
      parts = λ _. tt;
      lost = λ _. tt;
      refused = λ _. tt;
      unread = c.in_err-volume.ensures.refused;
      files = c.in_err-volume.ensures.files;
    })

pub returns-in_err-walk-clause-device : goal.returns-in_err-walk-clause-device
returns-in_err-walk-clause-device g c =
    let start = g.D.Device.state c.args.device.now in
    let mid = g.D.Device.state c.read_volume.new.device in
    let new = g.D.Device.state c.walk_files.new.device in
    let last = same_error c.from_residual-in_err-walk.result c.in_err-walk.field-0.0 c.from_residual-in_err-walk.ensures.1 in
    then_reads (is_device_error c.from_residual-in_err-walk.result) start mid new c.in_ok-volume.ensures.device
    (subst (λ failed. OnlyReads failed mid new) (sym last) c.in_err-walk.ensures.device)

pub returns-then-not-is_empty-clause-device : goal.returns-then-not-is_empty-clause-device
returns-then-not-is_empty-clause-device g c =
    then_reads false (g.D.Device.state c.args.device.now) (g.D.Device.state c.read_volume.new.device) (g.D.Device.state c.walk_files.new.device)
    c.in_ok-volume.ensures.device c.in_ok-walk.ensures.device

pub returns-clause-device : goal.returns-clause-device
returns-clause-device g c =
    then_reads false (g.D.Device.state c.args.device.now) (g.D.Device.state c.read_volume.new.device) (g.D.Device.state c.walk_files.new.device)
    c.in_ok-volume.ensures.device c.in_ok-walk.ensures.device

pub returns-clause-places : goal.returns-clause-places
returns-clause-places g c =
    subst (λ v. (g.F.Format.directory c.args.format.now v).places ≡ (g.D.Device.state c.args.device.now).places) (sym c.in_ok-checked.ensures.volume) c.in_ok-volume.ensures.places

pub returns-clause-told : goal.returns-clause-told
returns-clause-told g c =
    subst (λ v. IsToldOf (g.F.Format.directory c.args.format.now v) (told_of c.in_ok-checked.field-0)) (sym c.in_ok-checked.ensures.volume) c.in_ok-checked.ensures.told

pub returns-then-not-is_empty-clause-refused : goal.returns-then-not-is_empty-clause-refused
returns-then-not-is_empty-clause-refused g c = λ honest.
    let format = g.F.Format.meaning c.args.format.now in
    let laws = g.met.F.Format.readable c.args.format.now in
    let directory = g.F.Format.directory c.args.format.now c.in_ok-volume.volume in
    let device = g.D.Device.state c.args.device.now in
    let volume = c.in_ok-volume.ensures in
    let faults = c.in_ok-walk.field-0.walk.faults.items in
    let walking = walked format directory device (g.D.Device.state c.read_volume.new.device) (lists c.in_ok-walk.field-0.walk) volume.device honest c.in_ok-walk.ensures.walking in
    subst (AreFileFaults format directory device.store) (sym c.of_files-faults.ensures) (record {
      described = volume.described honest;
      are = some_faults format device.store faults laws (λ fault has. inr (directory, volume.described honest, walking.faults fault has))
          (λ none. absurd (grind (arith, nat_tests, c.if-not-is_empty.ensures, c.in_ok-walk.field-0.walk.faults.ok.0, none)));
      of_files = subst (λ (d : DeviceState). AllZip (FileFaultAt format directory d.store) c.in_ok-walk.field-0.files.items faults)
          (volume.device.kept honest refl) (c.in_ok-walk.ensures.files (subst IsTrue (sym volume.device.same.honest) honest));
    })

pub returns-then-not-is_empty-clause-entries : goal.returns-then-not-is_empty-clause-entries
returns-then-not-is_empty-clause-entries g c =
    subst (λ (list : FaultList). All (λ file. file < entries (g.F.Format.directory c.args.format.now c.in_ok-volume.volume)) list.files)
    (sym c.of_files-faults.ensures) c.in_ok-walk.ensures.entries

pub returns-clause-accepted : goal.returns-clause-accepted
returns-clause-accepted g c = λ honest.
    let format = g.F.Format.meaning c.args.format.now in
    let laws = g.met.F.Format.readable c.args.format.now in
    let directory = g.F.Format.directory c.args.format.now c.in_ok-volume.volume in
    let device = g.D.Device.state c.args.device.now in
    let none : length c.in_ok-walk.field-0.walk.faults.items ≡ 0 = grind (arith, nat_tests, c.if-not-is_empty.ensures, c.in_ok-walk.field-0.walk.faults.ok.0) in
    let walking = walked format directory device (g.D.Device.state c.read_volume.new.device) (lists c.in_ok-walk.field-0.walk) c.in_ok-volume.ensures.device honest c.in_ok-walk.ensures.walking in
    subst (λ v. IsAccepted format (g.F.Format.directory c.args.format.now v) device.store) (sym c.in_ok-checked.ensures.volume)
    (accepted format laws directory device.store (lists c.in_ok-walk.field-0.walk) walking c.in_ok-walk.ensures.pending
    (nothing c.in_ok-walk.field-0.walk.faults.items none) (c.in_ok-volume.ensures.described honest))

pub returns-clause-parts : goal.returns-clause-parts
returns-clause-parts g c = λ honest.
    let format = g.F.Format.meaning c.args.format.now in
    let laws = g.met.F.Format.readable c.args.format.now in
    let directory = g.F.Format.directory c.args.format.now c.in_ok-volume.volume in
    let device = g.D.Device.state c.args.device.now in
    let none : length c.in_ok-walk.field-0.walk.faults.items ≡ 0 = grind (arith, nat_tests, c.if-not-is_empty.ensures, c.in_ok-walk.field-0.walk.faults.ok.0) in
    let walking = walked format directory device (g.D.Device.state c.read_volume.new.device) (lists c.in_ok-walk.field-0.walk) c.in_ok-volume.ensures.device honest c.in_ok-walk.ensures.walking in
    let parts = parts_of format laws directory device.store (lists c.in_ok-walk.field-0.walk) walking c.in_ok-walk.ensures.pending (nothing c.in_ok-walk.field-0.walk.faults.items none) in
    subst (λ v. IsPartsOf format (g.F.Format.directory c.args.format.now v) device.store (told_of c.in_ok-checked.field-0).parts) (sym c.in_ok-checked.ensures.volume)
    (subst (IsPartsOf format directory device.store) (sym c.in_ok-checked.ensures.parts) parts)

pub returns-clause-lost : goal.returns-clause-lost
returns-clause-lost g c = λ honest place.
    let format = g.F.Format.meaning c.args.format.now in
    let told = told_of c.in_ok-checked.field-0 in
    let now = g.F.Format.directory c.args.format.now (volume_of c.in_ok-checked.field-0) in
    let of : IsToldOf now told = subst (λ v. IsToldOf (g.F.Format.directory c.args.format.now v) told) (sym c.in_ok-checked.ensures.volume) c.in_ok-checked.ensures.told in
    lost_are format now (g.D.Device.state c.args.device.now).store told.parts (returns-clause-parts g c honest) place told.lost of.lost
