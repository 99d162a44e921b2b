use Rattle.std.proofs.Common.{◌≡◌, ap, refl, sym, subst}
use Rattle.std.specs.Prelude.{Err, IsTrue}
use Rattle.a2_device.specs.Device.{DeviceState}
use Rattle.file_cmds.specs.lemmas.Reading.{none_read, one_reading, read_twice}
use Rattle.volume_compare.specs.Comparison.{IsRefused}
use Rattle.volume_compare.proofs.NextTold.{still_fits}
use Rattle.volume_compare.proofs.Unread.{compared, first_unread, refused, second_unread}
use Rattle.volume_compare.proofs.comparing.compare_volumes.Goals as goal

still : {old new : DeviceState} → IsTrue old.honest → new ≡ old → IsTrue new.honest
still honest same = subst (λ (device : DeviceState). IsTrue device.honest) (sym same) honest

pub returns-in-Err-clause-refused : goal.returns-in-Err-clause-refused
returns-in-Err-clause-refused g c = λ honest other_honest.
    let files = g.F.FileFormat.files c.args.format.now in
    let format = g.F.Format.meaning c.args.format.now in
    let device = g.D.Device.state c.args.first.now in
    let device_read = g.D.Device.state c.read_volume.new.device in
    let other = g.E.Device.state c.args.second.now in
    subst (IsRefused c.args.form files format c.args.most device device_read other other) (sym c.of.ensures)
    (first_unread c.args.form files format c.args.most g.row.F-Volume.Denot device device_read other c.in-Err.error honest c.in-Err.ensures.device
    (λ is. c.in-Err.ensures.check honest (ap Err is)) (λ is. c.in-Err.ensures.found (ap Err is)))

pub returns-in-Err-read_volume-clause-refused : goal.returns-in-Err-read_volume-clause-refused
returns-in-Err-read_volume-clause-refused g c = λ honest other_honest.
    let files = g.F.FileFormat.files c.args.format.now in
    let format = g.F.Format.meaning c.args.format.now in
    let device = g.D.Device.state c.args.first.now in
    let device_read = g.D.Device.state c.read_volume.new.device in
    let other = g.E.Device.state c.args.second.now in
    let other_read = g.E.Device.state c.read_volume-2.new.device in
    let first = g.F.Format.directory c.args.format.now c.in-Ok.volume in
    subst (IsRefused c.args.form files format c.args.most device device_read other other_read) (sym c.of-in-Err-read_volume.ensures)
    (second_unread c.args.form files format c.args.most g.row.F-Volume.Denot device device_read other other_read first (c.in-Ok.ensures.described honest)
    c.in-Err-read_volume.error other_honest c.in-Err-read_volume.ensures.device
    (λ is. c.in-Err-read_volume.ensures.check other_honest (ap Err is)) (λ is. c.in-Err-read_volume.ensures.found (ap Err is)))

pub returns-clause-compared : goal.returns-clause-compared
returns-clause-compared g c = λ honest other_honest.
    let files = g.F.FileFormat.files c.args.format.now in
    let format = g.F.Format.meaning c.args.format.now in
    let device = g.D.Device.state c.args.first.now in
    let device_read = g.D.Device.state c.read_volume.new.device in
    let other = g.E.Device.state c.args.second.now in
    let other_read = g.E.Device.state c.read_volume-2.new.device in
    let first = g.F.Format.directory c.args.format.now c.in-Ok.volume in
    let second = g.F.Format.directory c.args.format.now c.in-Ok-read_volume.volume in
    let same = c.in-Ok.ensures.device.kept honest refl in
    let other_same = c.in-Ok-read_volume.ensures.device.kept other_honest refl in
    compared c.args.form files format c.args.most device device_read (g.D.Device.state c.compare_read.new.first) other other_read
    (g.E.Device.state c.compare_read.new.second) same other_same first second (c.in-Ok.ensures.described honest) (c.in-Ok-read_volume.ensures.described other_honest)
    c.args.all c.compare_read.result (c.compare_read.ensures.told (still honest same) (still other_honest other_same))

pub returns-clause-refused : goal.returns-clause-refused
returns-clause-refused g c = λ honest other_honest.
    let files = g.F.FileFormat.files c.args.format.now in
    let format = g.F.Format.meaning c.args.format.now in
    let device = g.D.Device.state c.args.first.now in
    let device_read = g.D.Device.state c.read_volume.new.device in
    let other = g.E.Device.state c.args.second.now in
    let other_read = g.E.Device.state c.read_volume-2.new.device in
    let first = g.F.Format.directory c.args.format.now c.in-Ok.volume in
    let second = g.F.Format.directory c.args.format.now c.in-Ok-read_volume.volume in
    let same = c.in-Ok.ensures.device.kept honest refl in
    let other_same = c.in-Ok-read_volume.ensures.device.kept other_honest refl in
    refused c.args.form files format c.args.most device device_read (g.D.Device.state c.compare_read.new.first) other other_read
    (g.E.Device.state c.compare_read.new.second) same other_same first second (c.in-Ok.ensures.described honest) (c.in-Ok-read_volume.ensures.described other_honest)
    c.compare_read.result (c.compare_read.ensures.over (still honest same) (still other_honest other_same))

pub returns-in-Err-clause-reads : goal.returns-in-Err-clause-reads
returns-in-Err-clause-reads g c = one_reading (g.D.Device.state c.args.first.now) (g.D.Device.state c.read_volume.new.device) _ c.read_volume.ensures.device

pub returns-in-Err-clause-other_reads : goal.returns-in-Err-clause-other_reads
returns-in-Err-clause-other_reads g c = none_read (g.E.Device.state c.args.second.now)

pub returns-in-Err-clause-compared : goal.returns-in-Err-clause-compared
returns-in-Err-clause-compared g c = λ honest other_honest. tt

pub returns-in-Err-read_volume-clause-reads : goal.returns-in-Err-read_volume-clause-reads
returns-in-Err-read_volume-clause-reads g c = one_reading (g.D.Device.state c.args.first.now) (g.D.Device.state c.read_volume.new.device) _ c.read_volume.ensures.device

pub returns-in-Err-read_volume-clause-other_reads : goal.returns-in-Err-read_volume-clause-other_reads
returns-in-Err-read_volume-clause-other_reads g c = one_reading (g.E.Device.state c.args.second.now) (g.E.Device.state c.read_volume-2.new.device) _ c.read_volume-2.ensures.device

pub returns-in-Err-read_volume-clause-compared : goal.returns-in-Err-read_volume-clause-compared
returns-in-Err-read_volume-clause-compared g c = λ honest other_honest. tt

pub returns-in_err-pairs-clause-reads : goal.returns-in_err-pairs-clause-reads
returns-in_err-pairs-clause-reads g c = one_reading (g.D.Device.state c.args.first.now) (g.D.Device.state c.read_volume.new.device) _ c.read_volume.ensures.device

pub returns-in_err-pairs-clause-other_reads : goal.returns-in_err-pairs-clause-other_reads
returns-in_err-pairs-clause-other_reads g c = one_reading (g.E.Device.state c.args.second.now) (g.E.Device.state c.read_volume-2.new.device) _ c.read_volume-2.ensures.device

pub returns-clause-reads : goal.returns-clause-reads
returns-clause-reads g c = read_twice (g.D.Device.state c.args.first.now) (g.D.Device.state c.read_volume.new.device) (g.D.Device.state c.compare_read.new.first) (one_reading (g.D.Device.state c.args.first.now) (g.D.Device.state c.read_volume.new.device) _ c.read_volume.ensures.device) c.compare_read.ensures.reads

pub returns-clause-other_reads : goal.returns-clause-other_reads
returns-clause-other_reads g c = read_twice (g.E.Device.state c.args.second.now) (g.E.Device.state c.read_volume-2.new.device) (g.E.Device.state c.compare_read.new.second) (one_reading (g.E.Device.state c.args.second.now) (g.E.Device.state c.read_volume-2.new.device) _ c.read_volume-2.ensures.device) c.compare_read.ensures.other_reads

pub compare_read-requires-clause-fits : goal.compare_read-requires-clause-fits
compare_read-requires-clause-fits g c = still_fits (g.F.Format.meaning c.args.format.now) (g.D.Device.state c.args.first.now) (g.D.Device.state c.read_volume.new.device) c.requires.fits (one_reading (g.D.Device.state c.args.first.now) (g.D.Device.state c.read_volume.new.device) _ c.read_volume.ensures.device)

pub compare_read-requires-clause-other_fits : goal.compare_read-requires-clause-other_fits
compare_read-requires-clause-other_fits g c = still_fits (g.F.Format.meaning c.args.format.now) (g.E.Device.state c.args.second.now) (g.E.Device.state c.read_volume-2.new.device) c.requires.other_fits (one_reading (g.E.Device.state c.args.second.now) (g.E.Device.state c.read_volume-2.new.device) _ c.read_volume-2.ensures.device)

pub compare_read-requires-clause-pairs : goal.compare_read-requires-clause-pairs
compare_read-requires-clause-pairs g c = c.in_ok-pairs.ensures
