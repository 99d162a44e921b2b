use Rattle.std.proofs.Common.{◌≡◌, ◌<◌, arith}
use Rattle.file_cmds.specs.ReadingOn.{FailedInFile}
use Rattle.file_cmds.specs.lemmas.Reading.{read_twice, still_honest}
use Rattle.vol_format.specs.Directory.{entries}
use Rattle.volume_compare.specs.Contents.{volume_in}
use Rattle.volume_compare.proofs.Counts.{counted_all, counted_more, counted_over}
use Rattle.volume_compare.proofs.counting.too_large.Goals as goal

pub returns-in_default-clause-side : goal.returns-in_default-clause-side
returns-in_default-clause-side g c = λ start most honest reads counted.
    let old = g.D.Device.state c.args.first.now in
    let now = g.D.Device.state c.loop-file.first in
    let after = g.D.Device.state c.bytes_of.new.first in
    let directory = g.F.Format.directory c.args.volumes.now.format.now c.args.volumes.now.first in
    let before = c.loop-file.invariant in
    let now_read = read_twice start old now reads before.reads in
    counted_over c.args.volumes.now.form (g.F.FileFormat.files c.args.volumes.now.format.now) (g.F.Format.meaning c.args.volumes.now.format.now) directory
    start now after honest now_read c.in_ok-bytes.ensures.reads most c.loop-file.file c.loop-file.rest (before.counted start most honest reads counted)
    (omega (arith, c.loop-file-test.true, c.entries-file-end.ensures)) c.in_ok-bytes.bytes
    (c.in_ok-bytes.ensures.count (still_honest start now now_read honest)) (omega (arith, c.in_default.ensures))

pub loop-file-preserved : goal.loop-file-preserved
loop-file-preserved g c =
    let old = g.D.Device.state c.args.first.now in
    let now = g.D.Device.state c.loop-file.first in
    let after = g.D.Device.state c.bytes_of.new.first in
    let directory = g.F.Format.directory c.args.volumes.now.format.now c.args.volumes.now.first in
    let before = c.loop-file.invariant in
    let low : c.loop-file.file < entries directory = omega (arith, c.loop-file-test.true, c.entries-file-end.ensures) in
    record {
      reads = read_twice old now after before.reads c.in_ok-bytes.ensures.reads;
      kept = c.in_ok-bytes.ensures.kept;
      within = omega (arith, low);
      counted = λ start most honest reads counted.
          let now_read = read_twice start old now reads before.reads in
          counted_more c.args.volumes.now.form (g.F.FileFormat.files c.args.volumes.now.format.now) (g.F.Format.meaning c.args.volumes.now.format.now) directory
          start now after honest now_read c.in_ok-bytes.ensures.reads most c.loop-file.file c.loop-file.rest (before.counted start most honest reads counted)
          low c.in_ok-bytes.bytes (c.in_ok-bytes.ensures.count (still_honest start now now_read honest)) c.in-Some.less
          (omega (arith, c.in-Some.ensures.0, c.in-Some.ensures.1));
    }

pub returns-clause-side : goal.returns-clause-side
returns-clause-side g c = λ start most honest reads counted.
    let directory = g.F.Format.directory c.args.volumes.now.format.now c.args.volumes.now.first in
    let all : c.loop-file.file ≡ entries directory =
    omega (arith, c.loop-file-test.false, c.entries-file-end.ensures, c.loop-file.invariant.within) in
    counted_all
    (volume_in c.args.volumes.now.form (g.F.FileFormat.files c.args.volumes.now.format.now) (g.F.Format.meaning c.args.volumes.now.format.now) directory start.store)
    (FailedInFile (g.F.Format.meaning c.args.volumes.now.format.now) directory start (g.D.Device.state c.loop-file.first)) most c.loop-file.file c.loop-file.rest all
    (c.loop-file.invariant.counted start most honest reads counted)
