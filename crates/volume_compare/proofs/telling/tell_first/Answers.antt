use Rattle.std.proofs.Common.{◌≡◌, ◌∙◌, ◌<◌, ◌-◌, ◌^◌, ℕ, arith, refl, subst, []}
use Rattle.std.specs.Prelude.{IsTrue}
use Rattle.file_cmds.specs.lemmas.Reading.{read_twice}
use Rattle.vol_format.specs.Directory.{entries}
use Rattle.volume_compare.specs.Findings.{AreToldUpTo, compared_in}
use Rattle.volume_compare.specs.Progress.{IsToldTo}
use Rattle.volume_compare.proofs.NextTold.{few_under, one_more, refused, still_fits}
use Rattle.volume_compare.proofs.telling.tell_first.Goals as goal

pub loop-file-init : goal.loop-file-init
loop-file-init g c = record {
  reads = c.in_ok-readers.ensures.reads;
  other_reads = c.in_ok-readers.ensures.other_reads;
  kept = c.in_ok-readers.ensures.readers;
  all = c.new-progress.ensures.all;
  few = c.new-progress.ensures.few;
  told = record {
    told = [];
    long = refl;
    is_progress = c.new-progress.ensures.progress c.args.volumes.now.form;
    are_told = λ honest. record { long = refl; each = λ file none. absurd (omega arith) };
  };
}

pub loop-file-preserved : goal.loop-file-preserved
loop-file-preserved g c =
    let start = g.D.Device.state c.args.first.now in
    let now = g.D.Device.state c.loop-file.first in
    let after = g.D.Device.state c.tell_next-told.new.first in
    let other = g.E.Device.state c.args.second.now in
    let other_now = g.E.Device.state c.loop-file.second in
    let other_after = g.E.Device.state c.tell_next-told.new.second in
    let before = c.loop-file.invariant in
    let told = c.in_default.ensures in
    record {
      reads = read_twice start now after before.reads told.reads;
      other_reads = read_twice other other_now other_after before.other_reads told.other_reads;
      kept = told.kept;
      all = told.all ∙ before.all;
      few = told.few c.loop-file.file before.few;
      told =
          one_more c.args.volumes.now.form (g.F.FileFormat.files c.args.volumes.now.format.now) (g.F.Format.meaning c.args.volumes.now.format.now)
          (g.F.Format.directory c.args.volumes.now.format.now c.args.volumes.now.first) (g.F.Format.directory c.args.volumes.now.format.now c.args.volumes.now.second)
          start now after other other_now other_after before.reads told.reads before.other_reads told.other_reads c.args.most c.loop-file.file
          c.loop-file.progress c.tell_next-told.new.progress before.told c.in_default.field-0 told.told;
    }

pub returns-in-Err-clause-over : goal.returns-in-Err-clause-over
returns-in-Err-clause-over g c = λ honest other_honest.
    let start = g.D.Device.state c.args.first.now in
    let now = g.D.Device.state c.loop-file.first in
    let after = g.D.Device.state c.tell_next-told.new.first in
    let last = g.D.Device.state c.refusal_of.new.first in
    let other = g.E.Device.state c.args.second.now in
    let other_now = g.E.Device.state c.loop-file.second in
    let other_after = g.E.Device.state c.tell_next-told.new.second in
    let first = g.F.Format.directory c.args.volumes.now.format.now c.args.volumes.now.first in
    let before = c.loop-file.invariant in
    let told = c.in-Err.ensures in
    let low : c.loop-file.file < entries first = omega (arith, c.loop-file-test.true, c.entries-file-end.ensures) in
    let reads = read_twice start now after before.reads told.reads in
    refused c.args.volumes.now.form (g.F.FileFormat.files c.args.volumes.now.format.now) (g.F.Format.meaning c.args.volumes.now.format.now)
    first (g.F.Format.directory c.args.volumes.now.format.now c.args.volumes.now.second)
    start now after other other_now other_after before.reads told.reads before.other_reads told.other_reads c.args.most c.loop-file.file
    c.loop-file.progress c.tell_next-told.new.progress before.told last c.refusal_of.ensures.reads c.in-Err.error c.refusal_of.result told.told low
    (honest, other_honest) c.refusal_of.ensures.other (c.refusal_of.ensures.side start c.args.most honest reads)

pub returns-in_err-readers-clause-reads : goal.returns-in_err-readers-clause-reads
returns-in_err-readers-clause-reads g c = c.open_readers.ensures.reads

pub returns-in_err-readers-clause-other_reads : goal.returns-in_err-readers-clause-other_reads
returns-in_err-readers-clause-other_reads g c = c.open_readers.ensures.other_reads

pub returns-in-Err-clause-reads : goal.returns-in-Err-clause-reads
returns-in-Err-clause-reads g c =
    let start = g.D.Device.state c.args.first.now in
    let now = g.D.Device.state c.loop-file.first in
    let after = g.D.Device.state c.tell_next-told.new.first in
    read_twice start after (g.D.Device.state c.refusal_of.new.first) (read_twice start now after c.loop-file.invariant.reads c.in-Err.ensures.reads) c.refusal_of.ensures.reads

pub returns-in-Err-clause-other_reads : goal.returns-in-Err-clause-other_reads
returns-in-Err-clause-other_reads g c =
    let other = g.E.Device.state c.args.second.now in
    read_twice other (g.E.Device.state c.loop-file.second) (g.E.Device.state c.tell_next-told.new.second) c.loop-file.invariant.other_reads c.in-Err.ensures.other_reads

pub returns-in-Err-clause-kept : goal.returns-in-Err-clause-kept
returns-in-Err-clause-kept g c = tt

pub returns-in-Err-clause-all : goal.returns-in-Err-clause-all
returns-in-Err-clause-all g c = tt

pub returns-in-Err-clause-few : goal.returns-in-Err-clause-few
returns-in-Err-clause-few g c = tt

pub returns-in-Err-clause-told : goal.returns-in-Err-clause-told
returns-in-Err-clause-told g c = tt

pub returns-clause-reads : goal.returns-clause-reads
returns-clause-reads g c = c.loop-file.invariant.reads

pub returns-clause-other_reads : goal.returns-clause-other_reads
returns-clause-other_reads g c = c.loop-file.invariant.other_reads

pub returns-clause-kept : goal.returns-clause-kept
returns-clause-kept g c = c.loop-file.invariant.kept.of_second

pub returns-clause-all : goal.returns-clause-all
returns-clause-all g c = c.loop-file.invariant.all

pub returns-clause-over : goal.returns-clause-over
returns-clause-over g c = λ honest other_honest. tt

pub returns-clause-few : goal.returns-clause-few
returns-clause-few g c = few_under c.loop-file.progress.report.totals c.loop-file.file (2 ^ 32) (omega arith) c.loop-file.invariant.few

pub returns-clause-told : goal.returns-clause-told
returns-clause-told g c =
    let first = g.F.Format.directory c.args.volumes.now.format.now c.args.volumes.now.first in
    let compared = compared_in c.args.volumes.now.form (g.F.FileFormat.files c.args.volumes.now.format.now) (g.F.Format.meaning c.args.volumes.now.format.now)
    first (g.F.Format.directory c.args.volumes.now.format.now c.args.volumes.now.second)
    (g.D.Device.state c.args.first.now) (g.D.Device.state c.loop-file.first) (g.E.Device.state c.args.second.now) (g.E.Device.state c.loop-file.second) in
    let all : c.loop-file.file ≡ entries first = omega (arith, c.loop-file-test.false, c.entries-file-end.ensures, c.loop-file.auto.file-end) in
    subst (λ (many : ℕ). IsToldTo (IsTrue (g.D.Device.state c.args.first.now).honest × IsTrue (g.E.Device.state c.args.second.now).honest)
    (AreToldUpTo compared many) c.args.volumes.now.form c.args.most many c.loop-file.progress) all c.loop-file.invariant.told

pub tell_next-told-requires-clause-fits : goal.tell_next-told-requires-clause-fits
tell_next-told-requires-clause-fits g c = still_fits (g.F.Format.meaning c.args.volumes.now.format.now) (g.D.Device.state c.args.first.now) (g.D.Device.state c.loop-file.first) c.requires.fits c.loop-file.invariant.reads

pub tell_next-told-requires-clause-other_fits : goal.tell_next-told-requires-clause-other_fits
tell_next-told-requires-clause-other_fits g c =
    still_fits (g.F.Format.meaning c.args.volumes.now.format.now) (g.E.Device.state c.args.second.now) (g.E.Device.state c.loop-file.second) c.requires.other_fits c.loop-file.invariant.other_reads

pub tell_next-told-requires-clause-file : goal.tell_next-told-requires-clause-file
tell_next-told-requires-clause-file g c = omega (arith, c.loop-file-test.true, c.entries-file-end.ensures)

pub tell_next-told-requires-clause-readers : goal.tell_next-told-requires-clause-readers
tell_next-told-requires-clause-readers g c = c.loop-file.invariant.kept

pub tell_next-told-requires-clause-pairs : goal.tell_next-told-requires-clause-pairs
tell_next-told-requires-clause-pairs g c = c.requires.pairs

pub tell_next-told-requires-clause-few : goal.tell_next-told-requires-clause-few
tell_next-told-requires-clause-few g c = few_under c.loop-file.progress.report.totals c.loop-file.file (2 ^ 64 - 2) (omega arith) c.loop-file.invariant.few
