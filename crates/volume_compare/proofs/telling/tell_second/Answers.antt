use Rattle.std.proofs.Common.{◌∙◌, ◌≡◌, ◌<◌, ◌+◌, ◌^◌, ℕ, arith, refl, sym, subst, [], List, Option}
use Rattle.std.proofs.lemmas.List.{append-nil}
use Rattle.file_cmds.specs.lemmas.Reading.{none_read, read_twice}
use Rattle.vol_format.specs.Directory.{entries}
use Rattle.std.specs.Prelude.{IsTrue}
use Rattle.volume_compare.specs.CompareText.{AreAtMost}
use Rattle.volume_compare.specs.Findings.{AreToldAloneUpTo, Told, compared_in}
use Rattle.volume_compare.specs.Progress.{IsProgress, IsToldBehind}
use Rattle.volume_compare.proofs.OtherTold.{one_more, refused}
use Rattle.volume_compare.proofs.telling.tell_second.Goals as goal

pub loop-other-init : goal.loop-other-init
loop-other-init g c = record {
  reads = none_read (g.E.Device.state c.args.second.now);
  kept = c.requires.opened;
  all = refl;
  few = c.requires.few;
  told = λ first first_now start most told reads is. record {
    others = [];
    long = refl;
    is_progress = subst (λ (all : List (Option Told)). IsProgress c.args.volumes.now.form most all c.args.progress.now) (sym (append-nil told)) is;
    are_others = λ honest. record { long = refl; each = λ file none. absurd (omega arith) };
  };
}

pub loop-other-preserved : goal.loop-other-preserved
loop-other-preserved g c =
    let old = g.E.Device.state c.args.second.now in
    let now = g.E.Device.state c.loop-other.second in
    let after = g.E.Device.state c.tell_other-told.new.second in
    let before = c.loop-other.invariant in
    let tells = c.in_default.ensures in
    record {
      reads = read_twice old now after before.reads tells.reads;
      kept = tells.kept;
      all = tells.all ∙ before.all;
      few =
          let same : (2 ^ 32 + c.loop-other.other) + 1 ≡ 2 ^ 32 + (c.loop-other.other + 1) = omega arith in
          subst (AreAtMost c.tell_other-told.new.progress.report.totals) same (tells.few (2 ^ 32 + c.loop-other.other) before.few);
      told = λ first first_now start most told reads is.
          one_more c.args.volumes.now.form (g.F.FileFormat.files c.args.volumes.now.format.now) (g.F.Format.meaning c.args.volumes.now.format.now)
          (g.F.Format.directory c.args.volumes.now.format.now c.args.volumes.now.first) (g.F.Format.directory c.args.volumes.now.format.now c.args.volumes.now.second)
          first first_now start now after (read_twice start old now reads before.reads) tells.reads most c.loop-other.other told
          c.loop-other.progress c.tell_other-told.new.progress (before.told first first_now start most told reads is) c.in_default.field-0 (tells.told first first_now);
    }

pub returns-in-Err-clause-over : goal.returns-in-Err-clause-over
returns-in-Err-clause-over g c = λ first first_now start most told honest reads is.
    let old = g.E.Device.state c.args.second.now in
    let now = g.E.Device.state c.loop-other.second in
    let after = g.E.Device.state c.tell_other-told.new.second in
    let before = c.loop-other.invariant in
    let tells = c.in-Err.ensures in
    let second = g.F.Format.directory c.args.volumes.now.format.now c.args.volumes.now.second in
    let low : c.loop-other.other < entries second = omega (arith, c.loop-other-test.true, c.entries-other-end.ensures) in
    refused c.args.volumes.now.form (g.F.FileFormat.files c.args.volumes.now.format.now) (g.F.Format.meaning c.args.volumes.now.format.now)
    (g.F.Format.directory c.args.volumes.now.format.now c.args.volumes.now.first) second
    first first_now start now after (read_twice start old now reads before.reads) tells.reads most c.loop-other.other told
    c.loop-other.progress c.tell_other-told.new.progress (before.told first first_now start most told reads is) c.in-Err.error (tells.told first first_now) low honest

pub returns-clause-told : goal.returns-clause-told
returns-clause-told g c = λ first first_now start most told reads is.
    let second = g.F.Format.directory c.args.volumes.now.format.now c.args.volumes.now.second in
    let all : c.loop-other.other ≡ entries second =
    omega (arith, c.loop-other-test.false, c.entries-other-end.ensures, c.loop-other.auto.other-end) in
    subst
    (λ (many : ℕ). IsToldBehind (IsTrue start.honest) (AreToldAloneUpTo (compared_in c.args.volumes.now.form (g.F.FileFormat.files c.args.volumes.now.format.now)
    (g.F.Format.meaning c.args.volumes.now.format.now) (g.F.Format.directory c.args.volumes.now.format.now c.args.volumes.now.first) second
    first first_now start (g.E.Device.state c.loop-other.second)) many) c.args.volumes.now.form most told many c.loop-other.progress)
    all (c.loop-other.invariant.told first first_now start most told reads is)
