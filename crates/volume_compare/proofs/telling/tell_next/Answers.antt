use Rattle.std.proofs.Common.{◌≡◌, ℕ, Some, ap, refl, sym, ◌∙◌, List}
use Rattle.file_cmds.specs.lemmas.Reading.{none_read}
use Rattle.volume_compare.specs.Findings.{Told}
use Rattle.volume_compare.specs.Pairs.{path_at, paths_of}
use Rattle.volume_compare.proofs.Free.{path_of_entry}
use Rattle.volume_compare.proofs.NextTold.{few_yet, tells}
use Rattle.volume_compare.proofs.telling.tell_next.Goals as goal

pub returns-clause-told : goal.returns-clause-told
returns-clause-told g c =
    let files = g.F.FileFormat.files c.args.volumes.now.format.now in
    let directory = g.F.Format.directory c.args.volumes.now.format.now c.args.volumes.now.first in
    let path : List ℕ = c.as_bytes.result.now in
    let is : path_at (paths_of files directory) c.args.file ≡ Some path =
    path_of_entry files directory c.args.file c.requires.file ∙ sym c.in_ok-path.ensures ∙ c.in-Some.is ∙ ap Some (sym c.as_bytes.ensures) in
    let next : Told = record { path = path; found = c.in_ok-found.found } in
    tells _ _ c.args.volumes.now.form c.args.progress.now c.tell.new.self (Some next) c.tell.result c.tell.ensures.told
    (λ honest. (is, c.in_ok-found.ensures.found honest.0 honest.1))

pub returns-in_err-path-clause-reads : goal.returns-in_err-path-clause-reads
returns-in_err-path-clause-reads g c = none_read (g.D.Device.state c.args.first.now)

pub returns-in_err-path-clause-other_reads : goal.returns-in_err-path-clause-other_reads
returns-in_err-path-clause-other_reads g c = none_read (g.E.Device.state c.args.second.now)

pub returns-in_err-path-clause-kept : goal.returns-in_err-path-clause-kept
returns-in_err-path-clause-kept g c = c.requires.readers

pub returns-in_err-path-clause-all : goal.returns-in_err-path-clause-all
returns-in_err-path-clause-all g c = refl

pub returns-in_default-clause-reads : goal.returns-in_default-clause-reads
returns-in_default-clause-reads g c = none_read (g.D.Device.state c.args.first.now)

pub returns-in_default-clause-other_reads : goal.returns-in_default-clause-other_reads
returns-in_default-clause-other_reads g c = none_read (g.E.Device.state c.args.second.now)

pub returns-in_default-clause-kept : goal.returns-in_default-clause-kept
returns-in_default-clause-kept g c = c.requires.readers

pub returns-in_default-clause-all : goal.returns-in_default-clause-all
returns-in_default-clause-all g c = refl

pub returns-in_default-clause-few : goal.returns-in_default-clause-few
returns-in_default-clause-few g c = λ most few. few_yet c.args.progress.now.report.totals most few

pub returns-in_err-found-clause-reads : goal.returns-in_err-found-clause-reads
returns-in_err-found-clause-reads g c = c.look_at.ensures.reads

pub returns-in_err-found-clause-other_reads : goal.returns-in_err-found-clause-other_reads
returns-in_err-found-clause-other_reads g c = c.look_at.ensures.other_reads

pub returns-in_err-found-clause-kept : goal.returns-in_err-found-clause-kept
returns-in_err-found-clause-kept g c = c.look_at.ensures.kept

pub returns-in_err-found-clause-all : goal.returns-in_err-found-clause-all
returns-in_err-found-clause-all g c = refl

pub returns-clause-reads : goal.returns-clause-reads
returns-clause-reads g c = c.look_at.ensures.reads

pub returns-clause-other_reads : goal.returns-clause-other_reads
returns-clause-other_reads g c = c.look_at.ensures.other_reads

pub returns-clause-kept : goal.returns-clause-kept
returns-clause-kept g c = c.look_at.ensures.kept

pub returns-clause-all : goal.returns-clause-all
returns-clause-all g c = c.tell.ensures.all

pub returns-clause-few : goal.returns-clause-few
returns-clause-few g c = c.tell.ensures.few
