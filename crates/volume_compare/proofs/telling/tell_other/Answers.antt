use Rattle.std.proofs.Common.{◌≡◌, ℕ, Some, None, ap, refl, sym, ◌∙◌, List, true, false, length, arith, ◌<◌, inr}
use Rattle.std.proofs.lemmas.List.{get_or_read, length-map}
use Rattle.file_cmds.specs.lemmas.Reading.{none_read}
use Rattle.volume_compare.specs.Findings.{Told}
use Rattle.volume_compare.specs.Pairs.{file_path, path_at, paths_of, taken_at}
use Rattle.volume_compare.proofs.Free.{path_of_entry}
use Rattle.volume_compare.proofs.Looks.{free_alone, taken_partner}
use Rattle.volume_compare.proofs.NextTold.{few_yet, tells}
use Rattle.volume_compare.proofs.OtherTold.{none_told}
use Rattle.volume_compare.proofs.telling.tell_other.Goals as goal

pub returns-then-index-clause-told : goal.returns-then-index-clause-told
returns-then-index-clause-told g c = λ first first_now.
    let files = g.F.FileFormat.files c.args.volumes.now.format.now in
    let one = g.F.Format.directory c.args.volumes.now.format.now c.args.volumes.now.first in
    let two = g.F.Format.directory c.args.volumes.now.format.now c.args.volumes.now.second in
    let pairs = c.args.volumes.now.pairs in
    let inside : c.args.other < length pairs.taken.items = omega (arith, c.requires.pairs.long, length-map two.listed (file_path files), c.requires.file) in
    let at = get_or_read pairs.taken.items c.args.other c.index.result.now inside c.index.ensures false in
    let taken : taken_at pairs.taken.items c.args.other ≡ true = sym at ∙ c.if-index.true in (
      None,
      λ most told is. none_told c.args.volumes.now.form most told c.args.progress.now is,
      λ honest. inr (taken_partner (paths_of files one) (paths_of files two) pairs.partners.items pairs.taken.items c.requires.pairs c.args.other taken),
    )

pub returns-clause-told : goal.returns-clause-told
returns-clause-told g c = λ first first_now.
    let files = g.F.FileFormat.files c.args.volumes.now.format.now in
    let one = g.F.Format.directory c.args.volumes.now.format.now c.args.volumes.now.first in
    let two = g.F.Format.directory c.args.volumes.now.format.now c.args.volumes.now.second in
    let pairs = c.args.volumes.now.pairs in
    let inside : c.args.other < length pairs.taken.items = omega (arith, c.requires.pairs.long, length-map two.listed (file_path files), c.requires.file) in
    let at = get_or_read pairs.taken.items c.args.other c.index.result.now inside c.index.ensures false in
    let free : taken_at pairs.taken.items c.args.other ≡ false = sym at ∙ c.if-index.false in
    let path : List ℕ = c.as_bytes.result.now in
    let is : path_at (paths_of files two) c.args.other ≡ Some path =
    path_of_entry files two c.args.other c.requires.file ∙ sym c.in_ok-path.ensures ∙ c.in-Some.is ∙ ap Some (sym c.as_bytes.ensures) in
    let next : Told = record { path = path; found = c.in_ok-found.found } in
    tells _ _ c.args.volumes.now.form c.args.progress.now c.tell.new.self (Some next) c.tell.result c.tell.ensures.told
    (λ honest. (
      is,
      free_alone (paths_of files one) (paths_of files two) pairs.partners.items pairs.taken.items c.requires.pairs c.args.other free,
      c.in_ok-found.ensures.found first first_now honest,
    ))

pub returns-then-index-clause-reads : goal.returns-then-index-clause-reads
returns-then-index-clause-reads g c = none_read (g.E.Device.state c.args.second.now)

pub returns-then-index-clause-kept : goal.returns-then-index-clause-kept
returns-then-index-clause-kept g c = c.requires.opened

pub returns-then-index-clause-all : goal.returns-then-index-clause-all
returns-then-index-clause-all g c = refl

pub returns-then-index-clause-few : goal.returns-then-index-clause-few
returns-then-index-clause-few g c = λ most few. few_yet c.args.progress.now.report.totals most few

pub returns-in_err-path-clause-reads : goal.returns-in_err-path-clause-reads
returns-in_err-path-clause-reads g c = none_read (g.E.Device.state c.args.second.now)

pub returns-in_err-path-clause-kept : goal.returns-in_err-path-clause-kept
returns-in_err-path-clause-kept g c = c.requires.opened

pub returns-in_err-path-clause-all : goal.returns-in_err-path-clause-all
returns-in_err-path-clause-all g c = refl

pub returns-in_default-clause-reads : goal.returns-in_default-clause-reads
returns-in_default-clause-reads g c = none_read (g.E.Device.state c.args.second.now)

pub returns-in_default-clause-kept : goal.returns-in_default-clause-kept
returns-in_default-clause-kept g c = c.requires.opened

pub returns-in_default-clause-all : goal.returns-in_default-clause-all
returns-in_default-clause-all g c = refl

pub returns-in_default-clause-few : goal.returns-in_default-clause-few
returns-in_default-clause-few g c = λ most few. few_yet c.args.progress.now.report.totals most few

pub returns-in_err-found-clause-reads : goal.returns-in_err-found-clause-reads
returns-in_err-found-clause-reads g c = c.look_at_other.ensures.reads

pub returns-in_err-found-clause-kept : goal.returns-in_err-found-clause-kept
returns-in_err-found-clause-kept g c = c.look_at_other.ensures.kept

pub returns-in_err-found-clause-all : goal.returns-in_err-found-clause-all
returns-in_err-found-clause-all g c = refl

pub returns-clause-reads : goal.returns-clause-reads
returns-clause-reads g c = c.look_at_other.ensures.reads

pub returns-clause-kept : goal.returns-clause-kept
returns-clause-kept g c = c.look_at_other.ensures.kept

pub returns-clause-all : goal.returns-clause-all
returns-clause-all g c = c.tell.ensures.all

pub returns-clause-few : goal.returns-clause-few
returns-clause-few g c = c.tell.ensures.few
