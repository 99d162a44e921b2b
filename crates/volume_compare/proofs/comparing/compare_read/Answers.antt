use Rattle.std.proofs.Common.{◌∙◌, sym}
use Rattle.file_cmds.specs.lemmas.Reading.{read_twice}
use Rattle.volume_compare.proofs.Ends.{refused_last, told_last}
use Rattle.volume_compare.proofs.NextTold.{still_fits}
use Rattle.volume_compare.proofs.comparing.compare_read.Goals as goal

pub returns-in-Err-clause-over : goal.returns-in-Err-clause-over
returns-in-Err-clause-over g c = λ honest other_honest.
    let start = g.D.Device.state c.args.first.now in
    let after = g.D.Device.state c.tell_first.new.first in
    let other = g.E.Device.state c.args.second.now in
    let other_now = g.E.Device.state c.tell_first.new.second in
    let other_after = g.E.Device.state c.tell_second-told.new.second in
    let begun = c.in_ok-begun.begun.progress in
    let first_told = c.in_ok-begun.ensures.told in
    let first_reads = c.in_ok-begun.ensures.reads in
    let other_reads = c.in_ok-begun.ensures.other_reads in
    refused_last c.args.volumes.now.form (g.F.FileFormat.files c.args.volumes.now.format.now) (g.F.Format.meaning c.args.volumes.now.format.now)
    (g.F.Format.directory c.args.volumes.now.format.now c.args.volumes.now.first) (g.F.Format.directory c.args.volumes.now.format.now c.args.volumes.now.second)
    start after other other_now other_after other_reads c.in-Err.ensures.reads first_reads (honest, other_honest) c.args.most begun first_told
    c.in-Err.error (c.in-Err.ensures.over start after other c.args.most first_told.told other_honest other_reads first_told.is_progress)

pub returns-clause-told : goal.returns-clause-told
returns-clause-told g c = λ honest other_honest.
    let start = g.D.Device.state c.args.first.now in
    let after = g.D.Device.state c.tell_first.new.first in
    let other = g.E.Device.state c.args.second.now in
    let other_now = g.E.Device.state c.tell_first.new.second in
    let other_after = g.E.Device.state c.tell_second-told.new.second in
    let begun = c.in_ok-begun.begun.progress in
    let first_told = c.in_ok-begun.ensures.told in
    let first_reads = c.in_ok-begun.ensures.reads in
    let other_reads = c.in_ok-begun.ensures.other_reads in
    told_last c.args.volumes.now.form (g.F.FileFormat.files c.args.volumes.now.format.now) (g.F.Format.meaning c.args.volumes.now.format.now)
    (g.F.Format.directory c.args.volumes.now.format.now c.args.volumes.now.first) (g.F.Format.directory c.args.volumes.now.format.now c.args.volumes.now.second)
    start after other other_now other_after other_reads c.in_default.ensures.reads first_reads (honest, other_honest) c.args.most begun first_told
    c.args.all c.tell_second-told.new.progress c.in_ok-finish.field-0 (c.in_default.ensures.all ∙ c.in_ok-begun.ensures.all)
    (c.in_default.ensures.told start after other c.args.most first_told.told other_reads first_told.is_progress)
    c.in_ok-finish.ensures.text c.in_ok-finish.ensures.equal

pub returns-in_err-begun-clause-reads : goal.returns-in_err-begun-clause-reads
returns-in_err-begun-clause-reads g c = c.tell_first.ensures.reads

pub returns-in_err-begun-clause-other_reads : goal.returns-in_err-begun-clause-other_reads
returns-in_err-begun-clause-other_reads g c = c.tell_first.ensures.other_reads

pub returns-in-Err-clause-reads : goal.returns-in-Err-clause-reads
returns-in-Err-clause-reads g c = c.tell_first.ensures.reads

pub returns-in-Err-clause-other_reads : goal.returns-in-Err-clause-other_reads
returns-in-Err-clause-other_reads g c = read_twice (g.E.Device.state c.args.second.now) (g.E.Device.state c.tell_first.new.second) (g.E.Device.state c.tell_second-told.new.second) c.tell_first.ensures.other_reads c.tell_second-told.ensures.reads

pub returns-in-Err-clause-told : goal.returns-in-Err-clause-told
returns-in-Err-clause-told g c = λ honest other_honest. tt

pub returns-clause-reads : goal.returns-clause-reads
returns-clause-reads g c = c.tell_first.ensures.reads

pub returns-clause-other_reads : goal.returns-clause-other_reads
returns-clause-other_reads g c = read_twice (g.E.Device.state c.args.second.now) (g.E.Device.state c.tell_first.new.second) (g.E.Device.state c.tell_second-told.new.second) c.tell_first.ensures.other_reads c.tell_second-told.ensures.reads

pub returns-clause-over : goal.returns-clause-over
returns-clause-over g c = λ honest other_honest. tt

pub tell_second-told-requires-clause-fits : goal.tell_second-told-requires-clause-fits
tell_second-told-requires-clause-fits g c =
    still_fits (g.F.Format.meaning c.args.volumes.now.format.now) (g.E.Device.state c.args.second.now) (g.E.Device.state c.tell_first.new.second) c.requires.other_fits c.tell_first.ensures.other_reads

pub tell_second-told-requires-clause-places : goal.tell_second-told-requires-clause-places
tell_second-told-requires-clause-places g c = c.requires.other_places ∙ sym c.tell_first.ensures.other_reads.same.places

pub tell_second-told-requires-clause-opened : goal.tell_second-told-requires-clause-opened
tell_second-told-requires-clause-opened g c = c.in_ok-begun.ensures.kept

pub tell_second-told-requires-clause-pairs : goal.tell_second-told-requires-clause-pairs
tell_second-told-requires-clause-pairs g c = c.requires.pairs

pub tell_second-told-requires-clause-few : goal.tell_second-told-requires-clause-few
tell_second-told-requires-clause-few g c = c.in_ok-begun.ensures.few
