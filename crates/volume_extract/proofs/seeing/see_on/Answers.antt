use Rattle.std.proofs.lemmas.Result.{IfOk-weaker}
use Rattle.file_cmds.specs.lemmas.Reading.{still_honest}
use Rattle.volume_extract.specs.Source.{source_of}
use Rattle.volume_extract.proofs.Wider.{seen_since}
use Rattle.volume_extract.proofs.seeing.see_on.Goals as goal

pub returns-in-None-clause-seen : goal.returns-in-None-clause-seen
returns-in-None-clause-seen g c = λ start reads early honest.
    let opened = c.args.opened.now in
    let format = opened.format.now in
    let now = g.D.Device.state c.args.device.now in
    let last = g.D.Device.state c.see.new.device in
    let source = source_of opened.form opened.naming opened.texts (g.F.FileFormat.files format) (g.F.Format.meaning format) (g.F.TreeFormat.own format)
    (g.F.Format.directory format opened.volume) in
    IfOk-weaker c.see.result _ _ (λ one is. seen_since source start now last honest reads c.args.entry one is)
    (c.see.ensures.seen (still_honest start now reads honest))
