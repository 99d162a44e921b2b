use Rattle.std.proofs.Common.{ℕ, ap, subst}
use Rattle.std.specs.Prelude.{IsTrue}
use Rattle.std.specs.declared.alloc.Global.{Global}
use Rattle.std.proofs.lemmas.Result.{IfOk-weaker}
use Rattle.file_cmds.specs.ReadingOn.{FailedInFile}
use Rattle.file_formats.specs.declared.listing.ListEntry.{ListEntry}
use Rattle.vol_format.specs.Directory.{entry_of}
use Rattle.volume_compare.specs.Contents.{volume_in}
use Rattle.volume_extract.specs.Looked.{IsSeenBy, view_with}
use Rattle.volume_extract.proofs.Ready.{seen_so}
use Rattle.volume_extract.proofs.seeing.see.Goals as goal

pub returns-clause-seen : goal.returns-clause-seen
returns-clause-seen g c = λ honest.
    let opened = c.args.opened.now in
    let format = opened.format.now in
    let files = g.F.FileFormat.files format in
    let meaning = g.F.Format.meaning format in
    let directory = g.F.Format.directory format opened.volume in
    let old = g.D.Device.state c.args.device.now in
    let volume = volume_in opened.form files meaning directory old.store in
    let failed = FailedInFile meaning directory old (g.D.Device.state c.look.new.device) in
    IfOk-weaker c.seen_of.result _ _
    (λ seen by.
    seen_so (IsTrue old.honest) opened.texts volume failed c.args.entry c.in_ok-looked.looked (c.in_ok-looked.ensures.looked honest) seen
    (subst (λ (kind : ℕ). IsSeenBy opened.texts (view_with opened.form kind files (entry_of directory c.args.entry)) c.in_ok-looked.looked seen)
    (ap (λ (shown : ListEntry Global). shown.kind) c.requires.shown) by))
    c.seen_of.ensures
