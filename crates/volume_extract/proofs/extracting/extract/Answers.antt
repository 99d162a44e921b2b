use Rattle.std.proofs.Common.{List, refl, subst}
use Rattle.std.proofs.lemmas.Result.{IfErr-weaker, IfOk-weaker}
use Rattle.a2_device.specs.Device.{DeviceState}
use Rattle.volume_extract.specs.Extraction.{Plan, plan_of, source_with}
use Rattle.volume_extract.specs.Source.{Source, source_of}
use Rattle.volume_extract.specs.declared.texts.Texts.{Texts}
use Rattle.volume_extract.specs.Items.{Item}
use Rattle.volume_extract.specs.Kept.{TellsItems}
use Rattle.volume_extract.specs.Progress.{HasStoppedAt, IsDone}
use Rattle.volume_extract.proofs.Ends.{extraction, refusal}
use Rattle.volume_extract.proofs.extracting.extract.Goals as goal

pub returns-clause-told : goal.returns-clause-told
returns-clause-told g c = IfOk-weaker c.extract_read.result _ _ (λ told done. (done.items, done.tells)) c.extract_read.ensures.done

pub returns-clause-extracted : goal.returns-clause-extracted
returns-clause-extracted g c = λ honest.
    let format = c.args.format.now in
    let directory = g.F.Format.directory format c.in_ok-volume.volume in
    let plan : Plan = plan_of c.args.form c.args.options (g.F.FileFormat.files format) (g.F.Format.meaning format) (g.F.TreeFormat.own format) in
    let source : Texts → Source = λ texts. source_of c.args.form c.args.options.naming texts (g.F.FileFormat.files format) (g.F.Format.meaning format)
    (g.F.TreeFormat.own format) directory in
    let device = g.D.Device.state c.args.device.now in
    let last = g.D.Device.state c.extract_read.new.device in
    let folder = g.O.Folder.state c.args.folder.now in
    let folder_now = g.O.Folder.state c.extract_read.new.folder in
    let same = c.in_ok-volume.ensures.device.kept honest refl in
    IfOk-weaker c.extract_read.result _ _
    (λ told done.
    let Tells : List Item → Type 0 = λ items. TellsItems told.opened.form (g.F.TreeFormat.own told.opened.format.now)
    (g.F.Format.directory told.opened.format.now told.opened.volume) told.opened.naming items told.kept.items told.totals in
    extraction plan directory device last honest (c.in_ok-volume.ensures.described honest) folder folder_now Tells
    (subst (λ (d : DeviceState). IsDone (source_with plan directory) c.args.options.most d last folder folder_now Tells) same
    (subst (λ (texts : Texts). IsDone (source texts) c.args.options.most (g.D.Device.state c.read_volume.new.device) last folder folder_now Tells) c.texts_put.ensures done)))
    c.extract_read.ensures.done

pub returns-clause-refused : goal.returns-clause-refused
returns-clause-refused g c = λ honest.
    let format = c.args.format.now in
    let directory = g.F.Format.directory format c.in_ok-volume.volume in
    let plan : Plan = plan_of c.args.form c.args.options (g.F.FileFormat.files format) (g.F.Format.meaning format) (g.F.TreeFormat.own format) in
    let source : Texts → Source = λ texts. source_of c.args.form c.args.options.naming texts (g.F.FileFormat.files format) (g.F.Format.meaning format)
    (g.F.TreeFormat.own format) directory in
    let device = g.D.Device.state c.args.device.now in
    let last = g.D.Device.state c.extract_read.new.device in
    let folder = g.O.Folder.state c.args.folder.now in
    let folder_now = g.O.Folder.state c.extract_read.new.folder in
    let same = c.in_ok-volume.ensures.device.kept honest refl in
    IfErr-weaker c.extract_read.result _ _
    (λ error stopped.
    refusal plan directory device last honest (c.in_ok-volume.ensures.described honest) folder folder_now g.O.Folder.state g.O.Folder.may_fail error
    (subst (λ (d : DeviceState). HasStoppedAt g.O.Folder.state g.O.Folder.may_fail (source_with plan directory) c.args.options.most d last folder folder_now error) same
    (subst (λ (texts : Texts). HasStoppedAt g.O.Folder.state g.O.Folder.may_fail (source texts) c.args.options.most (g.D.Device.state c.read_volume.new.device) last folder folder_now error)
    c.texts_put.ensures stopped)))
    c.extract_read.ensures.stopped
