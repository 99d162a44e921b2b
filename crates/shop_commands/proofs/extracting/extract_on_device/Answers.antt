use Rattle.std.proofs.Common.{IfErr, subst}
use Rattle.volume_extract.specs.Extraction.{Plan, plan_of}
use Rattle.shop_replies.specs.Volume.{meaning_of}
use Rattle.shop_volumes.specs.VolumeFiles.{files_of}
use Rattle.shop_volumes.proofs.OfFormat.{of_dos, of_prodos}
use Rattle.shop_commands.specs.Extracting.{IsNotExtractedBy, options_of, own_of}
use Rattle.shop_commands.proofs.Plans.{said_plan}
use Rattle.shop_commands.proofs.extracting.extract_on_device.Goals as goal

pub returns-in-Dos-clause-refused : goal.returns-in-Dos-clause-refused
returns-in-Dos-clause-refused g c = λ honest.
    subst (λ (plan : Plan). IfErr c.extract_by.result (IsNotExtractedBy g.O.Folder.state g.O.Folder.may_fail plan (g.D.Device.state c.args.device.now) (g.D.Device.state c.extract_by.new.device)
    (g.O.Folder.state c.args.folder.now) (g.O.Folder.state c.extract_by.new.folder) (g.T.Write.contents c.args.text.now) (g.T.Write.contents c.extract_by.new.text)))
    (said_plan c.args.volume c.args.options c.form_of-form.result c.none.result c.form_of-form.ensures c.none.ensures)
    (of_dos c.args.volume c.none.result c.in-Ok.format c.in-Ok.ensures c.in-Dos.dos c.in-Dos.is
    (λ system data_disk reserved. IfErr c.extract_by.result (IsNotExtractedBy g.O.Folder.state g.O.Folder.may_fail
    (plan_of c.form_of-form.result (options_of c.args.options) (files_of system) (meaning_of system data_disk reserved) (own_of system))
    (g.D.Device.state c.args.device.now) (g.D.Device.state c.extract_by.new.device) (g.O.Folder.state c.args.folder.now) (g.O.Folder.state c.extract_by.new.folder)
    (g.T.Write.contents c.args.text.now) (g.T.Write.contents c.extract_by.new.text)))
    (c.extract_by.ensures.refused honest))

pub returns-clause-refused : goal.returns-clause-refused
returns-clause-refused g c = λ honest.
    subst (λ (plan : Plan). IfErr c.extract_by-in-Prodos.result (IsNotExtractedBy g.O.Folder.state g.O.Folder.may_fail plan (g.D.Device.state c.args.device.now) (g.D.Device.state c.extract_by-in-Prodos.new.device)
    (g.O.Folder.state c.args.folder.now) (g.O.Folder.state c.extract_by-in-Prodos.new.folder) (g.T.Write.contents c.args.text.now) (g.T.Write.contents c.extract_by-in-Prodos.new.text)))
    (said_plan c.args.volume c.args.options c.form_of-form.result c.none.result c.form_of-form.ensures c.none.ensures)
    (of_prodos c.args.volume c.none.result c.in-Ok.format c.in-Ok.ensures c.in-Prodos.prodos c.in-Prodos.is
    (λ system data_disk reserved. IfErr c.extract_by-in-Prodos.result (IsNotExtractedBy g.O.Folder.state g.O.Folder.may_fail
    (plan_of c.form_of-form.result (options_of c.args.options) (files_of system) (meaning_of system data_disk reserved) (own_of system))
    (g.D.Device.state c.args.device.now) (g.D.Device.state c.extract_by-in-Prodos.new.device) (g.O.Folder.state c.args.folder.now) (g.O.Folder.state c.extract_by-in-Prodos.new.folder)
    (g.T.Write.contents c.args.text.now) (g.T.Write.contents c.extract_by-in-Prodos.new.text)))
    (c.extract_by-in-Prodos.ensures.refused honest))
