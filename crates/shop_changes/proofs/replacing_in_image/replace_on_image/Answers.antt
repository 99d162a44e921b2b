use Rattle.std.proofs.Common.{inr}
use Rattle.a2_media.specs.ImageDevice.{image_state}
use Rattle.shop_changes.specs.EditRules.{changed_in}
use Rattle.shop_changes.specs.SaidFile.{said_view}
use Rattle.shop_changes.specs.ReplaceReply.{IsReplaced}
use Rattle.shop_volumes.proofs.OfFormat.{of_dos, of_prodos}
use Rattle.shop_changes.proofs.replacing_in_image.replace_on_image.Goals as goal

pub returns-in-Dos : goal.returns-in-Dos
returns-in-Dos c =
    let device = c.args.device in
    inr (of_dos c.args.options c.args.reserved c.in-Ok.format c.in-Ok.ensures c.in-Dos.dos c.in-Dos.is
    (λ system data_disk reserved. IsReplaced c.args.path.now (said_view c.args.said) (changed_in system data_disk reserved)
    (image_state device.kind device.image device.writes device.standing device.faults) c.replace_said.result)
    c.replace_said.ensures)

pub returns : goal.returns
returns c =
    let device = c.args.device in
    inr (of_prodos c.args.options c.args.reserved c.in-Ok.format c.in-Ok.ensures c.in-Prodos.prodos c.in-Prodos.is
    (λ system data_disk reserved. IsReplaced c.args.path.now (said_view c.args.said) (changed_in system data_disk reserved)
    (image_state device.kind device.image device.writes device.standing device.faults) c.replace_said-in-Prodos.result)
    c.replace_said-in-Prodos.ensures)
