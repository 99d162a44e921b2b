use Rattle.shop_changes.specs.SaidFile.{said_view}
use Rattle.shop_volumes.proofs.Fresh.{image_fresh}
use Rattle.shop_changes.proofs.ReplacedImage.{no_way, saved_over}
use Rattle.shop_changes.proofs.replacing_in_image.replace_plain.Goals as goal

pub returns-in-Ok : goal.returns-in-Ok
returns-in-Ok g c =
    let opened = c.requires.opened in
    let again = c.reopened-device.ensures.opened in
    let fresh = image_fresh _ c.args.file_system opened.0 opened.1 in
    saved_over _ fresh c.args.path.now (said_view c.args.said) c.args.unsaid _ _ _ _ _ (c.in-Ok.ensures.made fresh.honest) _ _ c.reopened-device.ensures.same
    (image_fresh _ c.args.file_system again.0 again.1) _ _ c.save_in_place-outcome.ensures c.outcome_reply.ensures

pub returns-in-Err : goal.returns-in-Err
returns-in-Err g c =
    let opened = c.requires.opened in
    let fresh = image_fresh _ c.args.file_system opened.0 opened.1 in
    no_way _ fresh c.args.path.now (said_view c.args.said) c.args.unsaid _ _ _ _ _ (c.in-Err.ensures.refused fresh.honest)
