use Rattle.std.proofs.Common.{List, ℕ, option_map}
use Rattle.std.specs.Prelude.{Bool, Option}
use Rattle.shop_jobs.specs.Job.{look_view}
use Rattle.shop_reads.specs.Extra.{extra_view}
use Rattle.shop_reads.specs.Look.{IsLookReply, shown_by}
use Rattle.shop_reads.proofs.ImageLooks.{looked}
use Rattle.shop_reads.proofs.looking_at_image.volume_look.Goals as goal

pub returns-in-Ok : goal.returns-in-Ok
returns-in-Ok c =
    let reserve : Option (List ℕ) = option_map (λ s. s.now) c.args.reserve in
    looked c.args.options reserve c.args.image.items _ c.in-Ok.reserved c.in-Ok.ensures.volume c.look_at_volume.result
    (look_view c.args.look.now) (λ (reserved : List Bool). IsLookReply (look_view c.args.look.now) (extra_view c.args.extra) (shown_by c.args.options reserved)) _
    c.look_at_volume.ensures.reads c.look_at_volume.ensures.told
