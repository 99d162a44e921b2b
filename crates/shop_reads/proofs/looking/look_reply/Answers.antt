use Rattle.std.proofs.Common.{subst, sym}
use Rattle.shop_jobs.specs.Job.{look_view}
use Rattle.shop_jobs.specs.declared.looks.Look.{Look}
use Rattle.shop_reads.specs.GoingOn.{FailsForLackIn}
use Rattle.shop_reads.specs.Extra.{extra_view}
use Rattle.shop_reads.specs.Look.{IsLookReply, ShownMeaning}
use Rattle.shop_reads.proofs.looking.look_reply.Goals as goal

pub returns-in-Compare-clause-told : goal.returns-in-Compare-clause-told
returns-in-Compare-clause-told g c = λ honest lack.
    let old = g.D.Device.state c.args.device.now in
    let new = g.D.Device.state c.compare_beside.new.device in
    let reply = c.compare_beside.result in
    let format : ShownMeaning = record {
      form = g.F.ShownFormat.form c.args.format.now;
      files = g.F.FileFormat.files c.args.format.now;
      units = g.F.Format.meaning c.args.format.now;
      unreserved = g.F.Format.meaning (g.F.ShownFormat.unreserved c.args.format.now);
    } in
    subst (λ (look : Look). IsLookReply (look_view look) (extra_view c.args.extra) format old reply) (sym c.in-Compare.is)
    (c.compare_beside.ensures.told honest (subst (λ (look : Look). FailsForLackIn (look_view look) reply old new) c.in-Compare.is lack))
