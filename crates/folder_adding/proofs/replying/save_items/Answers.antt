use Rattle.std.proofs.Common.{inl, inr}
use Rattle.folder_adding.specs.Items.{batch_view}
use Rattle.folder_adding.specs.Plan.{plan_view}
use Rattle.folder_adding.specs.Replying.{adding_view}
use Rattle.folder_adding.proofs.Replies.{told_all, told_refused}
use Rattle.folder_adding.proofs.replying.save_items.Goals as goal

pub returns-in-Err : goal.returns-in-Err
returns-in-Err g c =
    let adding = adding_view c.args.folder.now (plan_view c.args.plan.now) in
    record {
      told = inr (told_refused adding g.H.HostFiles.may_fail (g.H.HostFiles.holds c.args.files.now) (batch_view c.batch_of-batch.result)
          (g.F.SavableFormat.saves c.args.format.now) (g.F.Format.meaning c.args.format.now) _ _ c.in-Err.refused c.refused_reply.result c.batch_of-batch.ensures
          c.in-Err.ensures.refused c.refused_reply.ensures);
    }

pub returns-in-Ok : goal.returns-in-Ok
returns-in-Ok g c =
    let adding = adding_view c.args.folder.now (plan_view c.args.plan.now) in
    record {
      told = elim c.added_reply.ensures [
        | inl memory ↦ inl memory
        | inr tells ↦
            inr (told_all adding g.H.HostFiles.may_fail (g.H.HostFiles.holds c.args.files.now) (batch_view c.batch_of-batch.result) (g.F.SavableFormat.saves c.args.format.now)
            (g.F.Format.meaning c.args.format.now) _ _ c.added_reply.result c.batch_of-batch.ensures c.in-Ok.ensures.same.image c.in-Ok.ensures.saved
            (c.in-Ok.ensures.added c.requires.honest) c.in-Ok.ensures.alike tells)
      ];
    }
