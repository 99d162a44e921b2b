use Rattle.std.proofs.Common.{refl}
use Rattle.shop_jobs.specs.Job.{AddTo, AskView, ChangeOf, Convert, Create, ExtractFrom, Identify, LookAt, OfTheVolume, Survey, Unwrap, Wrap, ask_view}
use Rattle.shop_replies.specs.ContainerReply.{IsInShell}
use Rattle.shop_replies.specs.declared.reply.Reply.{Reply}
use Rattle.shop_commands.specs.Answer.{ChangesVolume, IsHandedOut, Parts, parts_of}
use Rattle.shop_commands.proofs.job.reply_to_payload.Goals as goal

-- what is told of a job that is no change is handed out as it is
handed : (ask : AskView) (parts : Parts) (told : Reply) → ¬ ChangesVolume ask → IsHandedOut ask parts told told
handed Identify parts told other = refl
handed (Survey form) parts told other = refl
handed (Convert to volume) parts told other = refl
handed (Wrap words) parts told other = refl
handed Unwrap parts told other = refl
handed (Create words) parts told other = refl
handed (OfTheVolume (LookAt look)) parts told other = refl
handed (OfTheVolume (ExtractFrom options)) parts told other = refl
handed (OfTheVolume (AddTo words)) parts told other = refl
handed (OfTheVolume (ChangeOf change)) parts told other = absurd (other tt)

-- and what a change makes stands in the shell
shelled : (ask : AskView) (parts : Parts) (told reply : Reply) → ChangesVolume ask → IsInShell parts.front parts.back told reply → IsHandedOut ask parts told reply
shelled Identify parts told reply changes is = absurd changes
shelled (Survey form) parts told reply changes is = absurd changes
shelled (Convert to volume) parts told reply changes is = absurd changes
shelled (Wrap words) parts told reply changes is = absurd changes
shelled Unwrap parts told reply changes is = absurd changes
shelled (Create words) parts told reply changes is = absurd changes
shelled (OfTheVolume (LookAt look)) parts told reply changes is = absurd changes
shelled (OfTheVolume (ExtractFrom options)) parts told reply changes is = absurd changes
shelled (OfTheVolume (AddTo words)) parts told reply changes is = absurd changes
shelled (OfTheVolume (ChangeOf change)) parts told reply changes is = is

pub returns-then-changes_volume : goal.returns-then-changes_volume
returns-then-changes_volume c =
    let parts = parts_of c.args.shell.now.front.items c.args.payload.items c.args.shell.now.back.items in (
      c.reply_to-reply.result,
      c.reply_to-reply.ensures,
      shelled (ask_view c.args.job.now.ask) parts c.reply_to-reply.result c.in_shell.result
          (c.changes_volume.ensures.0 c.if-changes_volume.true) c.in_shell.ensures,
    )

pub returns-else-changes_volume : goal.returns-else-changes_volume
returns-else-changes_volume c =
    let parts = parts_of c.args.shell.now.front.items c.args.payload.items c.args.shell.now.back.items in (
      c.reply_to-reply.result,
      c.reply_to-reply.ensures,
      handed (ask_view c.args.job.now.ask) parts c.reply_to-reply.result
          (λ changes. absurd (let never = c.changes_volume.ensures.1 changes in cc)),
    )
