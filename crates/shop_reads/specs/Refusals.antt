-- The replies to what the commands that read refuse.
use Rattle.file_cmds.specs.declared.error.CmdError.{CmdError}
use Rattle.file_cmds.specs.declared.error.CmdError.TheVariants as commands
use Rattle.shop_replies.specs.declared.refusal.Refusal.TheVariants as refusals
use Rattle.shop_replies.specs.declared.refusal.Failure.TheVariants as failures
use Rattle.shop_replies.specs.declared.reply.Reply.{Reply}
use Rattle.shop_replies.specs.Reply.{failed, refused}

-- the reply to a command's refusal
abbrev pub reply_to_refusal : CmdError → Reply
reply_to_refusal commands.Check = refused refusals.Check
reply_to_refusal commands.NotFound = refused refusals.NotFound
reply_to_refusal commands.Device = failed failures.Device
reply_to_refusal commands.Memory = failed failures.Memory
