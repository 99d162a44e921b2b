-- The replies to what the commands that change a file refuse.
use Rattle.std.specs.Prelude.{Option, Some, None}
use Rattle.edit_formats.specs.declared.error.EditError.{EditError}
use Rattle.edit_formats.specs.declared.error.EditError.TheVariants as edits
use Rattle.shop_replies.specs.declared.refusal.Refusal.{Refusal}
use Rattle.shop_replies.specs.declared.refusal.Refusal.TheVariants as refusals
use Rattle.shop_replies.specs.declared.refusal.Failure.TheVariants as failures
use Rattle.shop_replies.specs.declared.reply.Reply.{Reply}
use Rattle.shop_replies.specs.Reply.{failed, refused}

-- the refusal that is told of an edit; none where the device or memory failed
abbrev pub refusal_of_edit : EditError → Option Refusal
refusal_of_edit edits.Check = Some refusals.Check
refusal_of_edit edits.NotFound = Some refusals.NotFound
refusal_of_edit edits.Name = Some refusals.Name
refusal_of_edit edits.Exists = Some refusals.Exists
refusal_of_edit edits.Locked = Some refusals.Locked
refusal_of_edit edits.TooLong = Some refusals.TooLong
refusal_of_edit edits.DirFull = Some refusals.DirFull
refusal_of_edit edits.VolumeFull = Some refusals.VolumeFull
refusal_of_edit error = None

-- the reply to the refusal of an edit
abbrev pub reply_to_edit_refusal : EditError → Reply
reply_to_edit_refusal edits.Check = refused refusals.Check
reply_to_edit_refusal edits.NotFound = refused refusals.NotFound
reply_to_edit_refusal edits.Name = refused refusals.Name
reply_to_edit_refusal edits.Exists = refused refusals.Exists
reply_to_edit_refusal edits.Locked = refused refusals.Locked
reply_to_edit_refusal edits.TooLong = refused refusals.TooLong
reply_to_edit_refusal edits.DirFull = refused refusals.DirFull
reply_to_edit_refusal edits.VolumeFull = refused refusals.VolumeFull
reply_to_edit_refusal edits.Device = failed failures.Device
reply_to_edit_refusal edits.Memory = failed failures.Memory
