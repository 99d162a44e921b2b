-- What the code of the reply speaks of.
use Rattle.std.specs.Prelude.{Bool, false, Result, Ok, Err, map}
use Rattle.std.specs.Option.{option_copied}
use Rattle.folder_adding.specs.AddReply.{AdditionTo}
use Rattle.folder_adding.specs.HostEntries.{entry_view}
use Rattle.folder_adding.specs.Plan.{PlanView}
use Rattle.folder_adding.specs.Verdicts.{AddedFolder}
use Rattle.folder_adding.specs.declared.replying.Folder.{Folder}
use Rattle.shop_volumes.specs.TellingFailures.{tells_device as reply_tells_device}
use Rattle.shop_replies.specs.declared.reply.Reply.{Reply}

-- a folder as contracts see it
abbrev pub folder_view : Folder → AddedFolder
folder_view folder = record {
  file_system = folder.file_system;
  into = option_copied folder.into;
  entries = map entry_view folder.entries.now;
}

-- and with its plan
abbrev pub adding_view : Folder → PlanView → AdditionTo
adding_view folder plan = record { folder = folder_view folder; plan = plan; date = folder.date }

-- a failure of the device is told
abbrev pub tells_device : {T : Type 0} → Result T Reply → Bool
tells_device (Ok done) = false
tells_device (Err reply) = reply_tells_device reply
