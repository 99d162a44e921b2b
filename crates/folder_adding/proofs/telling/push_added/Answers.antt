use Rattle.std.proofs.Common.{arith, string_bytes}
use Rattle.folder_adding.proofs.Told.{told}
use Rattle.folder_adding.proofs.telling.push_added.Goals as goal

pub returns : goal.returns
returns c =
    told c.args.batch.now (string_bytes c.args.text.now) (string_bytes c.loop-item.text) c.loop-item.item-index c.loop-item.invariant (omega arith)
