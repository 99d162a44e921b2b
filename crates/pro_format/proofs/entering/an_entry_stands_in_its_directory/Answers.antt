use Rattle.pro_format.specs.Pro.{no_slot}
use Rattle.pro_format.proofs.EntrySlots.{each_slot_of}
use Rattle.pro_format.proofs.entering.an_entry_stands_in_its_directory.Goals as goal

pub returns : goal.returns
returns c = λ store tree number says inside.
    let at = each_slot_of store tree.blocks tree.entries says.tree number no_slot inside in
    (at.key, at.is)
