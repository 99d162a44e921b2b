use Rattle.std.specs.Prelude.{slice_set}
use Rattle.std.proofs.Common.{subst}
use Rattle.a2_device.specs.Device.{unit_at}
use Rattle.pro_dir.specs.Volume.{Directory as Tree}
use Rattle.pro_dir.specs.Writes.{slot_offset, with_bytes}
use Rattle.pro_dir.specs.lemmas.VolumeLaws.{one_directory}
use Rattle.pro_format.specs.Slots.{IsPathOfDirectory, HasOneEntryMore}
use Rattle.pro_format.proofs.SlotLaws.{pro_enters}
use Rattle.pro_format.proofs.entering.an_entry_is_entered_into_a_directory.Goals as goal

pub returns : goal.returns
returns c = λ reserved store directory tree key place slot above bytes described says path free whole new.
    subst
    (λ (t : Tree). IsPathOfDirectory t.entries key above
    → HasOneEntryMore reserved t.entries directory store (slice_set store place (with_bytes (slot_offset slot) bytes (unit_at store place))) above place slot bytes)
    (one_directory store tree described.tree says described.described)
    (λ path. pro_enters reserved store directory described key place slot above path free whole bytes new) path
