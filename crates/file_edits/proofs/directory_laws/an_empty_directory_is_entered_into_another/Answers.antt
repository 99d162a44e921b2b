use Rattle.std.specs.Prelude.{slice_set}
use Rattle.std.proofs.Common.{subst}
use Rattle.a2_device.specs.Device.{unit_at}
use Rattle.pro_dir.specs.Volume.{Directory as Tree}
use Rattle.pro_dir.specs.Writes.{slot_offset, with_bytes}
use Rattle.pro_dir.specs.lemmas.VolumeLaws.{one_directory}
use Rattle.pro_format.specs.Slots.{IsPathOfDirectory}
use Rattle.file_edits.specs.Leaf.{HasOneDirectoryMore}
use Rattle.file_edits.proofs.LeafLaws.{directory_enters}
use Rattle.file_edits.proofs.directory_laws.an_empty_directory_is_entered_into_another.Goals as goal

pub returns : goal.returns
returns c = λ reserved store directory tree key place slot leaf above bytes described says path free whole new outside inside empty.
    subst
    (λ (t : Tree). IsPathOfDirectory t.entries key above
    → HasOneDirectoryMore reserved t.entries directory store (slice_set store place (with_bytes (slot_offset slot) bytes (unit_at store place))) above place slot leaf bytes)
    (one_directory store tree described.tree says described.described)
    (λ path. directory_enters reserved store directory described key place slot leaf above path free whole bytes new outside inside empty) path
