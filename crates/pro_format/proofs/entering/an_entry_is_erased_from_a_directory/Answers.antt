use Rattle.std.specs.Prelude.{slice_set}
use Rattle.std.proofs.Common.{subst}
use Rattle.a2_device.specs.Device.{unit_at}
use Rattle.pro_dir.specs.Volume.{Directory as Tree}
use Rattle.pro_dir.specs.Writes.{slot_offset}
use Rattle.pro_dir.specs.lemmas.VolumeLaws.{one_directory}
use Rattle.vol_format.specs.Directory.{entry_of}
use Rattle.pro_format.specs.Slots.{HasOneEntryLess}
use Rattle.pro_format.proofs.ErasedEntries.{pro_leaves}
use Rattle.pro_format.proofs.entering.an_entry_is_erased_from_a_directory.Goals as goal

pub returns : goal.returns
returns c = λ reserved store directory tree file described says inside is_file whole.
    subst
    (λ (t : Tree). HasOneEntryLess reserved t.entries directory store
    (slice_set store (entry_of directory file).place (slice_set (unit_at store (entry_of directory file).place) (slot_offset (entry_of directory file).slot) 0)) file)
    (one_directory store tree described.tree says described.described)
    (pro_leaves reserved store directory described file inside is_file whole)
