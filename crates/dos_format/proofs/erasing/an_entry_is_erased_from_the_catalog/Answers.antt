use Rattle.dos_format.proofs.Erased.{file_erased}
use Rattle.dos_format.proofs.UsedSlots.{entry_of_slot}
use Rattle.dos_format.proofs.erasing.an_entry_is_erased_from_the_catalog.Goals as goal

pub returns-clause-file : goal.returns-clause-file
returns-clause-file c = λ data_disk reserved store directory file described within whole.
    file_erased data_disk reserved store directory described.sectors described described.catalog file within whole

pub returns-clause-slot : goal.returns-clause-slot
returns-clause-slot c = entry_of_slot
