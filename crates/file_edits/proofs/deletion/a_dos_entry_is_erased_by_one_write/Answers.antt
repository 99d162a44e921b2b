use Rattle.edit_formats.specs.lemmas.DosErasable.{entry_erased}
use Rattle.file_edits.proofs.deletion.a_dos_entry_is_erased_by_one_write.Goals as goal

pub returns : goal.returns
returns c = λ data_disk reserved store directory file described inside whole. entry_erased data_disk reserved store directory file described inside whole
