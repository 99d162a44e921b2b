use Rattle.dos_format.proofs.Entered.{entered, number_inside}
use Rattle.dos_format.proofs.SlotWrites.{sector_inside, sector_written}
use Rattle.dos_format.proofs.entering.an_entry_is_entered_into_the_catalog.Goals as goal

pub returns-clause-directory : goal.returns-clause-directory
returns-clause-directory c = λ data_disk reserved store directory sectors place slot new described catalog free whole size named.
    entered data_disk reserved store directory sectors place slot described catalog free new whole size named

pub returns-clause-number : goal.returns-clause-number
returns-clause-number c = number_inside

pub returns-clause-place : goal.returns-clause-place
returns-clause-place c = λ data_disk reserved store directory sectors place described catalog has.
    sector_inside data_disk reserved store directory sectors described catalog place has

pub returns-clause-rest : goal.returns-clause-rest
returns-clause-rest c = λ data_disk reserved store directory sectors place unit described catalog has.
    sector_written data_disk reserved store directory sectors described catalog place has unit
