use Rattle.dos_format.proofs.Places.{entry_inside, slot_inside, rest_kept}
use Rattle.dos_format.proofs.Rewrites.{kind_rewrites, name_rewrites}
use Rattle.dos_format.proofs.rewriting.an_entry_of_the_catalog_is_rewritten.Goals as goal

pub returns-clause-kind : goal.returns-clause-kind
returns-clause-kind c = λ data_disk reserved store directory file kind described within whole.
    kind_rewrites kind data_disk reserved store directory file described within whole

pub returns-clause-name : goal.returns-clause-name
returns-clause-name c = λ data_disk reserved store directory file name described within whole long.
    name_rewrites name long data_disk reserved store directory file described within whole

pub returns-clause-place : goal.returns-clause-place
returns-clause-place c = entry_inside

pub returns-clause-slot : goal.returns-clause-slot
returns-clause-slot c = slot_inside

pub returns-clause-rest : goal.returns-clause-rest
returns-clause-rest c = rest_kept
