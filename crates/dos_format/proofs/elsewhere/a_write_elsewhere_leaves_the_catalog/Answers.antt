use Rattle.dos_format.proofs.SameCatalog.{outside_leaves, marks_leave, both_leave, catalog_stays, free_stays, number_stays}
use Rattle.dos_format.proofs.elsewhere.a_write_elsewhere_leaves_the_catalog.Goals as goal

pub returns-clause-unit : goal.returns-clause-unit
returns-clause-unit c = outside_leaves

pub returns-clause-marks : goal.returns-clause-marks
returns-clause-marks c = marks_leave

pub returns-clause-both : goal.returns-clause-both
returns-clause-both c = both_leave

pub returns-clause-catalog : goal.returns-clause-catalog
returns-clause-catalog c = catalog_stays

pub returns-clause-free : goal.returns-clause-free
returns-clause-free c = λ old new sectors place slot same catalog free.
    free_stays old new sectors same catalog place slot free

pub returns-clause-number : goal.returns-clause-number
returns-clause-number c = λ old new sectors place slot same catalog has.
    number_stays old new sectors same catalog place slot has
