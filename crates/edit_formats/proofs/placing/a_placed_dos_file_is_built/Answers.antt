use Rattle.std.proofs.Common.{refl}
use Rattle.vol_format.specs.declared.link.Link.TheVariants.{To}
use Rattle.vol_laws.specs.Built.{part_of}
use Rattle.dos_format.specs.Slots.{new_listed}
use Rattle.edit_formats.specs.Order.{IsOfList}
use Rattle.edit_formats.specs.lemmas.DosBuilt.{dos_file_built, entry_first}
use Rattle.edit_formats.specs.lemmas.Parts.{plan_rising}
use Rattle.edit_formats.proofs.placing.a_placed_dos_file_is_built.Goals as goal

pub returns-clause-built : goal.returns-clause-built
returns-clause-built c = λ data_disk reserved count file parts places planned are have has units.
    dos_file_built data_disk reserved count file parts places planned are have has units (To (part_of planned 0)) refl

pub returns-clause-entry : goal.returns-clause-entry
returns-clause-entry c = λ data_disk reserved count file parts places planned place slot new are have has units pointer.
    dos_file_built data_disk reserved count file parts places planned are have has units (new_listed file place slot new).root
    (entry_first data_disk reserved count file parts places planned are have has units place slot new pointer)

pub returns-clause-rising : goal.returns-clause-rising
returns-clause-rising c = λ file parts places planned are has. plan_rising file parts places planned has IsOfList are.ordered
