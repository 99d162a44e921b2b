-- What a catalog that was walked over has.
use Rattle.std.specs.Prelude.{ℕ, List, Option}
use Rattle.dos_catalog.specs.declared.entry.Entry.{Entry}
use Rattle.dos_catalog.specs.declared.catalog.Catalog.{Catalog}

abbrev pub sectors_of_catalog : {A : Type 0} → Catalog A → List ℕ
sectors_of_catalog catalog = catalog.sectors.items

abbrev pub entries_of_catalog : {A : Type 0} → Catalog A → List Entry
entries_of_catalog catalog = catalog.entries.items

abbrev pub free_slot_of_catalog : {A : Type 0} → Catalog A → Option (ℕ × ℕ)
free_slot_of_catalog catalog = catalog.free
