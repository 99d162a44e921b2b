-- What a DOS 3.3 volume that was read has.
use Rattle.std.specs.Prelude.{ℕ, List}
use Rattle.dos_catalog.specs.declared.catalog.Catalog.{Catalog}
use Rattle.dos_format.specs.declared.dos.DosVolume.{DosVolume}

-- the bytes of its VTOC
abbrev pub vtoc_of : {A : Type 0} → DosVolume A → List ℕ
vtoc_of volume = volume.vtoc

abbrev pub catalog_of : {A : Type 0} → DosVolume A → Catalog A
catalog_of volume = volume.catalog
