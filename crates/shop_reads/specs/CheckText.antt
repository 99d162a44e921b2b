-- What `check` prints of a volume.
use Rattle.std.specs.Prelude.{ℕ, ◌∷◌, ◌++◌, length, codes, decimal}
use Rattle.a2_device.specs.declared.fault.Fault.{Fault}
use Rattle.a2_device.specs.declared.fault.Fault.TheVariants.{Geometry, CatalogLink, DirLink, MapPointer, StorageType, OutOfRange, InSystem, Shared, MarkedFree}
use Rattle.vol_layout.specs.Reserved.{told_place}
use Rattle.vol_layout.specs.declared.form.PlaceForm.{PlaceForm}
use Rattle.vol_check.specs.Told.{Told}
use Rattle.file_listings.specs.DosText.{Text, line}

abbrev pub fault_name : Fault → Text
fault_name (Geometry place) = codes "Geometry"
fault_name (CatalogLink place) = codes "CatalogLink"
fault_name (DirLink place) = codes "DirLink"
fault_name (MapPointer place) = codes "MapPointer"
fault_name (StorageType place) = codes "StorageType"
fault_name (OutOfRange place) = codes "OutOfRange"
fault_name (InSystem place) = codes "InSystem"
fault_name (Shared place) = codes "Shared"
fault_name (MarkedFree place) = codes "MarkedFree"

abbrev pub fault_place : Fault → ℕ
fault_place (Geometry place) = place
fault_place (CatalogLink place) = place
fault_place (DirLink place) = place
fault_place (MapPointer place) = place
fault_place (StorageType place) = place
fault_place (OutOfRange place) = place
fault_place (InSystem place) = place
fault_place (Shared place) = place
fault_place (MarkedFree place) = place

-- a fault by its name and its place
abbrev pub fault_text : PlaceForm → Fault → Text
fault_text form fault = codes "FAULT " ++ fault_name fault ++ 32 ∷ told_place form (fault_place fault)

abbrev pub fault_line : PlaceForm → Fault → Text
fault_line form fault = line (fault_text form fault)

-- how many files and parts an accepted volume has, and how many of its places are available and how many lost
abbrev pub accepted_text : ℕ → ℕ → ℕ → ℕ → Text
accepted_text files parts available lost =
    codes "ACCEPTED files " ++ (decimal files ++ (codes " parts " ++ (decimal parts
    ++ (codes " available " ++ (decimal available ++ (codes " lost " ++ decimal lost))))))

abbrev pub told_line : Told → Text
told_line told = line (accepted_text told.files (length told.parts) told.layout.places (length told.lost))
