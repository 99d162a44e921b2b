-- Which faults are known of each place, so that none is told twice.
use Rattle.std.specs.Prelude.{ℕ, Bool, true, false, List, slice_index_or, slice_set}
use Rattle.a2_device.specs.declared.fault.Fault.{Fault}
use Rattle.a2_device.specs.declared.fault.Fault.TheVariants.{Geometry, CatalogLink, DirLink, MapPointer, StorageType, OutOfRange, InSystem, Shared, MarkedFree}
use Rattle.vol_check.specs.declared.known.Known.{Known}

-- the place of a fault
abbrev pub place_of : Fault → ℕ
place_of (Geometry place) = place
place_of (CatalogLink place) = place
place_of (DirLink place) = place
place_of (MapPointer place) = place
place_of (StorageType place) = place
place_of (OutOfRange place) = place
place_of (InSystem place) = place
place_of (Shared place) = place
place_of (MarkedFree place) = place

-- nothing is known of a place
abbrev pub none_known : Known
none_known = record { storage_type = false; out_of_range = false; in_system = false; shared = false }

-- whether a fault of its kind is known of a place; of the kinds that are met once at most it is not noted
abbrev pub has_fault : Known → Fault → Bool
has_fault known (StorageType place) = known.storage_type
has_fault known (OutOfRange place) = known.out_of_range
has_fault known (InSystem place) = known.in_system
has_fault known (Shared place) = known.shared
has_fault known fault = false

-- now it is known
abbrev pub with_fault : Known → Fault → Known
with_fault known (StorageType place) = record known { storage_type = true }
with_fault known (OutOfRange place) = record known { out_of_range = true }
with_fault known (InSystem place) = record known { in_system = true }
with_fault known (Shared place) = record known { shared = true }
with_fault known fault = known

-- the same of a table of all places
abbrev pub is_known : List Known → Fault → Bool
is_known known fault = has_fault (slice_index_or known (place_of fault) none_known) fault

abbrev pub knowing : List Known → Fault → List Known
knowing known fault = slice_set known (place_of fault)
    (with_fault (slice_index_or known (place_of fault) none_known) fault)
