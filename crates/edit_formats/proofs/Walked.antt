-- What is told of a walk over the catalog that ended early.
use Rattle.std.specs.Prelude.{◌≡◌, ◌≢◌, ℕ, Bool, List, slice_range}
use Rattle.std.specs.List.{list_any}
use Rattle.std.specs.Str.{bytes_eq}
use Rattle.std.proofs.Common.{refl, ap, ◌∙◌}
use Rattle.a2_device.specs.declared.fault.Fault.{Fault}
use Rattle.a2_device.specs.declared.fault.WalkError.{WalkError}
use Rattle.a2_device.specs.declared.fault.WalkError.TheVariants as walk
use Rattle.dos_catalog.specs.declared.catalog.Catalog.{Catalog}
use Rattle.dos_catalog.specs.declared.entry.Entry.{Entry}
use Rattle.dos_catalog.specs.Listed.{entries_of_catalog, sectors_of_catalog}
use Rattle.dos_catalog.specs.Catalog.{CatalogFaultAt, IsCatalog}
use Rattle.edit_formats.specs.declared.error.EditError.TheVariants.{Check}
use Rattle.edit_formats.specs.Renamed.{refusal_of_walk}
use Rattle.file_formats.specs.DosFiles.{dos_name}
use Rattle.edit_formats.specs.DosSaves.{HasWalked, is_name_used}

-- a catalog that is there has no fault
pub no_fault : (store : List (List ℕ)) (error : WalkError)
    → ((fault : Fault) → error ≡ walk.Fault fault → CatalogFaultAt store fault × ((sectors : List ℕ) → ¬ IsCatalog store sectors))
    → (sectors : List ℕ) → IsCatalog store sectors → refusal_of_walk error ≢ Check
no_fault store (walk.Fault fault) refused sectors catalog same = (refused fault refl).1 sectors catalog
no_fault store walk.Device refused sectors catalog same = absurd (cc)
no_fault store walk.Memory refused sectors catalog same = absurd (cc)

-- whether a name is used, as it is asked of a catalog that was walked over
pub used : {A : Type 0} (store : List (List ℕ)) (catalog : Catalog A) → HasWalked store catalog → (path stored : List ℕ) (shown : List Entry) (answer : Bool)
    → stored ≡ dos_name path → shown ≡ entries_of_catalog catalog
    → answer ≡ list_any (λ (entry : Entry). bytes_eq (slice_range entry.bytes 3 33) stored) shown
    → answer ≡ is_name_used store (sectors_of_catalog catalog) path
used store catalog walked path stored shown answer name entries is =
    is ∙ ap (λ n. list_any (λ (entry : Entry). bytes_eq (slice_range entry.bytes 3 33) n) shown) name
    ∙ ap (λ (all : List Entry). list_any (λ (entry : Entry). bytes_eq (slice_range entry.bytes 3 33) (dos_name path)) all) (entries ∙ walked.entries)
