-- The listing of a volume of any format.
use Rattle.std.specs.Prelude.{◌≡◌, ℕ, Bool, List, map, count_by}
use Rattle.a2_device.specs.declared.fault.Fault.{Fault}
use Rattle.vol_format.specs.Directory.{Directory}
use Rattle.vol_format.specs.Meaning.{Meaning}
use Rattle.file_formats.specs.declared.listing.Listing.{Listing}
use Rattle.file_formats.specs.Files.{FileMeaning}

-- how many places are marked free
abbrev pub free_count : Directory → ℕ
free_count directory = count_by (λ (free : Bool). free) directory.free

-- the volume's name, its entries in order, and how many places are marked free
pub record ShowsDirectory {A : Type 0} (files : FileMeaning) (directory : Directory)
    (listing : Listing A) : Type 0 where
  pub volume : listing.volume ≡ directory.name
  pub entries : listing.entries.items ≡ map files.shown directory.listed
  pub free : listing.free ≡ free_count directory

-- the listing shows what the header, the directory and the map of a store say
pub record IsListingOf {A : Type 0} (format : Meaning) (files : FileMeaning) (store : List (List ℕ))
    (listing : Listing A) : Type 0 where
  pub directory : Directory
  pub described : format.Describes store directory
  pub shows : ShowsDirectory files directory listing

-- The header, the directory or the map's pointer has a fault; then they say nothing (the law `header_fault` of
-- formats).
abbrev pub HasHeaderFault : Meaning → List (List ℕ) → Type 0
HasHeaderFault format store = (fault : Fault) × format.HeaderFaultAt store fault
