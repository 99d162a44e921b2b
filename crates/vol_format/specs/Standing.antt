-- Where the parts of a volume stand among the available places, and which places are lost.
use Rattle.std.specs.Prelude.{◌≡◌, ◌≢◌, ◌<◌, ℕ, ◌+◌, ◌==◌, false, not, ◌&&◌, if◌then◌else◌, List, [], ◌∷◌, length, map, filter, AllPairs, Contains, slice_index, slice_index_or}
use Rattle.std.specs.List.{list_any}
use Rattle.a2_device.specs.declared.part.Part.{Part}
use Rattle.a2_device.specs.declared.part.PartKind.TheVariants.{Body}
use Rattle.vol_layout.specs.Layouts.{IsLayout}
use Rattle.vol_format.specs.Directory.{Directory, is_free}
use Rattle.vol_format.specs.Meaning.{Meaning}
use Rattle.vol_format.specs.Reach.{Reach, Before}

-- a part at another place
abbrev pub at_place : Part → ℕ → Part
at_place part place = record part { place = place }

-- the number of a place in a list of places
abbrev pub index_in : List ℕ → ℕ → ℕ
index_in [] place = 0
index_in (first ∷ rest) place = if first == place then 0 else (index_in rest place + 1)

-- the layout of some parts: for each the number of its place among the available ones
abbrev pub layout_of : Directory → List Part → List ℕ
layout_of directory parts = map (λ (part : Part). index_in directory.available part.place) parts

-- the available places that are marked used and at which none of these parts stands, in their order
abbrev pub lost_places : Directory → List Part → List ℕ
lost_places directory parts =
    filter (λ place. not (is_free directory place) && not (list_any (λ (part : Part). part.place == place) parts))
    directory.available

-- a place that is available, marked used and no part's
pub record IsLost (format : Meaning) (directory : Directory) (store : List (List ℕ)) (place : ℕ) : Type 0 where
  pub available : Contains directory.available place
  pub marked : is_free directory place ≡ false
  pub unreached : (part : Part) → Reach format directory store part → part.place ≢ place

abbrev pub no_part : Part
no_part = record { file = 0; kind = Body; number = 0; place = 0 }

-- part k of these where it stands in a layout over the available places
abbrev pub part_now : List Part → List ℕ → List ℕ → ℕ → Part
part_now parts available layout k =
    at_place (slice_index_or parts k no_part) (slice_index available (slice_index layout k))

-- the volume has these parts, in order, each where the layout says
pub record Stands (format : Meaning) (directory : Directory) (store : List (List ℕ)) (parts : List Part)
    (layout : List ℕ) : Type 0 where
  pub ordered : AllPairs (Before format) parts
  pub size : length layout ≡ length parts
  pub is_layout : IsLayout layout (length directory.available)
  pub reached : (k : ℕ) → k < length parts → Reach format directory store (part_now parts directory.available layout k)
  pub all : (part : Part) → Reach format directory store part
      → (k : ℕ) × (k < length parts) × (part ≡ part_now parts directory.available layout k)
