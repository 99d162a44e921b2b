-- What is left of the catalog by a write elsewhere (Beneath Apple DOS, chapter 4).
use Rattle.std.specs.Prelude.{◌≡◌, ◌<◌, ℕ, List, slice_index}
use Rattle.a2_device.specs.Device.{unit_at}

-- Two stores have the same sectors 1 to 15 of track 17, and the VTOC of each has the same link to the first sector of
-- the catalog.
pub record HasSameCatalog (old new : List (List ℕ)) : Type 0 where
  pub sectors : (place : ℕ) → 272 < place → place < 288 → unit_at new place ≡ unit_at old place
  pub track : slice_index (unit_at new 272) 1 ≡ slice_index (unit_at old 272) 1
  pub sector : slice_index (unit_at new 272) 2 ≡ slice_index (unit_at old 272) 2
