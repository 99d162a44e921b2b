-- The disk in an image: its length and its sectors, by its order.
use Rattle.std.specs.Prelude.{◌≡◌, ◌≢◌, ℕ, ◌<◌, List, length, Option, None}
use Rattle.a2_device.specs.declared.order.Order.{Order}
use Rattle.a2_device.specs.declared.order.Order.TheVariants.{Dos, Prodos, Nibble}
use Rattle.a2_image.specs.declared.error.ImageError.{ImageError}
use Rattle.a2_image.specs.declared.error.ImageError.TheVariants as images
use Rattle.a2_image.specs.Image.{HoldsSectors, sector_in}

-- how many bytes an image of a disk has
abbrev pub disk_bytes : Order → ℕ
disk_bytes Dos = 143360
disk_bytes Prodos = 143360
disk_bytes Nibble = 232960

-- the most bytes that an image may have, of a disk or of 65,535 blocks
abbrev pub most_bytes : Order → ℕ
most_bytes Dos = 143360
most_bytes Prodos = 33553920
most_bytes Nibble = 232960

-- these bytes are an image of a disk
abbrev pub IsDiskImage : Order → List ℕ → Type 0
IsDiskImage order image = length image ≡ disk_bytes order

-- each sector of a disk is there, and one is not
abbrev pub HasEvery : List (Option (List ℕ)) → Type 0
HasEvery sectors = (track sector : ℕ) → track < 35 → sector < 16 → sector_in sectors track sector ≢ None

abbrev pub LacksOne : List (Option (List ℕ)) → Type 0
LacksOne sectors =
    (track : ℕ) × (sector : ℕ) × (track < 35) × (sector < 16) × (sector_in sectors track sector ≡ None)

-- these bytes are an image of a disk, and of the sectors that it holds this is said
abbrev pub OfDisk : Order → List ℕ → (List (Option (List ℕ)) → Type 0) → Type 0
OfDisk order image P =
    IsDiskImage order image × (sectors : List (Option (List ℕ))) × HoldsSectors order image sectors × P sectors

-- why these bytes are not taken as an image of a disk
abbrev pub RefusesDisk : Order → List ℕ → ImageError → Type 0
RefusesDisk order image images.Length = ¬ IsDiskImage order image
RefusesDisk order image images.Memory = IsDiskImage order image × (order ≡ Nibble)
RefusesDisk order image images.Number = ⊥
RefusesDisk order image images.NoSector = ⊥
