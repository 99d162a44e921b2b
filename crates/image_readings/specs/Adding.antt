-- One more way to read an image.
use Rattle.std.specs.Prelude.{◌≡◌, ℕ, List, [], ◌∷◌, ◌++◌, map, All}
use Rattle.a2_device.specs.declared.order.Order.{Order}
use Rattle.shop_jobs.specs.declared.input.FileSystem.{FileSystem}
use Rattle.image_readings.specs.declared.reading.Reading.{Reading}
use Rattle.image_readings.specs.IdentifyReply.{way_of}
use Rattle.image_readings.specs.Readings.{IsReadingOf}

-- the reading in this way was added
pub record Adds (image : List ℕ) (way : FileSystem × Order) (old new : List Reading) : Type 0 where
  pub in_order : map way_of new ≡ map way_of old ++ way ∷ []
  pub each : All (IsReadingOf image) old → All (IsReadingOf image) new
