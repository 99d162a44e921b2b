-- Which way to read an image is chosen, of those that have what is given.
use Rattle.std.specs.Prelude.{◌≡◌, ℕ, ◌&&◌, Bool, true, false, List, Option, Some, None, filter, slice_index_or}
use Rattle.a2_device.specs.declared.order.Order.{Order}
use Rattle.a2_device.specs.declared.order.Order.TheVariants as orders
use Rattle.shop_jobs.specs.declared.input.FileSystem.{FileSystem}
use Rattle.shop_jobs.specs.declared.input.FileSystem.TheVariants as systems
use Rattle.image_readings.specs.declared.reading.Reading.{Reading}
use Rattle.image_readings.specs.declared.ranking.Verdict.{Verdict}
use Rattle.image_readings.specs.declared.ranking.Verdict.TheVariants.{Best, Ambiguous, NoVolume}
use Rattle.image_readings.specs.declared.best.Choice.{Choice}
use Rattle.image_readings.specs.declared.best.Choice.TheVariants as choices
use Rattle.image_readings.specs.IdentifyReply.{AreReadingsIn, ways}
use Rattle.image_readings.specs.Ranking.{IsVerdict, no_reading}

-- it is the given one, where one is given
abbrev pub has_file_system : Option FileSystem → FileSystem → Bool
has_file_system None file_system = true
has_file_system (Some systems.Dos) systems.Dos = true
has_file_system (Some systems.Dos) systems.Prodos = false
has_file_system (Some systems.Prodos) systems.Dos = false
has_file_system (Some systems.Prodos) systems.Prodos = true

abbrev pub has_order : Option Order → Order → Bool
has_order None order = true
has_order (Some orders.Dos) orders.Dos = true
has_order (Some orders.Dos) orders.Prodos = false
has_order (Some orders.Dos) orders.Nibble = false
has_order (Some orders.Prodos) orders.Dos = false
has_order (Some orders.Prodos) orders.Prodos = true
has_order (Some orders.Prodos) orders.Nibble = false
has_order (Some orders.Nibble) orders.Dos = false
has_order (Some orders.Nibble) orders.Prodos = false
has_order (Some orders.Nibble) orders.Nibble = true

abbrev pub has_given : Option FileSystem → Option Order → FileSystem × Order → Bool
has_given file_system order way = has_file_system file_system way.0 && has_order order way.1

-- the ways to read an image that have the file system and the order that are given
abbrev pub ways_given : Option FileSystem → Option Order → List (FileSystem × Order)
ways_given file_system order = filter (has_given file_system order) ways

-- what the verdict on readings chooses: the way of the best one
abbrev pub choice_of : List Reading → Verdict → Choice
choice_of readings (Best number) =
    let best = slice_index_or readings number no_reading in choices.Way best.file_system best.order
choice_of readings Ambiguous = choices.Ambiguous
choice_of readings NoVolume = choices.Unknown

-- The image was read in each way that has what is given and that its length allows, and this is chosen by the verdict
-- on those readings alone.
pub record IsChoice (file_system : Option FileSystem) (order : Option Order) (image : List ℕ)
    (choice : Choice) : Type 0 where
  pub readings : List Reading
  pub are : AreReadingsIn (ways_given file_system order) image readings
  pub verdict : Verdict
  pub is : IsVerdict readings verdict
  pub chosen : choice ≡ choice_of readings verdict
