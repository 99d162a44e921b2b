-- What `identify` prints.
use Rattle.std.specs.Prelude.{ℕ, Bool, true, false, ◌∷◌, ◌++◌, List, codes, decimal, flat_map, slice_index_or}
use Rattle.a2_device.specs.declared.order.Order.{Order}
use Rattle.a2_device.specs.declared.order.Order.TheVariants as orders
use Rattle.shop_jobs.specs.declared.input.FileSystem.{FileSystem}
use Rattle.shop_jobs.specs.declared.input.FileSystem.TheVariants as systems
use Rattle.disk_container.specs.declared.container.Container.{Container}
use Rattle.file_listings.specs.DosText.{Text, line}
use Rattle.image_readings.specs.declared.reading.Standing.{Standing}
use Rattle.image_readings.specs.declared.reading.Standing.TheVariants.{Accepted, Refused}
use Rattle.image_readings.specs.declared.reading.Finding.{Finding}
use Rattle.image_readings.specs.declared.reading.Finding.TheVariants.{Unreadable, Broken, Volume}
use Rattle.image_readings.specs.declared.reading.Reading.{Reading}
use Rattle.image_readings.specs.declared.ranking.Verdict.{Verdict}
use Rattle.image_readings.specs.declared.ranking.Verdict.TheVariants.{Best, Ambiguous, NoVolume}
use Rattle.image_readings.specs.Ranking.{no_reading}

-- the words of `--fs` and `--order`
abbrev pub file_system_word : FileSystem → Text
file_system_word systems.Dos = codes "dos"
file_system_word systems.Prodos = codes "prodos"

abbrev pub order_word : Order → Text
order_word orders.Dos = codes "dos"
order_word orders.Prodos = codes "prodos"
order_word orders.Nibble = codes "nibble"

abbrev pub way_text : Reading → Text
way_text reading = file_system_word reading.file_system ++ 32 ∷ order_word reading.order

-- whether a volume is accepted, how many files, entries and directory units it has, and how many places are lost
abbrev pub found_text : Standing → ℕ → ℕ → Text
found_text (Accepted files lost) entries units =
    codes "ACCEPTED files " ++ (decimal files ++ (codes " entries " ++ (decimal entries
    ++ (codes " chain " ++ (decimal units ++ (codes " lost " ++ decimal lost))))))
found_text Refused entries units = codes "REFUSED entries " ++ (decimal entries ++ (codes " chain " ++ decimal units))

abbrev pub finding_text : Finding → Text
finding_text Unreadable = codes "UNREADABLE"
finding_text Broken = codes "BROKEN"
finding_text (Volume found) = found_text found.standing found.entries found.units

abbrev pub reading_text : Reading → Text
reading_text reading = way_text reading ++ 32 ∷ finding_text reading.finding

abbrev pub reading_line : Reading → Text
reading_line reading = line (reading_text reading)

abbrev pub verdict_text : List Reading → Verdict → Text
verdict_text readings (Best number) = codes "BEST " ++ way_text (slice_index_or readings number no_reading)
verdict_text readings Ambiguous = codes "AMBIGUOUS"
verdict_text readings NoVolume = codes "NONE"

-- what a container says of its payload, on a line
abbrev pub yes_or_no : Bool → Text
yes_or_no true = codes "yes"
yes_or_no false = codes "no"

abbrev pub container_text : Container → Text
container_text container = codes "2IMG order "
    ++ (order_word container.order ++ (codes " bytes " ++ (decimal container.size
    ++ (codes " protected " ++ (yes_or_no container.protected ++ codes "\n")))))

-- a line for each reading, then the verdict
abbrev pub identify_text : List Reading → Verdict → Text
identify_text readings verdict = flat_map reading_line readings ++ line (verdict_text readings verdict)
