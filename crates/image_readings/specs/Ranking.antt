-- Which reading of an image is best.
use Rattle.std.specs.Prelude.{◌≡◌, ◌≢◌, ◌<◌, ℕ, ◌==◌, nat_lt, not, ◌&&◌, Bool, true, false, if◌then◌else◌, List, length, slice_index_or}
use Rattle.a2_device.specs.declared.order.Order.TheVariants as orders
use Rattle.shop_jobs.specs.declared.input.FileSystem.TheVariants as systems
use Rattle.image_readings.specs.declared.reading.Standing.{Standing}
use Rattle.image_readings.specs.declared.reading.Standing.TheVariants.{Accepted, Refused}
use Rattle.image_readings.specs.declared.reading.Found.{Found}
use Rattle.image_readings.specs.declared.reading.Finding.{Finding}
use Rattle.image_readings.specs.declared.reading.Finding.TheVariants.{Unreadable, Broken, Volume}
use Rattle.image_readings.specs.declared.reading.Reading.{Reading}
use Rattle.image_readings.specs.declared.ranking.Verdict.{Verdict}
use Rattle.image_readings.specs.declared.ranking.Verdict.TheVariants.{Best, Ambiguous, NoVolume}

-- accepted with fewer lost places, or with none where the other is refused
abbrev pub is_sounder : Standing → Standing → Bool
is_sounder (Accepted files lost) (Accepted files' lost') = nat_lt lost lost'
is_sounder (Accepted files lost) Refused = lost == 0
is_sounder Refused other = false

-- more entries; of as many, more directory units; of as many of both, sounder
abbrev pub outranks : Found → Found → Bool
outranks one other =
    if one.entries == other.entries
    then (if one.units == other.units then is_sounder one.standing other.standing else nat_lt other.units one.units)
    else nat_lt other.entries one.entries

-- accepted with files, where the other is refused or has more lost places
abbrev pub contests : Standing → Standing → Bool
contests (Accepted files lost) Refused = nat_lt 0 files
contests (Accepted files lost) (Accepted files' lost') = nat_lt 0 files && nat_lt lost lost'
contests Refused other = false

-- a volume beats another that it outranks and by which it is not contested
abbrev pub beats : Found → Found → Bool
beats one other = outranks one other && not (contests other.standing one.standing)

-- Where there is no volume the best one is not in question; a volume whose directory is broken may be the right one.
abbrev pub yields : Finding → Found → Bool
yields Unreadable best = true
yields Broken best = false
yields (Volume other) best = beats best other

abbrev pub no_reading : Reading
no_reading = record { file_system = systems.Dos; order = orders.Dos; finding = Unreadable }

-- what is found in the reading of a number
abbrev pub finding_at : List Reading → ℕ → Finding
finding_at readings number = (slice_index_or readings number no_reading).finding

-- some volume can be read
abbrev pub HasVolume : List Reading → Type 0
HasVolume readings = (number : ℕ) × (found : Found) × (number < length readings)
    × (finding_at readings number ≡ Volume found)

-- what is found in every other reading yields to a volume
abbrev pub BeatsOthers : List Reading → ℕ → Found → Type 0
BeatsOthers readings best found =
    (other : ℕ) → other < length readings → other ≢ best → yields (finding_at readings other) found ≡ true

-- the volume of this reading can be read, and every other yields to it
pub record IsBest (readings : List Reading) (number : ℕ) : Type 0 where
  pub found : Found
  pub is : finding_at readings number ≡ Volume found
  pub beats_others : BeatsOthers readings number found

-- The best reading; or there is none and some volume can be read; or none can.
abbrev pub IsVerdict : List Reading → Verdict → Type 0
IsVerdict readings (Best number) = (number < length readings) × IsBest readings number
IsVerdict readings Ambiguous = HasVolume readings × ((number : ℕ) → number < length readings → ¬ IsBest readings number)
IsVerdict readings NoVolume = ¬ HasVolume readings
