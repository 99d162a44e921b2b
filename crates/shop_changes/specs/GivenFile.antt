-- What is saved of a file as its owner gives it.
use Rattle.std.specs.Prelude.{◌≢◌, ◌<◌, ◌+◌, ◌-◌, ◌*◌, ◌/◌, ◌%◌, ℕ, min, Bool, true, List, [], ◌∷◌, ◌++◌, length, replicate}
use Rattle.pro_dir.specs.declared.date.ProDate.{ProDate}
use Rattle.shop_changes.specs.declared.given_file.GivenFile.{GivenFile}
use Rattle.shop_changes.specs.declared.given_file.Head.{Head}
use Rattle.shop_changes.specs.declared.given_file.Head.TheVariants.{None, Length, AddressAndLength}

-- a new file as contracts see it: its type, its auxiliary type or address, its date, its head and its bytes
pub record GivenView : Type 0 where
  pub kind : ℕ
  pub aux : ℕ
  pub date : ProDate
  pub head : Head
  pub bytes : List ℕ

abbrev pub given_view : GivenFile → GivenView
given_view given = record {
  kind = given.kind;
  aux = given.aux;
  date = given.date;
  head = given.head;
  bytes = given.bytes.now;
}

-- the most bytes of a file that is given
abbrev pub most_input : ℕ
most_input = 16777216

-- a number of two bytes, the low one first
abbrev pub two_bytes : ℕ → List ℕ
two_bytes n = n % 256 ∷ n / 256 % 256 ∷ []

-- the head of a file with this address, and of this length
abbrev pub head_bytes : Head → ℕ → ℕ → List ℕ
head_bytes None address count = []
head_bytes Length address count = two_bytes count
head_bytes AddressAndLength address count = two_bytes address ++ two_bytes count

-- the head of a file and its bytes
abbrev pub content : GivenView → List ℕ
content given = head_bytes given.head given.aux (length given.bytes) ++ given.bytes

-- how many units of a size so many bytes take, the last one in part
abbrev pub unit_count : ℕ → ℕ → ℕ
unit_count size count = count / size + min 1 (count % size)

-- the units of a text, the last one filled with zeros
abbrev pub unit_bytes : ℕ → List ℕ → List ℕ
unit_bytes size text = text ++ replicate (size * unit_count size (length text) - length text) 0

-- all units are stored
abbrev pub stored_units : ℕ → List ℕ → List Bool
stored_units size text = replicate (unit_count size (length text)) true

-- a file with a head is longer than two bytes can say
abbrev pub IsTooLongForHead : GivenView → Type 0
IsTooLongForHead given = (given.head ≢ None) × (65535 < length given.bytes)
