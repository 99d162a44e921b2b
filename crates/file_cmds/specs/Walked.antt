-- The text that the parts of a file give, one after the other.
use Rattle.std.specs.Prelude.{ℕ, ◌+◌, ◌-◌, ◌*◌, Bool, true, false, if◌then◌else◌, List, [], ◌∷◌, ◌++◌, replicate, map, filter}
use Rattle.a2_device.specs.Device.{unit_at}
use Rattle.a2_device.specs.declared.part.Part.{Part}
use Rattle.a2_device.specs.declared.part.PartKind.{PartKind}
use Rattle.a2_device.specs.declared.part.PartKind.TheVariants.{Body}
use Rattle.vol_format.specs.Files.{Stored}

abbrev pub is_body : PartKind → Bool
is_body Body = true
is_body kind = false

abbrev pub stored_at : List (List ℕ) → Part → Stored
stored_at store part = record { number = part.number; unit = unit_at store part.place }

-- the units at which parts of a body stand
abbrev pub stored_of : List (List ℕ) → List Part → List Stored
stored_of store parts = map (stored_at store) (filter (λ (part : Part). is_body part.kind) parts)

-- the number behind the last of some units
abbrev pub number_behind : ℕ → List Stored → ℕ
number_behind number [] = number
number_behind number (stored ∷ later) = number_behind (stored.number + 1) later

-- a text with one part more, if that is one of the body, and the number that comes next then
abbrev pub text_with : ℕ → List (List ℕ) → Part → ℕ → List ℕ → List ℕ
text_with size store part next text =
    if is_body part.kind then text ++ (replicate ((part.number - next) * size) 0 ++ unit_at store part.place) else text

abbrev pub number_after : Part → ℕ → ℕ
number_after part next = if is_body part.kind then part.number + 1 else next
