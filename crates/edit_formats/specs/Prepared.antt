-- A write as it is kept until it is made.
use Rattle.std.specs.Prelude.{◌≡◌, ◌<◌, ℕ, List, All, length}
use Rattle.vol_laws.specs.Writes.{Write}
use Rattle.edit_formats.specs.declared.writes.Prepared.{Prepared}

abbrev pub write_of : {A : Type 0} → Prepared A → Write
write_of write = record { place = write.place; unit = write.unit.items }

-- these writes go to places below a number, and their units have a size
abbrev pub GoBelow : {A : Type 0} → ℕ → List (Prepared A) → Type 0
GoBelow {A} places writes = All (λ (write : Prepared A). write.place < places) writes

abbrev pub AreOfSize : {A : Type 0} → ℕ → List (Prepared A) → Type 0
AreOfSize {A} size writes = All (λ (write : Prepared A). length write.unit.items ≡ size) writes
