-- What a search for a sector answers.
use Rattle.std.specs.Prelude.{ℕ, ◌<◌, List, Option, IfSome, IfNone}
use Rattle.a2_nibble.specs.declared.search.Field.{Field}
use Rattle.a2_nibble.specs.Sector.{IsFieldFrom, IsFieldOf}

-- the sector's field; nothing where it has none, or its track or its number is out of range
pub record FindsSector (nibbles : List ℕ) (track sector : ℕ) (answer : Option Field) : Type 0 where
  pub found : IfSome answer (λ field.
      (track < 35) × (sector < 16) × IsFieldOf nibbles track sector field.volume field.data_at)
  pub none : IfNone answer (track < 35 → sector < 16 →
      (volume data_at : ℕ) → IsFieldOf nibbles track sector volume data_at → ⊥)

-- the same as far as a search has come: nothing where no place below till gives the sector a field
pub record FindsBelow (nibbles : List ℕ) (track sector till : ℕ) (answer : Option Field) : Type 0 where
  pub found : IfSome answer (λ field. IsFieldOf nibbles track sector field.volume field.data_at)
  pub none : IfNone answer ((place : ℕ) → place < till →
      (volume data_at : ℕ) → IsFieldFrom nibbles track sector place volume data_at → ⊥)
