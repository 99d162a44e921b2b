-- The marks of a VTOC put to 0: what the mark of one of these places was makes no difference.
use Rattle.std.specs.Prelude.{◌≡◌, ◌≢◌, ◌<◌, ◌⊎◌, ℕ, ◌%◌, true, false, Bool, List, [], ◌∷◌, length, All, Contains}
use Rattle.std.proofs.Common.{refl, sym, ◌∙◌, ap, arith, subst, inl, inr}
use Rattle.std.proofs.lemmas.Bool.{cases_eq}
use Rattle.std.proofs.lemmas.List.Elements.{All-tail}
use Rattle.vol_layout.proofs.Lists.{Contains-cases}
use Rattle.vol_format.proofs.Bits.{with_byte, length-with_byte, twice, either_first, cleared, put, cleared-put, cleared-either_first}
use Rattle.dos_vtoc.specs.Vtoc.{byte_of_place, marked}
use Rattle.dos_format.specs.Dos.{dos_with_free, marks_cleared}

-- a mark that is put to 0 after it was put
marked-there : (unit : List ℕ) (place : ℕ) (free : Bool) → length unit ≡ 256 → place < 560 → marked (dos_with_free unit place free) place ≡ marked unit place
marked-there unit place true whole within = twice (put true (place % 8)) (cleared (place % 8)) (cleared (place % 8)) (byte_of_place place) unit
    (omega (arith, whole, within)) (λ byte. cleared-put true (place % 8) byte (omega arith))
marked-there unit place false whole within = twice (put false (place % 8)) (cleared (place % 8)) (cleared (place % 8)) (byte_of_place place) unit
    (omega (arith, whole, within)) (λ byte. cleared-put false (place % 8) byte (omega arith))

-- the mark of another place
module _ (unit : List ℕ) (place other : ℕ) (whole : length unit ≡ 256) (within : place < 560) (inside : other < 560) (apart : other ≢ place) where
  one_byte : (free : Bool) → byte_of_place other ≡ byte_of_place place
      → with_byte (cleared (other % 8)) (byte_of_place other) (with_byte (put free (place % 8)) (byte_of_place place) unit)
      ≡ with_byte (put free (place % 8)) (byte_of_place place) (with_byte (cleared (other % 8)) (byte_of_place other) unit)
  one_byte free same = subst
      (λ at. with_byte (cleared (other % 8)) at (with_byte (put free (place % 8)) (byte_of_place place) unit)
      ≡ with_byte (put free (place % 8)) (byte_of_place place) (with_byte (cleared (other % 8)) at unit))
      (sym same)
      (twice (put free (place % 8)) (cleared (other % 8)) (λ byte. cleared (other % 8) (put free (place % 8) byte)) (byte_of_place place) unit there (λ byte. refl)
      ∙ sym (twice (cleared (other % 8)) (put free (place % 8)) (λ byte. cleared (other % 8) (put free (place % 8) byte)) (byte_of_place place) unit there
      (λ byte. sym (cleared-either_first free (other % 8) (place % 8) byte (omega arith) (omega arith) bits))))
    where
      there : byte_of_place place < length unit
      there = omega (arith, whole, within)

      bits : other % 8 ≢ place % 8
      bits e = apart (omega (arith, same, e))

  by_byte : (free : Bool) → (byte_of_place other ≡ byte_of_place place) ⊎ (byte_of_place other ≢ byte_of_place place)
      → with_byte (cleared (other % 8)) (byte_of_place other) (with_byte (put free (place % 8)) (byte_of_place place) unit)
      ≡ with_byte (put free (place % 8)) (byte_of_place place) (with_byte (cleared (other % 8)) (byte_of_place other) unit)
  by_byte free (inl same) = one_byte free same
  by_byte free (inr differ) = either_first (put free (place % 8)) (cleared (other % 8)) (byte_of_place place) (byte_of_place other) unit (λ e. differ (sym e))
      (omega (arith, whole, within)) (omega (arith, whole, inside))

  marked-elsewhere : (free : Bool) → marked (dos_with_free unit place free) other ≡ dos_with_free (marked unit other) place free
  marked-elsewhere true = by_byte true (cases_eq (byte_of_place other) (byte_of_place place))
  marked-elsewhere false = by_byte false (cases_eq (byte_of_place other) (byte_of_place place))

pub marks_cleared-same : (places unit : List ℕ) (place : ℕ) (free : Bool) → length unit ≡ 256 → place < 560 → All (λ other. other < 560) places → Contains places place
    → marks_cleared places (dos_with_free unit place free) ≡ marks_cleared places unit
marks_cleared-same [] unit place free whole within all has = absurd (omega (arith, has.1))
marks_cleared-same (other ∷ places) unit place free whole within all has =
    by_place (λ later. marks_cleared-same places (marked unit other) place free
    (length-with_byte (cleared (other % 8)) (byte_of_place other) unit ∙ whole) within (All-tail (λ p. p < 560) other places all) later)
    (cases_eq other place) (Contains-cases other places place has)
  where
    by_place : (Contains places place → marks_cleared places (dos_with_free (marked unit other) place free) ≡ marks_cleared places (marked unit other))
        → (other ≡ place) ⊎ (other ≢ place) → (other ≡ place) ⊎ Contains places place
        → marks_cleared places (marked (dos_with_free unit place free) other) ≡ marks_cleared places (marked unit other)
    by_place rest (inl same) at = subst (λ p. marks_cleared places (marked (dos_with_free unit place free) p) ≡ marks_cleared places (marked unit p)) (sym same)
        (ap (marks_cleared places) (marked-there unit place free whole within))
    by_place rest (inr differ) (inl same) = absurd (differ same)
    by_place rest (inr differ) (inr later) =
        ap (marks_cleared places) (marked-elsewhere unit place other whole within (all 0 place (omega arith)) differ free) ∙ rest later
