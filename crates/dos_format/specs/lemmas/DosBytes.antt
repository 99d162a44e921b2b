-- What is read where a pointer was written.
use Rattle.std.specs.Prelude.{◌≡◌, ◌≢◌, ◌<◌, ◌≤◌, ℕ, ◌+◌, ◌*◌, ◌/◌, ◌%◌, ◌==◌, nat_lt, ◌||◌, if◌then◌else◌, Bool, true, false, List, Option, Some, None, length, slice_index, slice_set}
use Rattle.std.proofs.Common.{refl, ◌∙◌, ap, arith}
use Rattle.std.proofs.lemmas.Bool.Decides.{nat_tests}
use Rattle.std.proofs.lemmas.List.{get_or-set_same, get_or-set_other, length-set}
use Rattle.a2_device.specs.declared.part.PartKind.{PartKind}
use Rattle.dos_catalog.specs.Writes.{with_place}
use Rattle.dos_tslist.specs.Pointers.{pointer_of}
use Rattle.vol_format.specs.declared.link.Link.TheVariants.{Wild, To}
use Rattle.dos_format.specs.Dos.{link_to}

pub length-with_place : (at place : ℕ) (unit : List ℕ) → length (with_place at place unit) ≡ length unit
length-with_place at place unit = length-set (slice_set unit at (place / 16)) (at + 1) (place % 16) ∙ length-set unit at (place / 16)

module _ (at place : ℕ) (unit : List ℕ) where
  pub byte-with_place_other : (byte : ℕ) → byte ≢ at → byte ≢ at + 1 → slice_index (with_place at place unit) byte ≡ slice_index unit byte
  byte-with_place_other byte first second =
      get_or-set_other (slice_set unit at (place / 16)) (at + 1) byte (place % 16) 0 second ∙ get_or-set_other unit at byte (place / 16) 0 first

  pub track-with_place : at < length unit → slice_index (with_place at place unit) at ≡ place / 16
  track-with_place within =
      let apart : at ≢ at + 1 = omega arith in
      get_or-set_other (slice_set unit at (place / 16)) (at + 1) at (place % 16) 0 apart ∙ get_or-set_same unit at (place / 16) 0 within

  pub sector-with_place : at + 1 < length unit → slice_index (with_place at place unit) (at + 1) ≡ place % 16
  sector-with_place within =
      get_or-set_same (slice_set unit at (place / 16)) (at + 1) (place % 16) 0 (omega (arith, length-set unit at (place / 16), within))

-- a track and a sector that are stored
abbrev pub stored : ℕ → ℕ → Option (ℕ × ℕ)
stored track sector = if track == 0 then None else Some (track, sector)

pub pointer_of-same : (unit new : List ℕ) (at : ℕ) → slice_index new at ≡ slice_index unit at → slice_index new (at + 1) ≡ slice_index unit (at + 1)
    → pointer_of new at ≡ pointer_of unit at
pointer_of-same unit new at track sector = ap (λ t. stored t (slice_index new (at + 1))) track ∙ ap (stored (slice_index unit at)) sector

-- what names a place is that place
pub link_to-place : (file : ℕ) (kind : PartKind) (number place : ℕ) → (16 ≤ place) × (place < 560)
    → link_to file kind number (stored (place / 16) (place % 16)) ≡ To (record { file = file; kind = kind; number = number; place = place })
link_to-place file kind number place named = by_test (place / 16 == 0) refl
  where
    by_track : (wild : Bool) → (nat_lt 34 (place / 16) || nat_lt 15 (place % 16)) ≡ wild
        → (if wild then Wild else To (record { file = file; kind = kind; number = number; place = 16 * (place / 16) + place % 16 }))
        ≡ To (record { file = file; kind = kind; number = number; place = place })
    by_track true is = absurd (grind (arith, nat_tests, named.0, named.1))
    by_track false is = let same : 16 * (place / 16) + place % 16 ≡ place = omega arith in ap (λ p. To (record { file = file; kind = kind; number = number; place = p })) same

    by_test : (none : Bool) → (place / 16 == 0) ≡ none
        → link_to file kind number (if none then None else Some (place / 16, place % 16)) ≡ To (record { file = file; kind = kind; number = number; place = place })
    by_test true is = absurd (grind (arith, nat_tests, named.0))
    by_test false is = by_track (nat_lt 34 (place / 16) || nat_lt 15 (place % 16)) refl

pub link_to-written : (file : ℕ) (kind : PartKind) (number at place : ℕ) (unit : List ℕ) → (16 ≤ place) × (place < 560) → at + 1 < length unit
    → link_to file kind number (pointer_of (with_place at place unit) at) ≡ To (record { file = file; kind = kind; number = number; place = place })
link_to-written file kind number at place unit named within =
    ap (λ t. link_to file kind number (stored t (slice_index (with_place at place unit) (at + 1)))) (track-with_place at place unit (omega (arith, within)))
    ∙ ap (λ s. link_to file kind number (stored (place / 16) s)) (sector-with_place at place unit within)
    ∙ link_to-place file kind number place named
