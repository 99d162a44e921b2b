-- The units of an empty volume, from the steps in which they are written.
use Rattle.std.proofs.Common.{◌≡◌, ◌≢◌, ◌∙◌, ◌⊎◌, ℕ, ◌+◌, ◌*◌, ◌/◌, ◌%◌, ◌<◌, ◌≤◌, Bool, true, false, List, length, sym, ap, subst, refl, arith, inl, inr}
use Rattle.std.specs.Prelude.{◌==◌, Option, if◌then◌else◌}
use Rattle.std.proofs.lemmas.Bool.{cases_lt, eqb-true}
use Rattle.a2_device.specs.declared.order.Order.{Order}
use Rattle.a2_media.specs.FileDevice.{file_unit}
use Rattle.a2_media.specs.declared.units.UnitKind.TheVariants.{Sector, Block}
use Rattle.new_volumes.specs.DosUnits.{empty_sector, track_17}
use Rattle.new_volumes.specs.Fields.{zeros}
use Rattle.new_volumes.specs.Filling.{Filled}
use Rattle.new_volumes.specs.NewImage.{IsBootUnit}
use Rattle.new_volumes.specs.Plain.{IsPlain}
use Rattle.new_volumes.specs.ProUnits.{IsEmptyBlock, first_free}
use Rattle.new_volumes.specs.Wanted.{NewDos, NewPro}
use Rattle.new_volumes.proofs.Units.{unit_at-file_units, length-file_units, file_unit-zeros, length-zeros}

elsewhere : (number : ℕ) (data_disk : Bool) (place : ℕ) → place / 16 ≢ 17 → empty_sector number data_disk place ≡ zeros 256
elsewhere number data_disk place differ = by_test (place / 16 == 17) refl
  where
    by_test : (test : Bool) → (place / 16 == 17) ≡ test → empty_sector number data_disk place ≡ zeros 256
    by_test true is = absurd (differ (eqb-true _ _ is))
    by_test false is = ap (λ (b : Bool). if b then track_17 number data_disk (place % 16) else zeros 256) is

-- a sector of track 17
pub on_track : (number : ℕ) (data_disk : Bool) (sector : ℕ) → sector < 16 → empty_sector number data_disk (272 + sector) ≡ track_17 number data_disk sector
on_track number data_disk sector low =
    let is : (272 + sector) / 16 ≡ 17 = omega (arith, low) in
    let rest : (272 + sector) % 16 ≡ sector = omega (arith, low) in
    ap (λ n. if n == 17 then track_17 number data_disk ((272 + sector) % 16) else zeros 256) is ∙ ap (track_17 number data_disk) rest

-- nothing is copied into units of 00s
pub Filled-zeros : (size count total : ℕ) (bytes : List ℕ) → ((place : ℕ) → place < count → size * place + size ≤ total) → bytes ≡ zeros total
    → Filled size (λ place unit. unit ≡ zeros size) 0 count bytes bytes
Filled-zeros size count total bytes room zeroed = record {
  long = refl;
  here = λ place _ within. ap (λ (b : List ℕ). file_unit size b place) zeroed ∙ file_unit-zeros size total place (room place within);
  others = λ place _. refl;
}

-- a disk of 00s, into which tracks 0 to 2 are copied, and then track 17 is written
pub disk_plain : (number : ℕ) (data_disk : Bool) (order : Order) (boot : Option (List ℕ)) (blank copied full : List ℕ) → blank ≡ zeros 143360
    → Filled 256 (IsBootUnit Sector order boot) 0 48 blank copied
    → Filled 256 (λ place unit. unit ≡ empty_sector number data_disk place) 272 288 copied full
    → IsPlain (NewDos number data_disk) order boot full
disk_plain number data_disk order boot blank copied full zeroed front track = record {
  long = track.long ∙ front.long ∙ ap length zeroed ∙ length-zeros 143360;
  are = record {
    count = length-file_units 256 560 full;
    copied = λ place early.
        subst (IsBootUnit Sector order boot place) (sym (unit_at-file_units 256 560 full place (omega (arith, early)) ∙ track.others place (inl (omega (arith, early)))))
        (front.here place (omega arith) early);
    empty = λ place late within. unit_at-file_units 256 560 full place within ∙ by_track place late within (cases_lt place 272) (cases_lt place 288);
  };
}
  where
    blank_there : (place : ℕ) → 48 ≤ place → place < 560 → file_unit 256 copied place ≡ zeros 256
    blank_there place late within =
        front.others place (inr late) ∙ ap (λ (b : List ℕ). file_unit 256 b place) zeroed ∙ file_unit-zeros 256 143360 place (omega (arith, within))

    by_track : (place : ℕ) → 48 ≤ place → place < 560 → (place < 272) ⊎ (272 ≤ place) → (place < 288) ⊎ (288 ≤ place)
        → file_unit 256 full place ≡ empty_sector number data_disk place
    by_track place late within (inl before) other =
        track.others place (inl before) ∙ blank_there place late within ∙ sym (elsewhere number data_disk place (λ e. omega (arith, e, before)))
    by_track place late within (inr from) (inl below) = track.here place from below
    by_track place late within (inr from) (inr behind) =
        track.others place (inr behind) ∙ blank_there place late within ∙ sym (elsewhere number data_disk place (λ e. omega (arith, e, behind)))

-- blocks of 00s, into which blocks 0 and 1 are copied, and then the directory and the map are written
pub blocks_plain : (blocks : ℕ) (name date : List ℕ) (order : Order) (boot : Option (List ℕ)) (blank copied full : List ℕ) → 16 ≤ blocks → blocks < 65536
    → blank ≡ zeros (512 * blocks)
    → Filled 512 (IsBootUnit Block order boot) 0 2 blank copied
    → Filled 512 (IsEmptyBlock name date blocks) 2 (first_free blocks) copied full
    → IsPlain (NewPro blocks name date) order boot full
blocks_plain blocks name date order boot blank copied full enough few zeroed front system = record {
  long = system.long ∙ front.long ∙ ap length zeroed ∙ length-zeros (512 * blocks);
  are = record {
    count = length-file_units 512 blocks full;
    copied = λ place early.
        subst (IsBootUnit Block order boot place) (sym (unit_at-file_units 512 blocks full place (omega (arith, early, enough)) ∙ system.others place (inl early)))
        (front.here place (omega arith) early);
    empty = λ place late within.
        subst (IsEmptyBlock name date blocks place) (sym (unit_at-file_units 512 blocks full place within)) (by_place place late within (cases_lt place (first_free blocks)));
  };
}
  where
    by_place : (place : ℕ) → 2 ≤ place → place < blocks → (place < first_free blocks) ⊎ (first_free blocks ≤ place)
        → IsEmptyBlock name date blocks place (file_unit 512 full place)
    by_place place late within (inl below) = system.here place late below
    by_place place late within (inr behind) = record {
      directory = λ from below. absurd (omega (arith, behind, below));
      in_map = λ from below. absurd (omega (arith, behind, below));
      behind = λ _.
          system.others place (inr behind) ∙ front.others place (inr late) ∙ ap (λ (b : List ℕ). file_unit 512 b place) zeroed
          ∙ file_unit-zeros 512 (512 * blocks) place (omega (arith, within));
    }
