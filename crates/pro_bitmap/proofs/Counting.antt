-- Free blocks, counted a byte and a unit at a time.
use Rattle.std.proofs.Common.{◌≡◌, ℕ, zero, suc, ◌+◌, ◌-◌, ◌*◌, ◌/◌, ◌%◌, ◌<◌, ◌≤◌, Bool, true, false, cond, eqb, List, get_or, min, count_by, count_ones, refl, sym, ◌∙◌, ap, arith}
use Rattle.std.specs.Prelude.{◌==◌}
use Rattle.std.specs.Int.{bit_at}
use Rattle.std.specs.List.{range_with_len}
use Rattle.std.proofs.lemmas.Bool.{agree_below_at, eqb-true}
use Rattle.std.proofs.lemmas.List.{map-id}
use Rattle.std.proofs.lemmas.List.Sums.{count_by-le-length}
use Rattle.std.proofs.lemmas.List.FromFn.{length-range_with_len, sum_by-map-range_with_len_more}
use Rattle.a2_device.specs.Device.{unit_at}
use Rattle.pro_bitmap.specs.Bitmap.{FreeMap, units_of, is_free, is_free_in, free_below, free_count_of}
use Rattle.pro_bitmap.specs.Count.{ones_from}

-- one number more
count_by_more : (p : ℕ → Bool) (n : ℕ) → count_by p (range_with_len 0 (n + 1)) ≡ count_by p (range_with_len 0 n) + cond (p n) 1 0
count_by_more p n =
    ap (count_by p) (sym (map-id (range_with_len 0 (n + 1))))
    ∙ sum_by-map-range_with_len_more (λ k. cond (p k) 1 0) (λ k. k) 0 n n (omega arith)
    ∙ ap (λ ks. count_by p ks + cond (p n) 1 0) (map-id (range_with_len 0 n))

-- numbers from one on, counted from 0
count_by_from : (p q : ℕ → Bool) (a n : ℕ) → ((j : ℕ) → j < n → p (a + j) ≡ q j)
    → count_by p (range_with_len 0 (a + n)) ≡ count_by p (range_with_len 0 a) + count_by q (range_with_len 0 n)
count_by_from p q a zero same =
    let none : a + 0 ≡ a = omega arith in
    ap (λ k. count_by p (range_with_len 0 k)) none ∙ omega arith
count_by_from p q a (suc n) same =
    let last : a + suc n ≡ a + n + 1 = omega arith in
    let also : suc n ≡ n + 1 = omega arith in
    let before = count_by_from p q a n (λ j h. same j (omega (arith, h))) in
    let here : ◌≡◌ {A = ℕ} (cond (p (a + n)) 1 0) (cond (q n) 1 0) = ap (λ b. cond b 1 0) (same n (omega arith)) in
    omega (
      arith,
      ap (λ k. count_by p (range_with_len 0 k)) last,
      count_by_more p (a + n),
      before,
      here,
      ap (λ k. count_by q (range_with_len 0 k)) also,
      count_by_more q n,
    )

-- a byte has its bits
ones_of_byte : (byte : ℕ) → byte < 256 → count_by (λ j. bit_at byte (7 - j) == 1) (range_with_len 0 8) ≡ count_ones byte
unfolding lib.Count.ones
ones_of_byte byte small = eqb-true _ _ (agree_below_at (λ b. eqb (count_by (λ j. bit_at b (7 - j) == 1) (range_with_len 0 8)) (count_ones b)) (λ _. true) 256 byte refl small)

-- one block more
pub number_more : (unit : List ℕ) (number : ℕ) (free : Bool) → is_free_in unit number ≡ free → free_below unit (number + 1) ≡ free_below unit number + cond free 1 0
unfolding free_below
number_more unit number free is =
    count_by_more (is_free_in unit) number ∙ ap (λ b. count_by (is_free_in unit) (range_with_len 0 number) + cond b 1 0) is

byte_more : (unit : List ℕ) (at : ℕ) → get_or unit at 0 < 256 → free_below unit (8 * at + 8) ≡ free_below unit (8 * at) + count_ones (get_or unit at 0)
unfolding free_below
byte_more unit at small =
    count_by_from (is_free_in unit) (λ j. bit_at (get_or unit at 0) (7 - j) == 1) (8 * at) 8 here
    ∙ ap (λ n. count_by (is_free_in unit) (range_with_len 0 (8 * at)) + n) (ones_of_byte (get_or unit at 0) small)
  where
    here : (j : ℕ) → j < 8 → is_free_in unit (8 * at + j) ≡ (bit_at (get_or unit at 0) (7 - j) == 1)
    here j h =
        let byte : (8 * at + j) / 8 ≡ at = omega (arith, h) in
        let bit : (8 * at + j) % 8 ≡ j = omega (arith, h) in
        ap (λ k. bit_at (get_or unit k 0) (7 - (8 * at + j) % 8) == 1) byte ∙ ap (λ k. bit_at (get_or unit at 0) (7 - k) == 1) bit

bytes_more : (unit : List ℕ) (at bytes : ℕ) → ((k : ℕ) → get_or unit k 0 < 256)
    → free_below unit (8 * (at + bytes)) ≡ free_below unit (8 * at) + ones_from unit at bytes
bytes_more unit at zero small =
    let none : 8 * (at + 0) ≡ 8 * at = omega arith in
    ap (free_below unit) none ∙ omega arith
bytes_more unit at (suc bytes) small =
    let last : 8 * (at + suc bytes) ≡ 8 * (at + 1 + bytes) = omega arith in
    let next : 8 * (at + 1) ≡ 8 * at + 8 = omega arith in
    omega (
      arith,
      ap (free_below unit) last,
      bytes_more unit (at + 1) bytes small,
      ap (free_below unit) next,
      byte_more unit at (small at),
    )

-- one group of sixteen bytes more
pub group_more : (unit : List ℕ) (group : ℕ) → ((k : ℕ) → get_or unit k 0 < 256)
    → free_below unit (128 * (group + 1)) ≡ free_below unit (128 * group) + ones_from unit (16 * group) 16
group_more unit group small =
    let from : 8 * (16 * group) ≡ 128 * group = omega arith in
    let next : 8 * (16 * group + 16) ≡ 128 * (group + 1) = omega arith in
    omega (arith, bytes_more unit (16 * group) 16 small, ap (free_below unit) from, ap (free_below unit) next)

pub free_below-le : (unit : List ℕ) (blocks : ℕ) → free_below unit blocks ≤ blocks
unfolding free_below
free_below-le unit blocks = omega (arith, count_by-le-length (is_free_in unit) (range_with_len 0 blocks), length-range_with_len 0 blocks)

pub free_below-zero : (unit : List ℕ) → 0 ≡ free_below unit 0
unfolding free_below
free_below-zero unit = refl

-- how many of the first blocks of a bitmap are free
unfoldable pub free_before : FreeMap → ℕ → ℕ
free_before bitmap blocks = count_by (is_free bitmap) (range_with_len 0 blocks)

unit_more : (bitmap : FreeMap) (number blocks from next : ℕ) → blocks ≤ 4096 → from ≡ 4096 * number → next ≡ from + blocks
    → free_before bitmap next ≡ free_before bitmap from + free_below (unit_at bitmap.units number) blocks
unfolding free_before free_below
unit_more bitmap number blocks from next few is next_is =
    ap (λ k. count_by (is_free bitmap) (range_with_len 0 k)) next_is
    ∙ count_by_from (is_free bitmap) (is_free_in (unit_at bitmap.units number)) from blocks here
  where
    here : (j : ℕ) → j < blocks → is_free bitmap (from + j) ≡ is_free_in (unit_at bitmap.units number) j
    here j h =
        let unit : (from + j) / 4096 ≡ number = omega (arith, h, few, is) in
        let place : (from + j) % 4096 ≡ j = omega (arith, h, few, is) in
        ap (λ k. is_free_in (unit_at bitmap.units k) ((from + j) % 4096)) unit ∙ ap (is_free_in (unit_at bitmap.units number)) place

-- the unit with a number more, where so many blocks of the total are left
pub next_unit : (bitmap : FreeMap) (number left few : ℕ) (here : List ℕ) → number < units_of bitmap.total → left ≡ bitmap.total - 4096 * number → few ≡ min left 4096
    → here ≡ unit_at bitmap.units number → free_before bitmap (bitmap.total - left) + free_below here few ≡ free_before bitmap (bitmap.total - (left - 4096))
next_unit bitmap number left few here within left_is few_is here_is =
    let from : bitmap.total - left ≡ 4096 * number = omega (arith, within, left_is) in
    let next : bitmap.total - (left - 4096) ≡ bitmap.total - left + few = omega (arith, within, left_is, few_is) in
    ap (λ u. free_before bitmap (bitmap.total - left) + free_below u few) here_is
    ∙ sym (unit_more bitmap number few (bitmap.total - left) (bitmap.total - (left - 4096)) (omega (arith, few_is)) from next)

pub free_before-le : (bitmap : FreeMap) (blocks : ℕ) → free_before bitmap blocks ≤ blocks
unfolding free_before
free_before-le bitmap blocks = omega (arith, count_by-le-length (is_free bitmap) (range_with_len 0 blocks), length-range_with_len 0 blocks)

pub free_before-zero : (bitmap : FreeMap) → 0 ≡ free_before bitmap 0
unfolding free_before
free_before-zero bitmap = refl

pub free_before-all : (bitmap : FreeMap) → free_before bitmap bitmap.total ≡ free_count_of bitmap
unfolding free_before free_count_of
free_before-all bitmap = refl
