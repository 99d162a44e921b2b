-- Sixteen bytes at once: the bits of four tracks.
use Rattle.std.proofs.Common.{◌≡◌, ℕ, zero, suc, ◌+◌, ◌-◌, ◌*◌, ◌%◌, ◌^◌, ◌<◌, ◌≤◌, List, [], ◌∷◌, length, get_or, map, bit_and, count_ones, refl, sym, ◌∙◌, ap, arith, w8}
use lib.Bits.{and_mask, and_zero_r, and_le_r}
use lib.Lanes.{zip2, chunk, sum_l, Each1}
use Rattle.std.proofs.lemmas.List.{length-map, map-id}
use Rattle.std.proofs.lemmas.Nat.{ones-le}
use Rattle.std.proofs.lemmas.Simd.{length-chunk, get_or-chunk, length-zip2, sum_bound, Each1-from_get_or}
use Rattle.dos_vtoc.specs.Count.{ones_of_track}

-- the used bytes of some tracks
abbrev pub used_bytes : ℕ → List ℕ
used_bytes zero = []
used_bytes (suc n) = 255 ∷ 255 ∷ 0 ∷ 0 ∷ used_bytes n

-- the bits that are 1 in the used bytes of some tracks, from one on
abbrev pub ones_of_tracks : ℕ → List ℕ → ℕ → ℕ
ones_of_tracks zero vtoc at = 0
ones_of_tracks (suc n) vtoc at = ones_of_track vtoc at + ones_of_tracks n vtoc (at + 4)

and_byte : (b : ℕ) → b < 256 → bit_and b 255 ≡ b
and_byte b small = and_mask b 8 ∙ omega (arith, small)

ones_of_used : (n : ℕ) (vtoc : List ℕ) (at : ℕ) (bytes : List ℕ) → length bytes ≡ 4 * n → Each1 (λ b. b < 256) bytes
    → ((k : ℕ) → k < length bytes → get_or bytes k 0 ≡ get_or vtoc (at + k) 0)
    → sum_l (map count_ones (zip2 bit_and bytes (used_bytes n))) ≡ ones_of_tracks n vtoc at
unfolding lib.Count.ones
ones_of_used zero vtoc at [] long small stands = refl
ones_of_used zero vtoc at (a ∷ bytes) long small stands = absurd (omega (arith, long))
ones_of_used (suc n) vtoc at [] long small stands = absurd (omega (arith, long))
ones_of_used (suc n) vtoc at (a ∷ []) long small stands = absurd (omega (arith, long))
ones_of_used (suc n) vtoc at (a ∷ b ∷ []) long small stands = absurd (omega (arith, long))
ones_of_used (suc n) vtoc at (a ∷ b ∷ c ∷ []) long small stands = absurd (omega (arith, long))
ones_of_used (suc n) vtoc at (a ∷ b ∷ c ∷ d ∷ bytes) long small stands =
    let from : at + 0 ≡ at = omega arith in
    let first = ap count_ones (and_byte a small.0 ∙ stands 0 (omega arith) ∙ ap (λ k. get_or vtoc k 0) from) in
    let second = ap count_ones (and_byte b small.1.0 ∙ stands 1 (omega arith)) in
    let third : count_ones (bit_and c 0) ≡ 0 = ap count_ones (and_zero_r c) in
    let fourth : count_ones (bit_and d 0) ≡ 0 = ap count_ones (and_zero_r d) in
    let rest = ones_of_used n vtoc (at + 4) bytes (omega (arith, long)) small.1.1.1.1
    (λ k h. stands (suc (suc (suc (suc k)))) (omega (arith, h)) ∙ (let here : at + suc (suc (suc (suc k))) ≡ at + 4 + k = omega arith in ap (λ j. get_or vtoc j 0) here)) in
    omega (arith, first, second, third, fourth, rest)

masks_small : (n : ℕ) → Each1 (λ b. b < 256) (used_bytes n)
masks_small zero = tt
masks_small (suc n) = (omega arith, (omega arith, (omega arith, (omega arith, masks_small n))))

-- the lanes of a group: 16 bytes of the map
module _ (vtoc : List ℕ) (at : ℕ) (within : at + 16 ≤ length vtoc) (fits : (k : ℕ) → get_or vtoc k 0 < 256) where
  in_chunk : (k : ℕ) → k < length (chunk at 16 vtoc) → get_or (chunk at 16 vtoc) k 0 ≡ get_or vtoc (at + k) 0
  in_chunk k h = get_or-chunk at 16 vtoc k 0 (omega (arith, h, length-chunk at 16 vtoc within))

  small : Each1 (λ b. b < 256) (chunk at 16 vtoc)
  small = Each1-from_get_or (λ b. b < 256) (chunk at 16 vtoc) 0 (λ k h. omega (arith, in_chunk k h, fits (at + k)))

  few : (bytes used : List ℕ) → Each1 (λ b. b < 256) used → Each1 (λ n. n ≤ 8) (map count_ones (zip2 bit_and bytes used))
  few [] used each = tt
  few (b ∷ bytes) [] each = tt
  few (b ∷ bytes) (mask ∷ used) each = (ones-le 8 (bit_and b mask) (omega (arith, and_le_r b mask, each.0)), few bytes used each.1)

  pub few_ones : Each1 (λ n. n ≤ 8) (map count_ones (zip2 bit_and (chunk at 16 vtoc) (used_bytes 4)))
  few_ones = few (chunk at 16 vtoc) (used_bytes 4) (masks_small 4)

  pub sum_small : sum_l (map (λ n. n) (map count_ones (zip2 bit_and (chunk at 16 vtoc) (used_bytes 4)))) ≤ 128
  sum_small =
      let few_in_all = sum_bound 8 (map count_ones (zip2 bit_and (chunk at 16 vtoc) (used_bytes 4))) few_ones in
      let lanes = length-map (zip2 bit_and (chunk at 16 vtoc) (used_bytes 4)) count_ones in
      let zipped = length-zip2 bit_and (chunk at 16 vtoc) (used_bytes 4) (length-chunk at 16 vtoc within) in
      omega (arith, ap sum_l (map-id (map count_ones (zip2 bit_and (chunk at 16 vtoc) (used_bytes 4)))), few_in_all, lanes, zipped, length-chunk at 16 vtoc within)

  pub sum_is : sum_l (map (λ n. n) (map count_ones (zip2 bit_and (chunk at 16 vtoc) (used_bytes 4))))
      ≡ ones_of_track vtoc at + ones_of_track vtoc (at + 4) + ones_of_track vtoc (at + 8) + ones_of_track vtoc (at + 12)
  sum_is =
      let third : at + 4 + 4 ≡ at + 8 = omega arith in
      let fourth : at + 4 + 4 + 4 ≡ at + 12 = omega arith in
      omega (
        arith,
        ap sum_l (map-id (map count_ones (zip2 bit_and (chunk at 16 vtoc) (used_bytes 4)))),
        ones_of_used 4 vtoc at (chunk at 16 vtoc) (length-chunk at 16 vtoc within) small in_chunk,
        ap (ones_of_track vtoc) third,
        ap (ones_of_track vtoc) fourth,
      )
