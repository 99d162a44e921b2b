-- Sixteen bytes at once.
use Rattle.std.proofs.Common.{◌≡◌, ℕ, zero, suc, ◌+◌, ◌*◌, ◌<◌, ◌≤◌, List, [], ◌∷◌, length, get_or, map, count_ones, refl, ◌∙◌, ap, arith}
use lib.Lanes.{chunk, sum_l, Each1}
use Rattle.std.proofs.lemmas.List.{length-map, map-id}
use Rattle.std.proofs.lemmas.Nat.{ones-le}
use Rattle.std.proofs.lemmas.Simd.{length-chunk, get_or-chunk, sum_bound}
use Rattle.pro_bitmap.specs.Count.{ones_from}

ones_of_bytes : (n : ℕ) (unit : List ℕ) (at : ℕ) (bytes : List ℕ) → length bytes ≡ n
    → ((k : ℕ) → k < length bytes → get_or bytes k 0 ≡ get_or unit (at + k) 0) → sum_l (map count_ones bytes) ≡ ones_from unit at n
ones_of_bytes zero unit at [] long stands = refl
ones_of_bytes zero unit at (b ∷ bytes) long stands = absurd (omega (arith, long))
ones_of_bytes (suc n) unit at [] long stands = absurd (omega (arith, long))
ones_of_bytes (suc n) unit at (b ∷ bytes) long stands =
    let from : at + 0 ≡ at = omega arith in
    let first = ap count_ones (stands 0 (omega arith) ∙ ap (λ k. get_or unit k 0) from) in
    let rest = ones_of_bytes n unit (at + 1) bytes (omega (arith, long))
    (λ k h. stands (suc k) (omega (arith, h)) ∙ (let here : at + suc k ≡ at + 1 + k = omega arith in ap (λ j. get_or unit j 0) here)) in
    omega (arith, first, rest)

few : (bytes : List ℕ) → ((k : ℕ) → k < length bytes → get_or bytes k 0 < 256) → Each1 (λ n. n ≤ 8) (map count_ones bytes)
few [] small = tt
few (b ∷ bytes) small = (ones-le 8 b (small 0 (omega arith)), few bytes (λ k h. small (suc k) (omega (arith, h))))

-- the lanes of a group
module _ (unit : List ℕ) (at : ℕ) (within : at + 16 ≤ length unit) (fits : (k : ℕ) → get_or unit k 0 < 256) where
  in_chunk : (k : ℕ) → k < length (chunk at 16 unit) → get_or (chunk at 16 unit) k 0 ≡ get_or unit (at + k) 0
  in_chunk k h = get_or-chunk at 16 unit k 0 (omega (arith, h, length-chunk at 16 unit within))

  pub few_ones : Each1 (λ n. n ≤ 8) (map count_ones (chunk at 16 unit))
  few_ones = few (chunk at 16 unit) (λ k h. omega (arith, in_chunk k h, fits (at + k)))

  pub sum_small : sum_l (map (λ n. n) (map count_ones (chunk at 16 unit))) ≤ 128
  sum_small =
      omega (
        arith,
        ap sum_l (map-id (map count_ones (chunk at 16 unit))),
        sum_bound 8 (map count_ones (chunk at 16 unit)) few_ones,
        length-map (chunk at 16 unit) count_ones,
        length-chunk at 16 unit within,
      )

  pub sum_is : sum_l (map (λ n. n) (map count_ones (chunk at 16 unit))) ≡ ones_from unit at 16
  sum_is = ap sum_l (map-id (map count_ones (chunk at 16 unit))) ∙ ones_of_bytes 16 unit at (chunk at 16 unit) (length-chunk at 16 unit within) in_chunk
