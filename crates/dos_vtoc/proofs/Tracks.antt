-- Free sectors, counted a track at a time.
use Rattle.std.proofs.Common.{◌≡◌, ℕ, zero, suc, ◌+◌, ◌-◌, ◌*◌, ◌/◌, ◌%◌, ◌<◌, ◌≤◌, Bool, true, false, cond, eqb, List, [], ◌∷◌, get_or, fold, count_by, count_ones, refl, sym, ◌∙◌, ap, subst, arith}
use Rattle.std.specs.Prelude.{◌==◌}
use Rattle.std.specs.Int.{bit_at}
use Rattle.std.specs.List.{range_with_len}
use Rattle.std.proofs.lemmas.Bool.{agree_below_at, eqb-true}
use Rattle.std.proofs.lemmas.List.Sums.{count_by-le-length}
use Rattle.std.proofs.lemmas.List.FromFn.{length-range_with_len}
use Rattle.dos_vtoc.specs.Vtoc.{is_free, byte_of_place, free_count_of}
use Rattle.dos_vtoc.specs.Count.{free_below, ones_of_track}

-- how many of n numbers pass, from the front
abbrev counted : (ℕ → Bool) → ℕ → ℕ → ℕ
counted p from zero = 0
counted p from (suc n) = cond (p from) 1 0 + counted p (from + 1) n

fold-counted : (p : ℕ → Bool) (before from n : ℕ) → fold (λ sum k. sum + cond (p k) 1 0) before (range_with_len from n) ≡ before + counted p from n
fold-counted p before from zero = omega arith
fold-counted p before from (suc n) = omega (arith, fold-counted p (before + cond (p from) 1 0) (from + 1) n)

count_by-counted : (p : ℕ → Bool) (from n : ℕ) → count_by p (range_with_len from n) ≡ counted p from n
count_by-counted p from n = fold-counted p 0 from n ∙ omega arith

moved : (p : ℕ → Bool) (a j k : ℕ) → k ≡ a + j → p k ≡ p (a + j)
moved p a j k is = ap p is

counted-apart : (p : ℕ → Bool) (a n m all next : ℕ) → all ≡ n + m → next ≡ a + n → counted p a all ≡ counted p a n + counted p next m
counted-apart p a zero m all next is at =
    let same : all ≡ m = omega (arith, is) in
    let from : next ≡ a = omega (arith, at) in
    ap (counted p a) same ∙ ap (λ k. counted p k m) (sym from) ∙ omega arith
counted-apart p a (suc n) m zero next is at = absurd (omega (arith, is))
counted-apart p a (suc n) m (suc all) next is at = omega (arith, counted-apart p (a + 1) n m all next (omega (arith, is)) (omega (arith, at)))

counted-same : (p q : ℕ → Bool) (a b n : ℕ) → ((j : ℕ) → j < n → p (a + j) ≡ q (b + j)) → counted p a n ≡ counted q b n
counted-same p q a b zero each = refl
counted-same p q a b (suc n) each =
    let first : p a ≡ q b = moved p a 0 a (omega arith) ∙ each 0 (omega arith) ∙ sym (moved q b 0 b (omega arith)) in
    let rest = counted-same p q (a + 1) (b + 1) n (λ j h.
    moved p a (j + 1) (a + 1 + j) (omega arith) ∙ each (j + 1) (omega arith) ∙ sym (moved q b (j + 1) (b + 1 + j) (omega arith))) in
    ap (λ t. cond t 1 0 + counted p (a + 1) n) first ∙ ap (λ k. cond (q b) 1 0 + k) rest

-- the bits of a byte
ones_of_byte : (byte : ℕ) → byte < 256 → counted (λ j. bit_at byte j == 1) 0 8 ≡ count_ones byte
unfolding lib.Count.ones
ones_of_byte byte small = eqb-true _ _ (agree_below_at (λ b. eqb (counted (λ j. bit_at b j == 1) 0 8) (count_ones b)) (λ _. true) 256 byte refl small)

-- eight sectors whose bits are in one byte
eight : (vtoc : List ℕ) (from at : ℕ) → get_or vtoc at 0 < 256 → ((j : ℕ) → j < 8 → (byte_of_place (from + j) ≡ at) × ((from + j) % 8 ≡ j))
    → counted (is_free vtoc) from 8 ≡ count_ones (get_or vtoc at 0)
eight vtoc from at small stands =
    counted-same (is_free vtoc) (λ j. bit_at (get_or vtoc at 0) j == 1) from 0 8
    (λ j h. ap (λ n. bit_at (get_or vtoc n 0) ((from + j) % 8) == 1) (stands j h).0
    ∙ (let bit : (from + j) % 8 ≡ 0 + j = omega (arith, (stands j h).1) in ap (λ n. bit_at (get_or vtoc at 0) n == 1) bit))
    ∙ ones_of_byte (get_or vtoc at 0) small

-- one track more
pub track_more : (vtoc : List ℕ) (track : ℕ) → ((k : ℕ) → get_or vtoc k 0 < 256)
    → free_below vtoc (16 * track + 16) ≡ free_below vtoc (16 * track) + ones_of_track vtoc (0x38 + 4 * track)
unfolding free_below
track_more vtoc track bytes =
    let low = eight vtoc (16 * track) (0x38 + 4 * track + 1) (bytes _) (λ j h. (omega (arith, h), omega (arith, h))) in
    let high = eight vtoc (16 * track + 8) (0x38 + 4 * track) (bytes _) (λ j h. (omega (arith, h), omega (arith, h))) in
    let tracks = counted-apart (is_free vtoc) 0 (16 * track) 16 (16 * track + 16) (16 * track) (omega arith) (omega arith) in
    let halves = counted-apart (is_free vtoc) (16 * track) 8 8 16 (16 * track + 8) (omega arith) (omega arith) in
    omega (arith, count_by-counted (is_free vtoc) 0 (16 * track + 16), count_by-counted (is_free vtoc) 0 (16 * track), tracks, halves, low, high)

-- four tracks more
pub group_more : (vtoc : List ℕ) (group : ℕ) → ((k : ℕ) → get_or vtoc k 0 < 256)
    → free_below vtoc (64 * (group + 1)) ≡ free_below vtoc (64 * group) + (ones_of_track vtoc (0x38 + 16 * group) + ones_of_track vtoc (0x38 + 16 * group + 4)
    + ones_of_track vtoc (0x38 + 16 * group + 8) + ones_of_track vtoc (0x38 + 16 * group + 12))
group_more vtoc group bytes =
    let one = after (4 * group) (64 * group) (64 * group + 16) (0x38 + 16 * group) (omega arith) (omega arith) (omega arith) in
    let two = after (4 * group + 1) (64 * group + 16) (64 * group + 32) (0x38 + 16 * group + 4) (omega arith) (omega arith) (omega arith) in
    let three = after (4 * group + 2) (64 * group + 32) (64 * group + 48) (0x38 + 16 * group + 8) (omega arith) (omega arith) (omega arith) in
    let four = after (4 * group + 3) (64 * group + 48) (64 * (group + 1)) (0x38 + 16 * group + 12) (omega arith) (omega arith) (omega arith) in
    omega (arith, one, two, three, four)
  where
    after : (track from next at : ℕ) → from ≡ 16 * track → next ≡ 16 * track + 16 → at ≡ 0x38 + 4 * track → free_below vtoc next ≡ free_below vtoc from + ones_of_track vtoc at
    after track from next at is is_next is_at =
        ap (free_below vtoc) is_next ∙ track_more vtoc track bytes ∙ ap (λ n. n + ones_of_track vtoc (0x38 + 4 * track)) (ap (free_below vtoc) (sym is))
        ∙ ap (λ n. free_below vtoc from + ones_of_track vtoc n) (sym is_at)

pub free_below-le : (vtoc : List ℕ) (place : ℕ) → free_below vtoc place ≤ place
unfolding free_below
free_below-le vtoc place = omega (arith, count_by-le-length (is_free vtoc) (range_with_len 0 place), length-range_with_len 0 place)

pub free_below-zero : (vtoc : List ℕ) → 0 ≡ free_below vtoc 0
unfolding free_below
free_below-zero vtoc = refl

pub free_below-all : (vtoc : List ℕ) → free_below vtoc 560 ≡ free_count_of vtoc
unfolding free_below free_count_of
free_below-all vtoc = refl
