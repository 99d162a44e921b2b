-- The bytes of the ring.
use Rattle.std.proofs.Common.{◌≡◌, ℕ, ◌+◌, ◌%◌, ◌<◌, List, length, get_or, refl, sym, ap, ◌∙◌, arith}
use Rattle.std.proofs.lemmas.List.{same_lists, get_or_default}
use Rattle.std.proofs.lemmas.List.FromFn.{length-map-range_with_len, get_or-map-range_with_len}
use Rattle.a2_nibble.specs.Track.{nibble_at, field_at}

pub nibble_at-along : (nibbles : List ℕ) (p q : ℕ) → p % 6656 ≡ q % 6656 → nibble_at nibbles p ≡ nibble_at nibbles q
unfolding nibble_at
nibble_at-along nibbles p q e = ap (λ n. get_or nibbles n 0) e

pub length-field_at : (nibbles : List ℕ) (place : ℕ) → length (field_at nibbles place) ≡ 343
unfolding field_at
length-field_at nibbles place = length-map-range_with_len (nibble_at nibbles) place 343

pub get_or-field_at : (nibbles : List ℕ) (place k : ℕ) → k < 343 → get_or (field_at nibbles place) k 0 ≡ nibble_at nibbles (place + k)
unfolding field_at
get_or-field_at nibbles place k l = get_or-map-range_with_len (nibble_at nibbles) place 343 k (place + k) 0 l refl

pub field_at-from : (nibbles xs : List ℕ) (place : ℕ) → length xs ≡ 343 →
    ((k : ℕ) → k < 343 → get_or xs k 0 ≡ nibble_at nibbles (place + k)) → xs ≡ field_at nibbles place
field_at-from nibbles xs place long each = same_lists xs (field_at nibbles place) (long ∙ sym (length-field_at nibbles place))
    (λ k d l. let inside : k < 343 = omega arith in
    let long' = length-field_at nibbles place in
    get_or_default xs k d 0 l ∙ each k inside ∙ sym (get_or-field_at nibbles place k inside)
    ∙ get_or_default (field_at nibbles place) k 0 d (omega arith))

-- the byte at a place of the list
pub nibble_at-place : (nibbles : List ℕ) (q p : ℕ) → q % 6656 ≡ p → nibble_at nibbles q ≡ get_or nibbles p 0
unfolding nibble_at
nibble_at-place nibbles q p e = ap (λ n. get_or nibbles n 0) e
