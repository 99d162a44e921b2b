-- What a copy leaves at each place.
use Rattle.std.proofs.Common.{◌≡◌, ◌⊎◌, ℕ, ◌+◌, ◌-◌, ◌%◌, ◌<◌, ◌≤◌, List, length, get_or, take, drop, min, inl, inr, sym, ap, ◌∙◌, arith, ⊎_elim}
use Rattle.std.proofs.lemmas.List.{get_or-take, get_or-drop, get_or_past, length-take-le, length-drop}
use Rattle.std.proofs.lemmas.Bool.{cases_lt}
use Rattle.a2_nibble.specs.Copy.{Copies}
use Rattle.a2_nibble.specs.Track.{nibble_at, StandsAt, SameOutside, field_at, behind}
use Rattle.a2_nibble.proofs.RingLemmas.{nibble_at-place, field_at-from}

module _ (old new : List ℕ) (place : ℕ) (bytes : List ℕ) (h : Copies old new place bytes) where
  -- the byte that is copied to q
  pub copied_at : (q k : ℕ) → q ≡ place + k → k < length bytes → get_or new q 0 ≡ get_or bytes k 0
  copied_at q k e l = ap (λ n. get_or new n 0) e ∙ h.copied k l

  pub StandsAt-copied : place + length bytes ≤ 6656 → StandsAt new place bytes
  StandsAt-copied fits = λ k l. nibble_at-place new (place + k) (place + k) (omega arith) ∙ h.copied k l

  pub nibble_at-uncopied : (q : ℕ) → q < 6656 → (q < place) ⊎ (place + length bytes ≤ q) → nibble_at new q ≡ nibble_at old q
  nibble_at-uncopied q l apart = nibble_at-place new q q (omega arith) ∙ h.others q apart ∙ sym (nibble_at-place old q q (omega arith))

-- a list copied over the start of zeros, and zeros behind it
pub padded_at : (xs old new : List ℕ) (n : ℕ) → ((k : ℕ) → k < n → get_or old k 0 ≡ 0) → Copies old new 0 xs →
    (k : ℕ) → k < n → get_or new k 0 ≡ get_or xs k 0
padded_at xs old new n zeros h k l = ⊎_elim
    (λ inside. copied_at old new 0 xs h k k (omega arith) inside)
    (λ past. h.others k (inr (omega arith)) ∙ zeros k l ∙ sym (get_or_past xs k 0 past))
    (cases_lt k (length xs))

-- a part of a list, byte by byte
part_at : (xs : List ℕ) (from n k : ℕ) → k < n → get_or (take n (drop from xs)) k 0 ≡ get_or xs (from + k) 0
part_at xs from n k l = get_or-take n (drop from xs) k 0 l ∙ get_or-drop from xs k 0

-- the 343 bytes from a place on, copied in two pieces: up to the end of the list and on from its start
module _ (nibbles old middle new : List ℕ) (place head : ℕ) (on_track : place < 6656) (is : head ≡ min 343 (6656 - place))
    (long : length nibbles ≡ 6656) (whole : length new ≡ 343)
    (first : Copies old middle 0 (take (place + head - place) (drop place nibbles)))
    (second : Copies middle new head (take (343 - head) nibbles)) where
  length_first : length (take (place + head - place) (drop place nibbles)) ≡ head
  length_first = length-take-le (place + head - place) (drop place nibbles) (omega (arith, length-drop place nibbles)) ∙ omega arith

  length_second : length (take (343 - head) nibbles) ≡ 343 - head
  length_second = length-take-le (343 - head) nibbles (omega arith)

  each : (k : ℕ) → k < 343 → get_or new k 0 ≡ nibble_at nibbles (place + k)
  each k l = ⊎_elim
      (λ inside.
      second.others k (inl inside)
      ∙ copied_at _ _ _ _ first k k (omega arith) (omega (arith, length_first))
      ∙ part_at nibbles place (place + head - place) k (omega arith)
      ∙ sym (nibble_at-place nibbles (place + k) (place + k) (omega arith)))
      (λ past.
      copied_at _ _ _ _ second k (k - head) (omega arith) (omega (arith, length_second))
      ∙ get_or-take (343 - head) nibbles (k - head) 0 (omega arith)
      ∙ sym (nibble_at-place nibbles (place + k) (k - head) (omega arith)))
      (cases_lt k head)

  pub field_at-copied : new ≡ field_at nibbles place
  field_at-copied = field_at-from nibbles new place whole each

-- 343 bytes copied over those from a place on, in the same two pieces
module _ (field old middle new : List ℕ) (place head : ℕ) (on_track : place < 6656) (is : head ≡ min 343 (6656 - place))
    (long : length field ≡ 343)
    (first : Copies old middle place (take head field))
    (second : Copies middle new 0 (take (343 - head) (drop head field))) where
  length_head : length (take head field) ≡ head
  length_head = length-take-le head field (omega arith)

  length_tail : length (take (343 - head) (drop head field)) ≡ 343 - head
  length_tail = length-take-le (343 - head) (drop head field) (omega (arith, length-drop head field))

  each_written : (k : ℕ) → k < 343 → get_or field k 0 ≡ nibble_at new (place + k)
  each_written k l = ⊎_elim
      (λ inside.
      sym (nibble_at-place new (place + k) (place + k) (omega arith)
      ∙ second.others (place + k) (inr (omega (arith, length_tail)))
      ∙ copied_at _ _ _ _ first (place + k) k (omega arith) (omega (arith, length_head))
      ∙ get_or-take head field k 0 inside))
      (λ past.
      let at : head + (k - head) ≡ k = omega arith in
      sym (nibble_at-place new (place + k) (k - head) (omega arith)
      ∙ copied_at _ _ _ _ second (k - head) (k - head) (omega arith) (omega (arith, length_tail))
      ∙ part_at field head (343 - head) (k - head) (omega arith) ∙ ap (λ n. get_or field n 0) at))
      (cases_lt k head)

  pub field_at-written : field_at new place ≡ field
  field_at-written = sym (field_at-from new field place long each_written)

  pub SameOutside-written : SameOutside old new place
  SameOutside-written q far =
      nibble_at-place new q (q % 6656) (omega arith)
      ∙ second.others (q % 6656) (inr (omega (arith, length_tail)))
      ∙ first.others (q % 6656) (outside q far)
      ∙ sym (nibble_at-place old q (q % 6656) (omega arith))
    where
      outside : (q : ℕ) → 343 ≤ behind place q → (q % 6656 < place) ⊎ (place + length (take head field) ≤ q % 6656)
      outside q far = ⊎_elim (λ l. inl l) (λ m. inr (omega (arith, length_head))) (cases_lt (q % 6656) place)
