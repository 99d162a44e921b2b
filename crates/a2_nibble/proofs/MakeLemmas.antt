-- What stands on a made track, and that each sector reads back.
use Rattle.std.proofs.Common.{◌≡◌, ◌≢◌, ℕ, zero, suc, ◌+◌, ◌-◌, ◌*◌, ◌/◌, ◌%◌, ◌<◌, ◌≤◌, List, [], Some, length, get_or, sym, ap, ◌∙◌, subst, arith, ⊎_elim}
use Rattle.std.specs.Prelude.{slice_get}
use Rattle.std.proofs.lemmas.List.{get_or-replicate, length-replicate, same_lists, get_or_default}
use Rattle.std.proofs.lemmas.Bool.{cases_lt}
use Rattle.std.proofs.lemmas.Option.{slice_get-get_or, slice_get_within}
use Rattle.a2_nibble.specs.DiskBytes.{value_of}
use Rattle.a2_nibble.specs.Field.{IsEncoded}
use Rattle.a2_nibble.specs.Address.{address_field}
use Rattle.a2_nibble.specs.Track.{nibble_at, StandsAt, field_at}
use Rattle.a2_nibble.specs.Sector.{IsFieldFrom, IsFieldOf, SectorOf, data_mark}
use Rattle.a2_nibble.specs.MadeTrack.{IsSectorAt, IsMadeTrack, epilogue, gap_of}
use Rattle.a2_nibble.proofs.RingLemmas.{nibble_at-place, length-field_at, get_or-field_at, field_at-from}
use Rattle.a2_nibble.proofs.AddressLemmas.{length-address_field, address_mark, no_second_mark}
use Rattle.a2_nibble.proofs.OneLemmas.{one_encoding}
use Rattle.a2_nibble.proofs.WriteLemmas.{value_of-D5, one_sector}

pub gap_stands : (nibbles : List ℕ) (place n : ℕ) → ((k : ℕ) → k < n → nibble_at nibbles (place + k) ≡ 0xFF) → StandsAt nibbles place (gap_of n)
gap_stands nibbles place n each = λ k l.
    let inside : k < n = omega (arith, length-replicate {A = ℕ} n 0xFF) in
    each k inside ∙ sym (get_or-replicate n k 0xFF 0 inside)

pub gap_byte : (nibbles : List ℕ) (place n : ℕ) → StandsAt nibbles place (gap_of n) → (k : ℕ) → k < n → nibble_at nibbles (place + k) ≡ 0xFF
gap_byte nibbles place n h k l = h k (omega (arith, length-replicate {A = ℕ} n 0xFF)) ∙ get_or-replicate n k 0xFF 0 l

-- what stands below a place stays where no byte below it changes
module _ (old new : List ℕ) (till : ℕ) (same : (q : ℕ) → q < till → nibble_at new q ≡ nibble_at old q) where
  stands_kept : (place : ℕ) (bytes : List ℕ) → place + length bytes ≤ till → StandsAt old place bytes → StandsAt new place bytes
  stands_kept place bytes fits h = λ k l. same (place + k) (omega arith) ∙ h k l

  pub sector_kept : (place volume track sector : ℕ) (content : List ℕ) → place + 396 ≤ till →
      IsSectorAt old place volume track sector content → IsSectorAt new place volume track sector content
  sector_kept place v t s content fits h = record {
    address = stands_kept place (address_field v t s) (omega (arith, length-address_field v t s)) h.address;
    address_end = stands_kept (place + 11) epilogue (omega arith) h.address_end;
    gap = stands_kept (place + 14) (gap_of 6) (omega (arith, length-replicate {A = ℕ} 6 0xFF)) h.gap;
    mark = stands_kept (place + 20) data_mark (omega arith) h.mark;
    encoded = subst (IsEncoded content)
        (field_at-from new (field_at old (place + 23)) (place + 23) (length-field_at old (place + 23))
        (λ k l. get_or-field_at old (place + 23) k l ∙ sym (same (place + 23 + k) (omega arith))))
        h.encoded;
    data_end = stands_kept (place + 366) epilogue (omega arith) h.data_end;
    gap_after = stands_kept (place + 369) (gap_of 27) (omega (arith, length-replicate {A = ℕ} 27 0xFF)) h.gap_after;
  }

-- in a sector of a made track an address field begins only at its first byte
module _ (nibbles : List ℕ) (place volume track sector : ℕ) (content : List ℕ) (h : IsSectorAt nibbles place volume track sector content) where
  epilogue_byte : (p : ℕ) → StandsAt nibbles p epilogue → (k : ℕ) → k < 3 → nibble_at nibbles (p + k) ≢ 0xD5
  epilogue_byte p stands zero l e = let is = stands 0 (omega arith) in omega (arith, is, e)
  epilogue_byte p stands (suc zero) l e = let is = stands 1 (omega arith) in omega (arith, is, e)
  epilogue_byte p stands (suc (suc zero)) l e = let is = stands 2 (omega arith) in omega (arith, is, e)
  epilogue_byte p stands (suc (suc (suc k))) l e = absurd (omega arith)

  -- the k-th byte, from a base on
  from_base : (base k : ℕ) → base ≤ k → nibble_at nibbles (place + k) ≡ 0xD5 → nibble_at nibbles (place + base + (k - base)) ≡ 0xD5
  from_base base k l e = let at : place + base + (k - base) ≡ place + k = omega arith in ap (nibble_at nibbles) at ∙ e

  not_mark : (k : ℕ) → 20 ≤ k → k < 23 → nibble_at nibbles (place + k) ≡ 0xD5 → nibble_at nibbles (place + k + 2) ≡ 0x96 → ⊥
  not_mark k a b e e' = ⊎_elim
      (λ first.
      let at : place + 20 + 2 ≡ place + k + 2 = omega arith in
      let is = ap (nibble_at nibbles) (sym at) ∙ h.mark 2 (omega arith) in
      omega (arith, is, e'))
      (λ later. ⊎_elim
      (λ second.
      let at : place + 20 + 1 ≡ place + k = omega arith in
      let is = ap (nibble_at nibbles) (sym at) ∙ h.mark 1 (omega arith) in
      omega (arith, is, e))
      (λ third.
      let at : place + 20 + 2 ≡ place + k = omega arith in
      let is = ap (nibble_at nibbles) (sym at) ∙ h.mark 2 (omega arith) in
      omega (arith, is, e))
      (cases_lt k 22))
      (cases_lt k 21)

  not_data : (k : ℕ) → 23 ≤ k → k < 366 → nibble_at nibbles (place + k) ≡ 0xD5 → ⊥
  not_data k a b e =
      let j = k - 23 in
      let inside : k - 23 < 343 = omega arith in
      let byte = get_or-field_at nibbles (place + 23) (k - 23) inside ∙ from_base 23 k a e in
      let small = h.encoded.counts.in_table (k - 23) 0 (omega (arith, h.encoded.long)) in
      omega (arith, small, ap value_of byte, value_of-D5)

  -- an address field begins only at the first byte
  no_begin : (k : ℕ) → 0 < k → k < 396 → nibble_at nibbles (place + k) ≡ 0xD5 → nibble_at nibbles (place + k + 2) ≡ 0x96 → ⊥
  no_begin k a b e e' =
      ⊎_elim (λ u. no_second_mark nibbles place volume track sector h.address k a u e)
      (λ o11. ⊎_elim (λ u. epilogue_byte (place + 11) h.address_end (k - 11) (omega arith) (from_base 11 k o11 e))
      (λ o14. ⊎_elim (λ u. let is = gap_byte nibbles (place + 14) 6 h.gap (k - 14) (omega arith) in let e14 = from_base 14 k o14 e in omega (arith, is, e14))
      (λ o20. ⊎_elim (λ u. not_mark k o20 u e e')
      (λ o23. ⊎_elim (λ u. not_data k o23 u e)
      (λ o366. ⊎_elim (λ u. epilogue_byte (place + 366) h.data_end (k - 366) (omega arith) (from_base 366 k o366 e))
      (λ o369. let is = gap_byte nibbles (place + 369) 27 h.gap_after (k - 369) (omega arith) in let e369 = from_base 369 k o369 e in omega (arith, is, e369))
      (cases_lt k 369)) (cases_lt k 366)) (cases_lt k 23)) (cases_lt k 20)) (cases_lt k 14)) (cases_lt k 11)

  -- its address field and data field count
  made_field : volume < 256 → place + 396 ≤ 6656 → IsFieldFrom nibbles track sector place volume (place + 23)
  made_field small fits = record {
    volume_fits = small;
    address = h.address;
    mark = record {
      gap = 9;
      near = omega arith;
      first = λ k l e. ⊎_elim
          (λ u. epilogue_byte (place + 11) h.address_end k u e)
          (λ o.
          let at : place + 14 + (k - 3) ≡ place + 11 + k = omega arith in
          let is = ap (nibble_at nibbles) (sym at) ∙ gap_byte nibbles (place + 14) 6 h.gap (k - 3) (omega arith) in
          omega (arith, is, e))
          (cases_lt k 3);
      mark = let at : place + 20 ≡ place + 11 + 9 = omega arith in subst (λ p. StandsAt nibbles p data_mark) at h.mark;
      behind = omega arith;
    };
    counts = h.encoded.counts;
  }

module _ (nibbles : List ℕ) (volume track : ℕ) (sectors : List (List ℕ)) (sixteen : length sectors ≡ 16)
    (small : volume < 256) (few : track < 256) (made : IsMadeTrack nibbles volume track sectors) where
  sector_of : (p : ℕ) → p < 16 → IsSectorAt nibbles (48 + 396 * p) volume track p (get_or sectors p [])
  sector_of p l = made.sector_at p _ (slice_get-get_or sectors p [] (omega arith))

  third_byte : (v t s q : ℕ) → StandsAt nibbles q (address_field v t s) → nibble_at nibbles (q + 2) ≡ 0x96
  unfolding address_field
  third_byte v t s q h = h 2 (omega arith)

  none_before : (p : ℕ) → p < 16 → (q : ℕ) → q < 48 + 396 * p → (v d : ℕ) → IsFieldFrom nibbles track p q v d → ⊥
  none_before p l q before v d h =
      let first = address_mark nibbles q v track p h.address in
      let third = third_byte v track p q h.address in
      ⊎_elim
      (λ u. let is = gap_byte nibbles 0 48 made.before q u in
      let at : 0 + q ≡ q = omega arith in
      let byte = ap (nibble_at nibbles) (sym at) ∙ is in omega (arith, byte, first))
      (λ o.
      let r = (q - 48) / 396 in
      let at : 48 + 396 * ((q - 48) / 396) + (q - 48) % 396 ≡ q = omega arith in
      let inside : (q - 48) / 396 < 16 = omega arith in
      ⊎_elim
      (λ zeroth.
      let here : 48 + 396 * ((q - 48) / 396) ≡ q = omega arith in
      let there = subst (λ a. StandsAt nibbles a (address_field volume track ((q - 48) / 396))) here (sector_of ((q - 48) / 396) inside).address in
      let both = one_sector nibbles track p q v track ((q - 48) / 396) volume few (omega arith) few (omega arith) h.address there in
      omega (arith, both.1, here, before))
      (λ later.
      no_begin nibbles _ volume track _ _ (sector_of ((q - 48) / 396) inside) ((q - 48) % 396) (omega arith) (omega arith)
      (ap (nibble_at nibbles) at ∙ first) (ap (λ a. nibble_at nibbles (a + 2)) at ∙ third))
      (cases_lt ((q - 48) % 396) 1))
      (cases_lt q 48)

  pub made_fields : (p : ℕ) → p < 16 → IsFieldOf nibbles track p volume (71 + 396 * p)
  made_fields p l =
      let at : 48 + 396 * p + 23 ≡ 71 + 396 * p = omega arith in
      record {
        place = 48 + 396 * p;
        on_track = omega arith;
        counts = subst (IsFieldFrom nibbles track p (48 + 396 * p) volume) at
            (made_field nibbles (48 + 396 * p) volume track p _ (sector_of p l) small (omega arith));
        least = none_before p l;
      }

  pub made_contents : (p : ℕ) (content : List ℕ) → slice_get sectors p ≡ Some content → SectorOf nibbles track p content
  made_contents p content is =
      let l : p < 16 = omega (arith, slice_get_within sectors p content is) in
      let at : 48 + 396 * p + 23 ≡ 71 + 396 * p = omega arith in
      record {
        volume = volume;
        data_at = 71 + 396 * p;
        field = made_fields p l;
        gives = (subst (λ a. IsEncoded content (field_at nibbles a)) at (made.sector_at p content is).encoded).gives;
      }

-- two tracks that are made of the same sectors are the same bytes
module _ (a b : List ℕ) where
  part_same : (base k : ℕ) (bytes : List ℕ) → StandsAt a base bytes → StandsAt b base bytes → base ≤ k → k < base + length bytes →
      nibble_at a k ≡ nibble_at b k
  part_same base k bytes h h' from till =
      let at : base + (k - base) ≡ k = omega arith in
      ap (nibble_at a) (sym at) ∙ h (k - base) (omega arith) ∙ sym (h' (k - base) (omega arith)) ∙ ap (nibble_at b) at

  gap_same : (base k n : ℕ) → StandsAt a base (gap_of n) → StandsAt b base (gap_of n) → base ≤ k → k < base + n → nibble_at a k ≡ nibble_at b k
  gap_same base k n h h' from till = part_same base k (gap_of n) h h' from (omega (arith, length-replicate {A = ℕ} n 0xFF))

  encoded_same : (base k : ℕ) (content : List ℕ) → IsEncoded content (field_at a base) → IsEncoded content (field_at b base) →
      base ≤ k → k < base + 343 → nibble_at a k ≡ nibble_at b k
  encoded_same base k content h h' from till =
      let at : base + (k - base) ≡ k = omega arith in
      let inside : k - base < 343 = omega arith in
      ap (nibble_at a) (sym at) ∙ sym (get_or-field_at a base (k - base) inside)
      ∙ ap (λ bytes. get_or bytes (k - base) 0) (one_encoding content _ _ h h')
      ∙ get_or-field_at b base (k - base) inside ∙ ap (nibble_at b) at

  sector_same : (place volume track sector : ℕ) (content : List ℕ) → IsSectorAt a place volume track sector content →
      IsSectorAt b place volume track sector content → (q : ℕ) → place ≤ q → q < place + 396 → nibble_at a q ≡ nibble_at b q
  sector_same place v t s content h h' q from till =
      ⊎_elim (λ u. part_same place q (address_field v t s) h.address h'.address from (omega (arith, length-address_field v t s)))
      (λ o11. ⊎_elim (λ u. part_same (place + 11) q epilogue h.address_end h'.address_end o11 (omega arith))
      (λ o14. ⊎_elim (λ u. gap_same (place + 14) q 6 h.gap h'.gap o14 (omega arith))
      (λ o20. ⊎_elim (λ u. part_same (place + 20) q data_mark h.mark h'.mark o20 (omega arith))
      (λ o23. ⊎_elim (λ u. encoded_same (place + 23) q content h.encoded h'.encoded o23 (omega arith))
      (λ o366. ⊎_elim (λ u. part_same (place + 366) q epilogue h.data_end h'.data_end o366 (omega arith))
      (λ o369. gap_same (place + 369) q 27 h.gap_after h'.gap_after o369 (omega arith))
      (cases_lt q (place + 369))) (cases_lt q (place + 366))) (cases_lt q (place + 23))) (cases_lt q (place + 20)))
      (cases_lt q (place + 14))) (cases_lt q (place + 11))

  module _ (volume track : ℕ) (sectors : List (List ℕ)) (sixteen : length sectors ≡ 16)
      (h : IsMadeTrack a volume track sectors) (h' : IsMadeTrack b volume track sectors) where
    byte_same : (q : ℕ) → q < 6656 → nibble_at a q ≡ nibble_at b q
    byte_same q l = ⊎_elim
        (λ before. gap_same 0 q 48 h.before h'.before (omega arith) before)
        (λ o48. ⊎_elim
        (λ inside.
        let s = (q - 48) / 396 in
        let is = slice_get-get_or sectors ((q - 48) / 396) [] (omega arith) in
        sector_same (48 + 396 * ((q - 48) / 396)) volume track ((q - 48) / 396) _ (h.sector_at ((q - 48) / 396) _ is)
        (h'.sector_at ((q - 48) / 396) _ is) q (omega arith) (omega arith))
        (λ after. gap_same 6384 q 272 h.after h'.after after (omega arith))
        (cases_lt q 6384))
        (cases_lt q 48)

    pub one_made_track : length a ≡ 6656 → length b ≡ 6656 → a ≡ b
    one_made_track long long' = same_lists a b (long ∙ sym long') (λ i d l.
        get_or_default a i d 0 l ∙ sym (nibble_at-place a i i (omega arith)) ∙ byte_same i (omega arith)
        ∙ nibble_at-place b i i (omega arith) ∙ get_or_default b i 0 d (omega arith))
