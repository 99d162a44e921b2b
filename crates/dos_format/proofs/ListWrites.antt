-- The unit of a list, written pair by pair.
use Rattle.std.specs.Prelude.{◌≡◌, ◌≢◌, ◌<◌, ◌≤◌, ℕ, ◌+◌, ◌*◌, ◌/◌, ◌%◌, List, length, slice_index, replicate}
use Rattle.std.proofs.Common.{sym, ◌∙◌, ap, subst, arith, inl, inr}
use Rattle.std.proofs.lemmas.Bool.{cases_eq, cases_lt}
use Rattle.std.proofs.lemmas.List.{get_or-replicate}
use Rattle.a2_device.specs.declared.part.Part.{Part}
use Rattle.dos_catalog.specs.Writes.{with_place}
use Rattle.dos_tslist.specs.Pointers.{pair_offset, link_offset}
use Rattle.dos_format.specs.lemmas.DosBytes.{byte-with_place_other, track-with_place, sector-with_place}
use Rattle.vol_laws.specs.Built.{Planned, part_of, place_of}
use Rattle.dos_format.specs.Plan.{NamesAt, HasPairs, HasLink, HaveSameParts}

module _ (count : ℕ) (planned : List Planned) (n : ℕ) where
  -- a unit of zeros has no pair
  pub pairs_start : HasPairs count planned n count (replicate 256 0)
  pairs_start = record {
    pairs = λ i below. inl (get_or-replicate 256 (pair_offset i) 0 0 (omega (arith, below)));
    each = λ m high low. absurd (omega (arith, high, low));
  }

  module _ (upto : ℕ) (unit : List ℕ) (has : HasPairs count planned n upto unit) where
    -- the next parts are other lists'
    pub pairs_skip : (later : ℕ) → upto ≤ later → ((m : ℕ) → upto ≤ m → m < later → (part_of planned m).number / 122 ≢ n) → HasPairs count planned n later unit
    pairs_skip later further others = record {
      pairs = λ i below. elim (has.pairs i below) [
        | inl none ↦ inl none
        | inr found ↦ inr (found.0, found.1, omega (arith, found.2, further), found.3, found.4)
      ];
      each = λ m high low of. elim (cases_lt m upto) [
        | inl before ↦ has.each m high before of
        | inr behind ↦ absurd (others m (omega (arith, behind)) low of)
      ];
    }

    -- the link written leaves the pairs
    pub pairs_stay : (place : ℕ) → HasPairs count planned n upto (with_place link_offset place unit)
    pairs_stay place = record {
      pairs = λ i below. elim (has.pairs i below) [
        | inl none ↦ inl (stays (pair_offset i) (omega arith) ∙ none)
        | inr found ↦ inr (found.0, found.1, found.2, found.3, (stays (pair_offset i) (omega arith) ∙ found.4.0, stays (pair_offset i + 1) (omega arith) ∙ found.4.1))
      ];
      each = λ m high low of.
          let names = has.each m high low of in
          (stays (pair_offset ((part_of planned m).number % 122)) (omega arith) ∙ names.0, stays (pair_offset ((part_of planned m).number % 122) + 1) (omega arith) ∙ names.1);
    }
      where
        stays : (byte : ℕ) → 12 ≤ byte → slice_index (with_place link_offset place unit) byte ≡ slice_index unit byte
        stays byte behind = byte-with_place_other link_offset place unit byte (λ e. omega (arith, e, behind)) (λ e. omega (arith, e, behind))

    -- the next part is this list's: its pair is written
    module _ (whole : length unit ≡ 256) (high : count ≤ upto) (of : (part_of planned upto).number / 122 ≡ n)
        (once : (m : ℕ) → count ≤ m → m < upto → (part_of planned m).number ≢ (part_of planned upto).number) where
      abbrev slot : ℕ
      slot = (part_of planned upto).number % 122

      abbrev new : List ℕ
      new = with_place (pair_offset slot) (place_of planned upto) unit

      slot_below : slot < 122
      slot_below = omega arith

      here : NamesAt new (pair_offset slot) (place_of planned upto)
      here = (
        track-with_place (pair_offset slot) (place_of planned upto) unit (omega (arith, whole, slot_below)),
        sector-with_place (pair_offset slot) (place_of planned upto) unit (omega (arith, whole, slot_below)),
      )

      track_stays : (i : ℕ) → i ≢ slot → slice_index new (pair_offset i) ≡ slice_index unit (pair_offset i)
      track_stays i apart = byte-with_place_other (pair_offset slot) (place_of planned upto) unit (pair_offset i) (λ e. apart (omega (arith, e))) (λ e. omega (arith, e))

      sector_stays : (i : ℕ) → i ≢ slot → slice_index new (pair_offset i + 1) ≡ slice_index unit (pair_offset i + 1)
      sector_stays i apart = byte-with_place_other (pair_offset slot) (place_of planned upto) unit (pair_offset i + 1) (λ e. omega (arith, e)) (λ e. apart (omega (arith, e)))

      pub pairs_step : HasPairs count planned n (upto + 1) new
      pairs_step = record {
        pairs = λ i below. elim (cases_eq i slot) [
          | inl same ↦
              let whole_number : (part_of planned upto).number ≡ 122 * n + i = omega (arith, of, same) in
              inr (upto, high, omega arith, whole_number, subst (λ p. NamesAt new (pair_offset p) (place_of planned upto)) (sym same) here)
          | inr apart ↦ elim (has.pairs i below) [
            | inl none ↦ inl (track_stays i apart ∙ none)
            | inr found ↦ inr (found.0, found.1, omega (arith, found.2), found.3, (track_stays i apart ∙ found.4.0, sector_stays i apart ∙ found.4.1))
          ]
        ];
        each = λ m low_m below_m of_m. elim (cases_eq m upto) [
          | inl same ↦ subst (λ k. NamesAt new (pair_offset ((part_of planned k).number % 122)) (place_of planned k)) (sym same) here
          | inr before ↦
              let earlier : m < upto = omega (arith, below_m, before) in
              let other = once m low_m earlier in
              let apart : (part_of planned m).number % 122 ≢ slot = λ e. other (omega (arith, e, of, of_m)) in
              let names = has.each m low_m earlier of_m in
              (track_stays ((part_of planned m).number % 122) apart ∙ names.0, sector_stays ((part_of planned m).number % 122) apart ∙ names.1)
        ];
      }

  -- the link written
  pub link_step : (unit : List ℕ) → length unit ≡ 256 → n + 1 < count → HasLink count planned n (with_place link_offset (place_of planned (n + 1)) unit)
  link_step unit whole more = record {
    next = λ again. (track-with_place 1 (place_of planned (n + 1)) unit (omega (arith, whole)), sector-with_place 1 (place_of planned (n + 1)) unit (omega (arith, whole)));
    last = λ end. absurd (omega (arith, end, more));
  }

  -- the last list has none
  pub link_none : n + 1 ≡ count → HasLink count planned n (replicate 256 0)
  link_none end = record { next = λ more. absurd (omega (arith, end, more)); last = λ again. get_or-replicate 256 1 0 0 (omega arith) }

  -- a pair written leaves the link
  pub link_stays : (unit : List ℕ) (slot place : ℕ) → HasLink count planned n unit → HasLink count planned n (with_place (pair_offset slot) place unit)
  link_stays unit slot place has = record {
    next = λ more. (
      byte-with_place_other (pair_offset slot) place unit 1 (λ e. omega (arith, e)) (λ e. omega (arith, e)) ∙ (has.next more).0,
      byte-with_place_other (pair_offset slot) place unit 2 (λ e. omega (arith, e)) (λ e. omega (arith, e)) ∙ (has.next more).1,
    );
    last = λ end. byte-with_place_other (pair_offset slot) place unit 1 (λ e. omega (arith, e)) (λ e. omega (arith, e)) ∙ has.last end;
  }

-- what is said of a list's unit is said of the parts alone
module _ (count : ℕ) (planned other : List Planned) (same : HaveSameParts planned other) (n : ℕ) (unit : List ℕ) where
  place_same : (k : ℕ) → place_of other k ≡ place_of planned k
  place_same k = ap (λ (part : Part). part.place) (same k)

  number_same : (k : ℕ) → (part_of other k).number ≡ (part_of planned k).number
  number_same k = ap (λ (part : Part). part.number) (same k)

  pub pairs_same : (upto : ℕ) → HasPairs count planned n upto unit → HasPairs count other n upto unit
  pairs_same upto has = record {
    pairs = λ i below. elim (has.pairs i below) [
      | inl none ↦ inl none
      | inr found ↦ inr (found.0, found.1, found.2, number_same found.0 ∙ found.3, subst (NamesAt unit (pair_offset i)) (sym (place_same found.0)) found.4)
    ];
    each = λ m high low of. subst (λ (part : Part). NamesAt unit (pair_offset (part.number % 122)) part.place) (sym (same m))
        (has.each m high low (ap (λ k. k / 122) (sym (number_same m)) ∙ of));
  }

  pub link_same : HasLink count planned n unit → HasLink count other n unit
  link_same has = record {
    next = λ more. subst (NamesAt unit link_offset) (sym (place_same (n + 1))) (has.next more);
    last = has.last;
  }
