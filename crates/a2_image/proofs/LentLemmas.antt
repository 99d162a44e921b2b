-- What is left in a lent sector.
use Rattle.std.proofs.Common.{◌≡◌, ◌≢◌, ℕ, ◌+◌, ◌*◌, ◌≤◌, Bool, true, false, List, ◌++◌, length, take, drop, Some, refl, sym, ◌∙◌, ap, subst, arith, length-drop, length-append}
use Rattle.std.specs.Prelude.{Option, nat_lt, ◌==◌, ◌&&◌, slice_range}
use Rattle.std.proofs.Math.Seq.{take-append_seam, take-length}
use Rattle.std.proofs.lemmas.List.{take-append-le, length-take-le}
use Rattle.std.proofs.lemmas.Bool.Decides.{nat_tests}
use Rattle.a2_nibble.specs.declared.search.Field.{Field}
use Rattle.a2_device.specs.declared.order.Order.{Order}
use Rattle.a2_device.specs.declared.order.Order.TheVariants.{Dos, Prodos, Nibble}
use Rattle.a2_device.specs.Order.{blocks_of}
use Rattle.a2_image.specs.Image.{DiskImage, CanLend, block_count, sector_in, sectors_by}
use Rattle.a2_image.specs.Kept.{IsKept, kept_bytes}
use Rattle.a2_image.specs.Lending.{is_plain, is_lent, sector_offset, lent_range, written, with_bytes, with_lent}
use Rattle.a2_image.proofs.ImageLemmas.{kept_image, kept-plain, length_of_disk}
use Rattle.a2_image.proofs.KeptByteLemmas.{kept_bytes-plain}
use Rattle.a2_image.proofs.Sectors.{sector_in-sectors_by}
use Rattle.a2_image.proofs.Skews.{number_fits}

all_four : (a b c d : Bool) → (a && b && c && d) ≡ true → (a ≡ true) × (b ≡ true) × (c ≡ true) × (d ≡ true)
all_four true true true true is = (refl, refl, refl, refl)
all_four true true true false is = absurd (cc)
all_four true true false d is = absurd (cc)
all_four true false c d is = absurd (cc)
all_four false b c d is = absurd (cc)

not_nibble : (order : Order) → is_plain order ≡ true → order ≢ Nibble
not_nibble Dos is e = cc
not_nibble Prodos is e = cc
not_nibble Nibble is e = absurd (cc)

plain_order : (order : Order) → order ≢ Nibble → is_plain order ≡ true
plain_order Dos plain = refl
plain_order Prodos plain = refl
plain_order Nibble plain = absurd (plain refl)

pub lends : (image : DiskImage) (track sector : ℕ) → is_lent image track sector ≡ true → CanLend image track sector
lends image track sector is =
    let all = all_four (is_plain image.order) (nat_lt track 35) (nat_lt sector 16) (block_count image == 280) is in
    let low = all.1 in
    let fits = all.2 in
    let disk = all.3 in
    record {
      plain = not_nibble image.order all.0;
      track_fits = grind (arith, nat_tests);
      sector_fits = grind (arith, nat_tests);
      disk = grind (arith, nat_tests);
    }

pub lent_where : (image : DiskImage) (track sector : ℕ) → CanLend image track sector → is_lent image track sector ≡ true
lent_where image track sector can = four (plain_order image.order can.plain) low fits disk
  where
    low : nat_lt track 35 ≡ true
    low = let h = can.track_fits in grind (arith, nat_tests)

    fits : nat_lt sector 16 ≡ true
    fits = let h = can.sector_fits in grind (arith, nat_tests)

    disk : (block_count image == 280) ≡ true
    disk = let h = can.disk in grind (arith, nat_tests)

    four : {a b c d : Bool} → a ≡ true → b ≡ true → c ≡ true → d ≡ true → (a && b && c && d) ≡ true
    four {a} {b} {c} {d} p q r s = cc

-- the bytes with others over them, as a vector has them
unfoldable over : List ℕ → ℕ → List ℕ → List ℕ
over bytes at content = take at bytes ++ (content ++ drop (length content) (drop at bytes))

over_long : (bytes : List ℕ) (at : ℕ) (content : List ℕ) → at ≤ length bytes → length bytes ≤ length (over bytes at content)
unfolding over
over_long bytes at content within =
    omega (
      arith,
      within,
      length-append (take at bytes) (content ++ drop (length content) (drop at bytes)),
      length-append content (drop (length content) (drop at bytes)),
      length-take-le at bytes within,
      length-drop (length content) (drop at bytes),
      length-drop at bytes,
    )

refilled : (bytes : List ℕ) (at : ℕ) (content : List ℕ) (count : ℕ) → count ≡ length bytes → at ≤ length bytes
    → take count (over bytes at content ++ drop (length (over bytes at content)) bytes) ≡ written bytes at content
unfolding written over
refilled bytes at content count whole within =
    take-append-le count (over bytes at content) (drop (length (over bytes at content)) bytes) (omega (arith, whole, over_long bytes at content within))
    ∙ ap (λ n. take n (over bytes at content)) whole

pub length-written : (bytes : List ℕ) (at : ℕ) (content : List ℕ) → at ≤ length bytes → length (written bytes at content) ≡ length bytes
unfolding written over
length-written bytes at content within = length-take-le (length bytes) (over bytes at content) (over_long bytes at content within)

written_at_end : (bytes content : List ℕ) → written bytes (length bytes) content ≡ bytes
unfolding written
written_at_end bytes content =
    ap (λ front. take (length bytes) (front ++ (content ++ drop (length content) (drop (length bytes) bytes)))) (take-length bytes)
    ∙ take-append_seam bytes (content ++ drop (length content) (drop (length bytes) bytes))

-- the view of an image of which a vector's bytes came to be these, from where it was lent on
module _ (order : Order) (bytes : List ℕ) (fields : List (Option Field)) (kept : IsKept order bytes fields) (track sector : ℕ) where
  pub inside : CanLend (kept_image order bytes fields) track sector → sector_offset order track sector + 256 ≤ length bytes
  inside can =
      let whole = length_of_disk order bytes can.plain kept.long can.disk in
      let low = can.track_fits in
      let fits = can.sector_fits in
      omega (arith, whole, number_fits order (16 * track + sector) (omega (arith, low, fits)))

  written_sectors : (content : List ℕ) → CanLend (kept_image order bytes fields) track sector
      → kept_image order (written bytes (sector_offset order track sector) content) fields
      ≡ with_bytes (kept_image order bytes fields) (written bytes (sector_offset order track sector) content)
  written_sectors content can =
      let same = length-written bytes (sector_offset order track sector) content (omega (arith, inside can)) in
      let new = written bytes (sector_offset order track sector) content in
      ap (λ all. record { order = order; bytes = new; sectors = all; kept = kept_bytes order new fields })
      (kept-plain order new fields can.plain (ap (blocks_of order) same ∙ can.disk))
      ∙ ap (λ kept'. record { order = order; bytes = new; sectors = sectors_by order new; kept = kept' }) (kept_bytes-plain order bytes new fields can.plain same)

  view_at : (lent : Bool) → is_lent (kept_image order bytes fields) track sector ≡ lent → (content : List ℕ) (count : ℕ) → count ≡ length bytes
      → kept_image order
      (take count (over bytes (lent_range (kept_image order bytes fields) track sector).0 content
      ++ drop (length (over bytes (lent_range (kept_image order bytes fields) track sector).0 content)) bytes)) fields
      ≡ with_lent (kept_image order bytes fields) track sector content
  view_at true test content count whole =
      let can = lends (kept_image order bytes fields) track sector test in
      rw test
      (ap (λ b. kept_image order b fields) (refilled bytes (sector_offset order track sector) content count whole (omega (arith, inside can)))
      ∙ written_sectors content can)
  view_at false test content count whole =
      rw test
      (ap (λ b. kept_image order b fields) (refilled bytes (length bytes) content count whole (omega arith) ∙ written_at_end bytes content))

-- what was lent of an image, by the range
module _ (image : DiskImage) (order : Order) (bytes : List ℕ) (fields : List (Option Field)) (is : kept_image order bytes fields ≡ image)
    (kept : IsKept order bytes fields) (track sector : ℕ) (range : ℕ × ℕ) (of : range ≡ lent_range (kept_image order bytes fields) track sector) where
  pub view_left : (content : List ℕ) (count : ℕ) → count ≡ length bytes
      → kept_image order
      (take count ((take range.0 bytes ++ (content ++ drop (length content) (drop range.0 bytes)))
      ++ drop (length (take range.0 bytes ++ (content ++ drop (length content) (drop range.0 bytes)))) bytes)) fields
      ≡ with_lent image track sector content
  unfolding over
  view_left content count whole =
      subst (λ i. kept_image order
      (take count ((take range.0 bytes ++ (content ++ drop (length content) (drop range.0 bytes)))
      ++ drop (length (take range.0 bytes ++ (content ++ drop (length content) (drop range.0 bytes)))) bytes)) fields
      ≡ with_lent i track sector content) is
      (rw of (view_at order bytes fields kept track sector (is_lent (kept_image order bytes fields) track sector) refl content count whole))

  here : CanLend image track sector → CanLend (kept_image order bytes fields) track sector
  here = subst (λ i. CanLend i track sector) (sym is)

  pub begins : CanLend image track sector → range.0 ≡ sector_offset order track sector
  begins can = ap (λ r. r.0) of ∙ at (lent_where (kept_image order bytes fields) track sector (here can))
    where
      at : is_lent (kept_image order bytes fields) track sector ≡ true → (lent_range (kept_image order bytes fields) track sector).0 ≡ sector_offset order track sector
      at test = rw test refl

  pub ends : CanLend image track sector → range.1 ≡ sector_offset order track sector + 256
  ends can = ap (λ r. r.1) of ∙ at (lent_where (kept_image order bytes fields) track sector (here can))
    where
      at : is_lent (kept_image order bytes fields) track sector ≡ true → (lent_range (kept_image order bytes fields) track sector).1 ≡ sector_offset order track sector + 256
      at test = rw test refl

  pub sector_lent : CanLend image track sector → sector_in image.sectors track sector ≡ Some (slice_range bytes range.0 range.1)
  sector_lent can =
      ap (λ all. sector_in all track sector) (ap (λ (i : DiskImage). i.sectors) (sym is) ∙ kept-plain order bytes fields (here can).plain (here can).disk)
      ∙ sector_in-sectors_by order bytes track sector can.track_fits can.sector_fits
      ∙ ap (λ a. Some (slice_range bytes a (a + 256))) (sym (begins can))
      ∙ ap (λ b. Some (slice_range bytes range.0 b)) (ap (λ a. a + 256) (begins can) ∙ sym (ends can))

  pub nothing_lent : (CanLend image track sector → ⊥) → range.1 ≡ range.0
  nothing_lent cannot = by_test (is_lent (kept_image order bytes fields) track sector) refl
    where
      by_test : (lent : Bool) → is_lent (kept_image order bytes fields) track sector ≡ lent → range.1 ≡ range.0
      by_test true test = absurd (cannot (subst (λ i. CanLend i track sector) is (lends (kept_image order bytes fields) track sector test)))
      by_test false test = ap (λ r. r.1) of ∙ last test ∙ sym (ap (λ r. r.0) of ∙ first test)
        where
          last : is_lent (kept_image order bytes fields) track sector ≡ false → (lent_range (kept_image order bytes fields) track sector).1 ≡ length bytes
          last at = rw at refl

          first : is_lent (kept_image order bytes fields) track sector ≡ false → (lent_range (kept_image order bytes fields) track sector).0 ≡ length bytes
          first at = rw at refl
