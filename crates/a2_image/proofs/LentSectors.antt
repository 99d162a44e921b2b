-- Of what is left in a lent sector, one sector is another.
use Rattle.std.proofs.Common.{◌≡◌, ◌⊎◌, ℕ, ◌+◌, ◌*◌, ◌-◌, ◌<◌, ◌≤◌, Bool, true, false, List, [], ◌++◌, length, take, drop, Some, refl, sym, ◌∙◌, ap, arith, length-drop, length-append, ⊎_elim, inl, inr}
use Rattle.std.specs.Prelude.{◌==◌, slice_range, slice_set}
use Rattle.std.proofs.Math.Seq.{take-append_seam, drop-append_seam}
use Rattle.std.proofs.lemmas.List.{drop-drop, length-take-le, take_all}
use Rattle.std.proofs.lemmas.Bool.{cases_order}
use Rattle.a2_device.specs.declared.order.Order.{Order}
use Rattle.a2_device.specs.Order.{IsImageLength}
use Rattle.a2_image.specs.Image.{DiskImage, CanLend, HoldsSectors, number_in, sectors_by}
use Rattle.a2_image.specs.Lending.{is_lent, sector_offset, written, with_lent}
use Rattle.a2_image.proofs.ImageLemmas.{length_of_disk, holds_plain}
use Rattle.a2_image.proofs.LentLemmas.{lends, lent_where, length-written}
use Rattle.a2_image.proofs.PartLemmas.{part_kept}
use Rattle.a2_image.proofs.Sectors.{sectors_by-replaced}
use Rattle.a2_image.proofs.Skews.{number_fits}

module _ (bytes : List ℕ) (at : ℕ) (content : List ℕ) (fits : at + length content ≤ length bytes) where
  -- where there is room for all of it
  whole : written bytes at content ≡ take at bytes ++ (content ++ drop (length content) (drop at bytes))
  unfolding written
  whole = take_all (length bytes) (take at bytes ++ (content ++ drop (length content) (drop at bytes)))
      (omega (
        arith,
        fits,
        length-append (take at bytes) (content ++ drop (length content) (drop at bytes)),
        length-append content (drop (length content) (drop at bytes)),
        length-take-le at bytes (omega (arith, fits)),
        length-drop (length content) (drop at bytes),
        length-drop at bytes,
      ))

  front_long : length (take at bytes) ≡ at
  front_long = length-take-le at bytes (omega (arith, fits))

  same_front : take at (written bytes at content) ≡ take at bytes
  same_front =
      ap (take at) whole
      ∙ ap (λ n. take n (take at bytes ++ (content ++ drop (length content) (drop at bytes)))) (sym front_long)
      ∙ take-append_seam (take at bytes) (content ++ drop (length content) (drop at bytes))

  behind : drop at (written bytes at content) ≡ content ++ drop (length content) (drop at bytes)
  behind =
      ap (drop at) whole
      ∙ ap (λ n. drop n (take at bytes ++ (content ++ drop (length content) (drop at bytes)))) (sym front_long)
      ∙ drop-append_seam (take at bytes) (content ++ drop (length content) (drop at bytes))

  same_rest : drop (at + length content) (written bytes at content) ≡ drop (at + length content) bytes
  same_rest =
      sym (drop-drop (length content) at (written bytes at content))
      ∙ ap (drop (length content)) behind
      ∙ drop-append_seam content (drop (length content) (drop at bytes))
      ∙ drop-drop (length content) at bytes

  pub written_here : slice_range (written bytes at content) at (at + length content) ≡ content
  written_here =
      let count : at + length content - at ≡ length content = omega arith in
      ap (λ n. take n (drop at (written bytes at content))) count
      ∙ ap (take (length content)) behind
      ∙ take-append_seam content (drop (length content) (drop at bytes))

  pub written_elsewhere : (from till : ℕ) → from ≤ till → (till ≤ at) ⊎ (at + length content ≤ from)
      → slice_range (written bytes at content) from till ≡ slice_range bytes from till
  written_elsewhere from till order apart = part_kept bytes (written bytes at content) at (at + length content) from till order same_front same_rest apart

-- one sector of a disk is written over
sectors-written : (order : Order) (bytes : List ℕ) (n : ℕ) (content : List ℕ) → n < 560 → length bytes ≡ 143360 → length content ≡ 256
    → sectors_by order (written bytes (256 * number_in order n) content) ≡ slice_set (sectors_by order bytes) n (Some content)
sectors-written order bytes n content within disk long =
    let fits : 256 * number_in order n + length content ≤ length bytes = omega (arith, disk, long, number_fits order n within) in
    let size : 256 * number_in order n + 256 ≡ 256 * number_in order n + length content = omega (arith, long) in
    sectors_by-replaced order bytes (written bytes (256 * number_in order n) content) n content within
    (ap (slice_range (written bytes (256 * number_in order n) content) (256 * number_in order n)) size ∙ written_here bytes (256 * number_in order n) content fits)
    (λ other differ. written_elsewhere bytes (256 * number_in order n) content fits (256 * other) (256 * other + 256) (omega arith)
    (⊎_elim
    (λ same. absurd (differ same))
    (λ apart. ⊎_elim (λ less. inl (omega (arith, less))) (λ more. inr (omega (arith, more, long))) apart)
    (cases_order other (number_in order n))))

pub lent_is_one : (image : DiskImage) (track sector : ℕ) (content : List ℕ) → IsImageLength image.order (length image.bytes)
    → HoldsSectors image.order image.bytes image.sectors → CanLend image track sector → length content ≡ 256
    → (with_lent image track sector content).sectors ≡ slice_set image.sectors (16 * track + sector) (Some content)
lent_is_one image track sector content measured holds can long =
    let low = can.track_fits in
    let fits = can.sector_fits in
    let disk = length_of_disk image.order image.bytes can.plain measured can.disk in
    rw (lent_where image track sector can)
    (sectors-written image.order image.bytes (16 * track + sector) content (omega (arith, low, fits)) disk long
    ∙ ap (λ all. slice_set all (16 * track + sector) (Some content)) (sym (holds_plain image.order image.bytes image.sectors can.plain can.disk holds)))

-- a sector of which a byte is lent is lent
pub some_byte_lent : (image : DiskImage) (track sector : ℕ) (lent : List ℕ) → ((CanLend image track sector → ⊥) → lent ≡ []) → (length lent == 0) ≡ false → CanLend image track sector
some_byte_lent image track sector lent none some = by_test (is_lent image track sector) refl
  where
    by_test : (test : Bool) → is_lent image track sector ≡ test → CanLend image track sector
    by_test true is = lends image track sector is
    by_test false is =
        let empty = none (λ can. let yes = lent_where image track sector can in cc) in
        let test : true ≡ false = ap (λ (xs : List ℕ). length xs == 0) (sym empty) ∙ some in
        absurd (cc)

-- what is left in a lent sector leaves as many bytes as there were
pub lent_long : (image : DiskImage) (track sector : ℕ) (content : List ℕ) → IsImageLength image.order (length image.bytes) → CanLend image track sector
    → length (with_lent image track sector content).bytes ≡ length image.bytes
lent_long image track sector content measured can =
    let low = can.track_fits in
    let fits = can.sector_fits in
    let disk = length_of_disk image.order image.bytes can.plain measured can.disk in
    rw (lent_where image track sector can)
    (length-written image.bytes (sector_offset image.order track sector) content
    (omega (arith, disk, number_fits image.order (16 * track + sector) (omega (arith, low, fits)))))
