-- Files that are as long, and have the same bytes up to byte 52, are the same container.
use Rattle.std.proofs.Common.{◌≡◌, ℕ, ◌+◌, ◌-◌, ◌<◌, ◌≤◌, ◌⊎◌, List, ◌++◌, drop, get_or, length, take, arith, sym}
use Rattle.std.proofs.Common.{ap, ◌∙◌, subst, inl, inr, append_assoc, length-append}
use Rattle.std.specs.Prelude.{codes, nat_eq, slice_range}
use Rattle.std.proofs.lemmas.List.{drop-drop, get_or-take, length-drop, length-take-le, take-append-drop, take-append-le}
use Rattle.std.proofs.lemmas.List.{take-take}
use Rattle.std.specs.Cmp.Lexicographic.{pointwise}
use Rattle.std.specs.List.{starts_with}
use Rattle.disk_container.specs.declared.container.Container.{Container}
use Rattle.disk_container.specs.declared.header.Header.{Header}
use Rattle.disk_container.specs.Container.{HasHeader, HasParts, HoldsData, IsContainer, IsOfOrder}
use Rattle.disk_container.specs.Format.{four_at, header_of, image_size, is_protected, two_at}
use Rattle.disk_container.specs.Format.{volume_of}
use Rattle.a2_device.specs.Order.{IsImageLength}

-- ---- the same header

abbrev made : ℕ → ℕ → ℕ → ℕ → ℕ → ℕ → Header
made size format flags blocks data_start data_size = record {
  size = size;
  format = format;
  flags = flags;
  blocks = blocks;
  data_start = data_start;
  data_size = data_size;
}

module _ (old new : List ℕ) (alike : take 52 old ≡ take 52 new) where
  same_at : (k : ℕ) → k < 52 → get_or old k 0 ≡ get_or new k 0
  same_at k within =
      sym (get_or-take 52 old k 0 within) ∙ ap (λ s. get_or s k 0) alike ∙ get_or-take 52 new k 0 within

  same_two : (at : ℕ) → at + 2 ≤ 52 → two_at old at ≡ two_at new at
  same_two at within =
      let first = same_at at (omega arith) in
      let second = same_at (at + 1) (omega arith) in
      omega (arith, first, second)

  same_four : (at : ℕ) → at + 4 ≤ 52 → four_at old at ≡ four_at new at
  same_four at within =
      let first = same_at at (omega arith) in
      let second = same_at (at + 1) (omega arith) in
      let third = same_at (at + 2) (omega arith) in
      let fourth = same_at (at + 3) (omega arith) in
      omega (arith, first, second, third, fourth)

  same_header : header_of old ≡ header_of new
  same_header =
      ap (λ n. made n (four_at old 0x0c) (four_at old 0x10) (four_at old 0x14) (four_at old 0x18) (four_at old 0x1c))
      (same_two 0x08 (omega arith))
      ∙ ap (λ n. made (two_at new 0x08) n (four_at old 0x10) (four_at old 0x14) (four_at old 0x18) (four_at old 0x1c))
      (same_four 0x0c (omega arith))
      ∙ ap (λ n. made (two_at new 0x08) (four_at new 0x0c) n (four_at old 0x14) (four_at old 0x18) (four_at old 0x1c))
      (same_four 0x10 (omega arith))
      ∙ ap (λ n. made (two_at new 0x08) (four_at new 0x0c) (four_at new 0x10) n (four_at old 0x18) (four_at old 0x1c))
      (same_four 0x14 (omega arith))
      ∙ ap (λ n. made (two_at new 0x08) (four_at new 0x0c) (four_at new 0x10) (four_at new 0x14) n (four_at old 0x1c))
      (same_four 0x18 (omega arith))
      ∙ ap (λ n. made (two_at new 0x08) (four_at new 0x0c) (four_at new 0x10) (four_at new 0x14) (four_at new 0x18) n)
      (same_four 0x1c (omega arith))

  same_front : take 4 old ≡ take 4 new
  same_front =
      sym (take-take 4 52 old (omega arith)) ∙ ap (λ s. take 4 s) alike ∙ take-take 4 52 new (omega arith)

  same_begin : starts_with nat_eq old (codes "2IMG") ≡ starts_with nat_eq new (codes "2IMG")
  same_begin = ap (λ s. pointwise nat_eq (codes "2IMG") s) same_front

  module _ (as_long : length old ≡ length new) where
    same_start : HasHeader old → HasHeader new
    same_start has = record {
      begins = sym same_begin ∙ has.begins;
      not_long = omega (arith, as_long, has.not_long);
      sized = subst (λ (h : Header). (h.size ≡ 52) ⊎ (h.size ≡ 64)) same_header has.sized;
      whole = subst (λ (h : Header). h.size ≤ length new) same_header
          (subst (λ n. (header_of old).size ≤ n) as_long has.whole);
    }

    same_container : (c : Container) → IsContainer old c → IsContainer new c
    same_container c is = record {
      header = same_start is.header;
      order = subst (λ (h : Header). IsOfOrder h c.order) same_header is.order;
      holds = subst (λ (h : Header). HoldsData h c.order (length new)) same_header
          (subst (λ n. HoldsData (header_of old) c.order n) as_long is.holds);
      image = subst (λ (h : Header). IsImageLength c.order (image_size c.order h)) same_header is.image;
      protection = is.protection ∙ ap (λ (h : Header). is_protected h.flags) same_header;
      volume = is.volume ∙ ap (λ (h : Header). volume_of h.flags) same_header;
      start = is.start ∙ ap (λ (h : Header). h.data_start) same_header;
      size = is.size ∙ ap (λ (h : Header). image_size c.order h) same_header;
    }

-- ---- another payload

-- a payload begins behind byte 52
least_start : (bytes : List ℕ) (c : Container) → IsContainer bytes c → 52 ≤ c.start
least_start bytes c is = elim is.header.sized [
  | inl old ↦ omega (arith, old, is.holds.behind, is.start)
  | inr new ↦ omega (arith, new, is.holds.behind, is.start)
]

module _ (front payload back : List ℕ) (enough : 52 ≤ length front) where
  front_of : take 52 (front ++ payload ++ back) ≡ take 52 front
  front_of =
      let more : 52 ≤ length (front ++ payload) = omega (arith, length-append front payload) in
      take-append-le 52 (front ++ payload) back more ∙ take-append-le 52 front payload enough

pub put : (front payload back other : List ℕ) (c : Container) → IsContainer (front ++ payload ++ back) c
    → HasParts (front ++ payload ++ back) c front payload back → length other ≡ length payload
    → IsContainer (front ++ other ++ back) c
put front payload back other c is parts as_long =
    let enough : 52 ≤ length front = omega (arith, parts.front_size, least_start (front ++ payload ++ back) c is) in
    same_container (front ++ payload ++ back) (front ++ other ++ back)
    (front_of front payload back enough ∙ sym (front_of front other back enough))
    (omega (
      arith,
      as_long,
      length-append (front ++ payload) back,
      length-append front payload,
      length-append (front ++ other) back,
      length-append front other,
    ))
    c is

-- ---- the parts

split : (bytes : List ℕ) (n m : ℕ) → bytes ≡ take n bytes ++ slice_range bytes n (n + m) ++ drop (n + m) bytes
split bytes n m =
    let size : n + m - n ≡ m = omega arith in
    sym (take-append-drop n bytes)
    ∙ ap (λ s. take n bytes ++ s)
    (sym (take-append-drop m (drop n bytes)) ∙ ap (λ s. take m (drop n bytes) ++ s) (drop-drop m n bytes))
    ∙ sym (append_assoc (take n bytes) (take m (drop n bytes)) (drop (n + m) bytes))
    ∙ ap (λ k. take n bytes ++ take k (drop n bytes) ++ drop (n + m) bytes) (sym size)

-- the payload lies inside the file
ends_inside : (bytes : List ℕ) (c : Container) → IsContainer bytes c → c.start + c.size ≤ length bytes
ends_inside bytes c is = omega (arith, is.start, is.size, is.holds.inside)

pub in_parts : (bytes : List ℕ) (c : Container) → IsContainer bytes c
    → HasParts bytes c (take c.start bytes) (slice_range bytes c.start (c.start + c.size)) (drop (c.start + c.size) bytes)
in_parts bytes c is =
    let inside = ends_inside bytes c is in
    let size : c.start + c.size - c.start ≡ c.size = omega arith in
    let rest : c.size ≤ length (drop c.start bytes) = omega (arith, length-drop c.start bytes) in
    record {
      joined = split bytes c.start c.size;
      front_size = length-take-le c.start bytes (omega arith);
      payload_size = ap (λ k. length (take k (drop c.start bytes))) size
          ∙ length-take-le c.size (drop c.start bytes) rest;
    }
