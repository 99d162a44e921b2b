-- One sector of an image and the others.
use Rattle.std.proofs.Common.{◌≡◌, ◌≢◌, ℕ, ◌+◌, ◌*◌, ◌<◌, ◌≤◌, Bool, true, List, length, map, set, get_or, Some, None, refl, sym, ◌∙◌, ap, subst, arith, length-set, length-take, length-drop, inl, inr}
use Rattle.std.specs.Prelude.{Option, unwrap_or, ◌⊎◌, ◌==◌, false}
use Rattle.std.specs.List.{range_with_len}
use Rattle.std.proofs.lemmas.Bool.{cases_lt}
use Rattle.std.proofs.lemmas.Bool.Decides.{nat_tests}
use Rattle.std.proofs.lemmas.List.{get_or_past, get_or-set_same, get_or-set_other}
use Rattle.std.proofs.lemmas.List.FromFn.{length-map-range_with_len, get_or-map-range_with_len, fill_by_all}
use Rattle.a2_device.specs.declared.order.Order.{Order}
use Rattle.a2_image.specs.Image.{IsDisk, sectors_by, sector_in, content_or_zeros, zeros, bytes_of_sector, number_in}
use Rattle.a2_image.proofs.Skews.{number_once, number_fits}

-- a list of n members by a function, of which one is written over
pub map_set : {X : Type 0} (was now : ℕ → X) (count n : ℕ) (x d : X) → n < count → now n ≡ x
    → ((k : ℕ) → k < count → k ≢ n → now k ≡ was k) → map now (range_with_len 0 count) ≡ set (map was (range_with_len 0 count)) n x
map_set was now count n x d within written others =
    sym (fill_by_all now (set (map was (range_with_len 0 count)) n x) count d
    (length-set (map was (range_with_len 0 count)) n x ∙ length-map-range_with_len was 0 count)
    (λ k h. each k h (k == n) refl))
  where
    each : (k : ℕ) → k < count → (same : Bool) → (k == n) ≡ same → get_or (set (map was (range_with_len 0 count)) n x) k d ≡ now k
    each k h true test =
        let same : n ≡ k = grind (arith, nat_tests) in
        subst (λ j. get_or (set (map was (range_with_len 0 count)) n x) j d ≡ now j) same
        (get_or-set_same (map was (range_with_len 0 count)) n x d (omega (arith, within, length-map-range_with_len was 0 count)) ∙ sym written)
    each k h false test =
        let differ : k ≢ n = grind (arith, nat_tests) in
        get_or-set_other (map was (range_with_len 0 count)) n k x d differ
        ∙ get_or-map-range_with_len was 0 count k k d h (omega arith)
        ∙ sym (others k h differ)

pub get_or-sectors_by : (order : Order) (bytes : List ℕ) (n : ℕ) → n < 560 → get_or (sectors_by order bytes) n None ≡ Some (bytes_of_sector bytes (number_in order n))
unfolding sectors_by
get_or-sectors_by order bytes n within = get_or-map-range_with_len (λ n. Some (bytes_of_sector bytes (number_in order n))) 0 560 n n None within (omega arith)

pub sector_in-sectors_by : (order : Order) (bytes : List ℕ) (track sector : ℕ) → track < 35 → sector < 16
    → sector_in (sectors_by order bytes) track sector ≡ Some (bytes_of_sector bytes (number_in order (16 * track + sector)))
sector_in-sectors_by order bytes track sector low fits = get_or-sectors_by order bytes (16 * track + sector) (omega arith)

pub sectors_by-replaced : (order : Order) (old new : List ℕ) (n : ℕ) (content : List ℕ) → n < 560
    → bytes_of_sector new (number_in order n) ≡ content
    → ((other : ℕ) → other ≢ number_in order n → bytes_of_sector new other ≡ bytes_of_sector old other)
    → sectors_by order new ≡ set (sectors_by order old) n (Some content)
unfolding sectors_by
sectors_by-replaced order old new n content within written others =
    map_set (λ k. Some (bytes_of_sector old (number_in order k))) (λ k. Some (bytes_of_sector new (number_in order k))) 560 n (Some content) None within (ap Some written)
    (λ k h differ. ap Some (others (number_in order k) (λ same. differ (number_once order k n same))))

length-zeros : length zeros ≡ 256
unfolding zeros
length-zeros = refl

length-bytes_of_sector : (bytes : List ℕ) (number : ℕ) → length bytes ≡ 143360 → number < 560 → length (bytes_of_sector bytes number) ≡ 256
length-bytes_of_sector bytes number whole h = simp (length-take, length-drop) (omega (arith, whole))

-- the sectors of a disk from a function that gives each
pub IsDisk-map : (f : ℕ → Option (List ℕ)) → ((n : ℕ) → n < 560 → length (unwrap_or (f n) zeros) ≡ 256) → IsDisk (map f (range_with_len 0 560))
IsDisk-map f long = record {
  count = length-map-range_with_len f 0 560;
  size = λ track sector. by_place track sector (cases_lt (16 * track + sector) 560);
}
  where
    by_place : (track sector : ℕ) → (16 * track + sector < 560) ⊎ (560 ≤ 16 * track + sector) → length (content_or_zeros (map f (range_with_len 0 560)) track sector) ≡ 256
    by_place track sector (inl within) =
        ap (λ o. length (unwrap_or o zeros)) (get_or-map-range_with_len f 0 560 (16 * track + sector) (16 * track + sector) None within (omega arith))
        ∙ long (16 * track + sector) within
    by_place track sector (inr beyond) =
        ap (λ o. length (unwrap_or o zeros)) (get_or_past (map f (range_with_len 0 560)) (16 * track + sector) None (omega (arith, beyond, length-map-range_with_len f 0 560)))
        ∙ length-zeros

-- what an image of the right length holds
pub IsDisk-sectors_by : (order : Order) (bytes : List ℕ) → length bytes ≡ 143360 → IsDisk (sectors_by order bytes)
unfolding sectors_by
IsDisk-sectors_by order bytes whole =
    IsDisk-map (λ n. Some (bytes_of_sector bytes (number_in order n))) (λ n h. length-bytes_of_sector bytes (number_in order n) whole (number_fits order n h))

-- a sector that is written over
pub IsDisk-set : (all : List (Option (List ℕ))) (n : ℕ) (content : List ℕ) → IsDisk all → length content ≡ 256 → IsDisk (set all n (Some content))
IsDisk-set all n content disk long = record {
  count = length-set all n (Some content) ∙ disk.count;
  size = λ track sector. by_place track sector (16 * track + sector == n) refl (cases_lt n (length all));
}
  where
    by_place : (track sector : ℕ) (same : Bool) → (16 * track + sector == n) ≡ same → (n < length all) ⊎ (length all ≤ n)
        → length (content_or_zeros (set all n (Some content)) track sector) ≡ 256
    by_place track sector true test (inl within) =
        let same : n ≡ 16 * track + sector = grind (arith, nat_tests) in
        ap (λ o. length (unwrap_or o zeros)) (ap (λ k. get_or (set all n (Some content)) k None) (sym same) ∙ get_or-set_same all n (Some content) None within) ∙ long
    by_place track sector true test (inr beyond) =
        let same : n ≡ 16 * track + sector = grind (arith, nat_tests) in
        ap (λ o. length (unwrap_or o zeros)) (get_or_past (set all n (Some content)) (16 * track + sector) None (omega (arith, beyond, same, length-set all n (Some content)))) ∙ length-zeros
    by_place track sector false test within =
        let differ : 16 * track + sector ≢ n = grind (arith, nat_tests) in
        ap (λ o. length (unwrap_or o zeros)) (get_or-set_other all n (16 * track + sector) (Some content) None differ) ∙ disk.size track sector
