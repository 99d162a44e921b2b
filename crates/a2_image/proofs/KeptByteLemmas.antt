-- The bytes that no write may change, of an image that keeps the field of each sector.
use Rattle.std.proofs.Common.{◌≡◌, ◌≢◌, ℕ, ◌+◌, ◌*◌, ◌/◌, ◌%◌, ◌-◌, ◌<◌, ◌≤◌, Bool, true, false, List, length, map, replicate, take, drop, get_or, Some, None, refl, sym, ◌∙◌, ap, subst, arith, ⊎_elim}
use Rattle.std.specs.Prelude.{Option, if◌then◌else◌}
use Rattle.std.specs.List.{list_any, range_with_len}
use Rattle.std.proofs.lemmas.Bool.{cases_eq, cases_lt}
use Rattle.std.proofs.lemmas.Bool.Decides.{nat_tests}
use Rattle.std.proofs.lemmas.List.{same_lists, get_or_default, get_or-take, get_or-drop}
use Rattle.std.proofs.lemmas.List.Folds.{Any-from_list_any, list_any_at}
use Rattle.std.proofs.lemmas.List.FromFn.{length-range_with_len, get_or-range_with_len, length-map-range_with_len, get_or-map-range_with_len, fill_by_all}
use Rattle.a2_nibble.specs.declared.search.Field.{Field}
use Rattle.a2_nibble.specs.Search.{FindsSector}
use Rattle.a2_nibble.specs.Sector.{IsFieldOf, WritesSector}
use Rattle.a2_nibble.specs.Track.{behind, nibble_at}
use Rattle.a2_nibble.proofs.OneLemmas.{one_data}
use Rattle.a2_nibble.proofs.RingLemmas.{nibble_at-place}
use Rattle.a2_device.specs.declared.order.Order.{Order}
use Rattle.a2_device.specs.declared.order.Order.TheVariants.{Dos, Prodos, Nibble}
use Rattle.a2_image.specs.Tracks.{track_of}
use Rattle.a2_image.specs.Kept.{KeepsFields, is_in_field, is_data_byte, kept_byte, kept_bytes}
use Rattle.a2_image.specs.KeptBytes.{IsDataByte, KeepsByte, HoldsKept, HoldsKeptOfTracks}
use Rattle.a2_image.proofs.KeptLemmas.{KeepsFields-at}

-- a test that a number below a count passes
some_passes : (test : ℕ → Bool) (count : ℕ) → list_any test (range_with_len 0 count) ≡ true → (k : ℕ) × (k < count) × (test k ≡ true)
some_passes test count is =
    let (i, k, within, at, passes) = Any-from_list_any test (range_with_len 0 count) is in
    let below : i < count = omega (arith, within, length-range_with_len 0 count) in
    let same : k ≡ i = sym at ∙ get_or-range_with_len 0 count i k below ∙ omega arith in
    (k, omega (arith, below, same), passes)

passes_some : (test : ℕ → Bool) (count k : ℕ) → k < count → test k ≡ true → list_any test (range_with_len 0 count) ≡ true
passes_some test count k below passes =
    let at : get_or (range_with_len 0 count) k 0 ≡ k = get_or-range_with_len 0 count k 0 below ∙ omega arith in
    list_any_at test (range_with_len 0 count) k 0 (omega (arith, below, length-range_with_len 0 count)) (ap test at ∙ passes)

-- the place is among the bytes of the field that a search finds
in_found : (nibbles : List ℕ) (track sector place : ℕ) (answer : Option Field) → FindsSector nibbles track sector answer → is_in_field place answer ≡ true
    → (volume : ℕ) × (data_at : ℕ) × IsFieldOf nibbles track sector volume data_at × (behind data_at place < 343)
in_found nibbles track sector place None finds is = absurd (cc)
in_found nibbles track sector place (Some field) finds is = (field.volume, field.data_at, finds.found.2, grind (arith, nat_tests))

found_in : (nibbles : List ℕ) (track sector place : ℕ) (answer : Option Field) → track < 35 → sector < 16 → FindsSector nibbles track sector answer
    → (volume data_at : ℕ) → IsFieldOf nibbles track sector volume data_at → behind data_at place < 343 → is_in_field place answer ≡ true
found_in nibbles track sector place None lt ls finds volume data_at field near = absurd (finds.none lt ls volume data_at field)
found_in nibbles track sector place (Some found) lt ls finds volume data_at field near =
    let same : found.data_at ≡ data_at = one_data nibbles track sector found.volume found.data_at volume data_at finds.found.2 field in
    let near' : behind found.data_at place < 343 = subst (λ at. behind at place < 343) (sym same) near in
    grind (arith, nat_tests)

-- the byte of an image at its place of its track
track_byte : (bytes : List ℕ) (n : ℕ) → nibble_at (track_of bytes (n / 6656)) (n % 6656) ≡ get_or bytes n 0
track_byte bytes n =
    let size : 6656 * (n / 6656) + 6656 - 6656 * (n / 6656) ≡ 6656 = omega arith in
    let at : 6656 * (n / 6656) + n % 6656 ≡ n = omega arith in
    nibble_at-place (track_of bytes (n / 6656)) (n % 6656) (n % 6656) (omega arith)
    ∙ ap (λ m. get_or (take m (drop (6656 * (n / 6656)) bytes)) (n % 6656) 0) size
    ∙ get_or-take 6656 (drop (6656 * (n / 6656)) bytes) (n % 6656) 0 (omega arith)
    ∙ get_or-drop (6656 * (n / 6656)) bytes (n % 6656) 0
    ∙ ap (λ m. get_or bytes m 0) at

-- what the fields tell of a byte
module _ (bytes : List ℕ) (fields : List (Option Field)) (h : KeepsFields bytes fields) (n : ℕ) (within : n < 232960) where
  finds : (sector : ℕ) → sector < 16 → FindsSector (track_of bytes (n / 6656)) (n / 6656) sector (get_or fields (16 * (n / 6656) + sector) None)
  finds sector l = KeepsFields-at bytes fields h (n / 6656) sector (omega arith) l

  data_byte : is_data_byte fields n ≡ true → IsDataByte bytes n
  unfolding is_data_byte
  data_byte is =
      let (sector, fits, passes) = some_passes (λ sector. is_in_field (n % 6656) (get_or fields (16 * (n / 6656) + sector) None)) 16 is in
      let (volume, data_at, field, near) = in_found _ _ sector (n % 6656) _ (finds sector fits) passes in
      record { sector = sector; sector_fits = fits; volume = volume; data_at = data_at; field = field; within = near }

  data_byte_is : IsDataByte bytes n → is_data_byte fields n ≡ true
  unfolding is_data_byte
  data_byte_is d =
      passes_some (λ sector. is_in_field (n % 6656) (get_or fields (16 * (n / 6656) + sector) None)) 16 d.sector d.sector_fits
      (found_in _ _ d.sector (n % 6656) _ (omega arith) d.sector_fits (finds d.sector d.sector_fits) d.volume d.data_at d.field d.within)

  not_data_byte : is_data_byte fields n ≡ false → IsDataByte bytes n → ⊥
  not_data_byte is d = let yes = data_byte_is d in cc

  keeps_byte : KeepsByte bytes n (kept_byte bytes fields n)
  unfolding kept_byte
  keeps_byte = by_test (is_data_byte fields n) refl
    where
      by_test : (test : Bool) → is_data_byte fields n ≡ test → KeepsByte bytes n (if test then None else Some (get_or bytes n 0))
      by_test true is = data_byte is
      by_test false is = (not_data_byte is, refl)

-- the bytes that the tracks of an image keep
pub HoldsKept-tracks : (bytes : List ℕ) (fields : List (Option Field)) → length bytes ≡ 232960 → KeepsFields bytes fields → HoldsKeptOfTracks bytes (kept_bytes Nibble bytes fields)
unfolding kept_bytes
HoldsKept-tracks bytes fields long h = record {
  count = length-map-range_with_len (kept_byte bytes fields) 0 (length bytes);
  each = λ n l. subst (KeepsByte bytes n) (sym (get_or-map-range_with_len (kept_byte bytes fields) 0 (length bytes) n n None l (omega arith)))
      (keeps_byte bytes fields h n (omega (arith, long)));
}

-- there is one list of them
KeepsByte-one : (bytes : List ℕ) (n : ℕ) (a b : Option ℕ) → KeepsByte bytes n a → KeepsByte bytes n b → a ≡ b
KeepsByte-one bytes n None None h k = refl
KeepsByte-one bytes n None (Some b) h k = absurd (k.0 h)
KeepsByte-one bytes n (Some a) None h k = absurd (h.0 k)
KeepsByte-one bytes n (Some a) (Some b) h k = ap Some (h.1 ∙ sym k.1)

HoldsKeptOfTracks-one : (bytes : List ℕ) (a b : List (Option ℕ)) → HoldsKeptOfTracks bytes a → HoldsKeptOfTracks bytes b → a ≡ b
HoldsKeptOfTracks-one bytes a b h k = same_lists a b (h.count ∙ sym k.count) (λ n d l.
    let within : n < length bytes = omega (arith, h.count) in
    get_or_default a n d None l
    ∙ KeepsByte-one bytes n _ _ (h.each n within) (k.each n within)
    ∙ get_or_default b n None d (omega (arith, k.count)))

pub HoldsKept-one : (order : Order) (bytes : List ℕ) (a b : List (Option ℕ)) → HoldsKept order bytes a → HoldsKept order bytes b → a ≡ b
unfolding HoldsKept
HoldsKept-one Dos bytes a b h k = h ∙ sym k
HoldsKept-one Prodos bytes a b h k = h ∙ sym k
HoldsKept-one Nibble bytes a b h k = HoldsKeptOfTracks-one bytes a b h k

-- an image that has one sector behind the other keeps no byte
pub kept_bytes-plain : (order : Order) (old new : List ℕ) (fields : List (Option Field)) → order ≢ Nibble → length new ≡ length old → kept_bytes order new fields ≡ kept_bytes order old fields
unfolding kept_bytes
kept_bytes-plain Dos old new fields plain long = ap (λ n. replicate n None) long
kept_bytes-plain Prodos old new fields plain long = ap (λ n. replicate n None) long
kept_bytes-plain Nibble old new fields plain long = absurd (plain refl)

-- one sector is written: each byte that is kept stays
module _ (old new : List ℕ) (fields : List (Option Field)) (track sector : ℕ) (content : List ℕ) (track_fits : track < 35) (sector_fits : sector < 16)
    (writes : WritesSector (track_of old track) (track_of new track) track sector content)
    (others : (other : ℕ) → other ≢ track → track_of new other ≡ track_of old other) (h : KeepsFields old fields) where
  beyond : (n : ℕ) → n < 232960 → is_data_byte fields n ≡ false → track ≡ n / 6656 → 343 ≤ behind writes.data_at (n % 6656)
  beyond n within is here = ⊎_elim
      (λ near. absurd (not_data_byte old fields h n within is (record {
        sector = sector;
        sector_fits = sector_fits;
        volume = writes.volume;
        data_at = writes.data_at;
        field = subst (λ t. IsFieldOf (track_of old t) t sector writes.volume writes.data_at) here writes.field;
        within = near;
      })))
      (λ far. far)
      (cases_lt (behind writes.data_at (n % 6656)) 343)

  same_byte : (n : ℕ) → n < 232960 → is_data_byte fields n ≡ false → get_or new n 0 ≡ get_or old n 0
  same_byte n within is =
      sym (track_byte new n)
      ∙ ⊎_elim
      (λ here. subst (λ t. nibble_at (track_of new t) (n % 6656) ≡ nibble_at (track_of old t) (n % 6656)) here
      (writes.others (n % 6656) (beyond n within is here)))
      (λ other. ap (λ nibbles. nibble_at nibbles (n % 6656)) (others (n / 6656) (λ e. other (sym e))))
      (cases_eq track (n / 6656))
      ∙ track_byte old n

  kept_byte-written : (n : ℕ) → n < 232960 → kept_byte new fields n ≡ kept_byte old fields n
  unfolding kept_byte
  kept_byte-written n within = by_test (is_data_byte fields n) refl
    where
      by_test : (test : Bool) → is_data_byte fields n ≡ test → (if test then None else Some (get_or new n 0)) ≡ (if test then None else Some (get_or old n 0))
      by_test true is = refl
      by_test false is = ap Some (same_byte n within is)

  pub kept_bytes-written : length old ≡ 232960 → length new ≡ length old → kept_bytes Nibble new fields ≡ kept_bytes Nibble old fields
  unfolding kept_bytes
  kept_bytes-written whole long =
      ap (λ n. map (kept_byte new fields) (range_with_len 0 n)) long
      ∙ fill_by_all (kept_byte old fields) (map (kept_byte new fields) (range_with_len 0 (length old))) (length old) None
      (length-map-range_with_len (kept_byte new fields) 0 (length old))
      (λ k l. get_or-map-range_with_len (kept_byte new fields) 0 (length old) k k None l (omega arith) ∙ kept_byte-written k (omega (arith, whole)))
