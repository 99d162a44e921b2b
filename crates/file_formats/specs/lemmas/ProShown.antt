-- What is shown of a ProDOS volume is what its entries and its map say.
use Rattle.std.specs.Prelude.{◌≡◌, ◌<◌, ◌≤◌, ℕ, zero, suc, ◌+◌, ◌*◌, ◌/◌, ◌==◌, Bool, List, [], ◌∷◌, ◌++◌, map, take, drop, slice_index, slice_range, count_by}
use Rattle.std.specs.List.{range_with_len}
use Rattle.std.proofs.Common.{refl, sym, ◌∙◌, ap, cond, arith}
use Rattle.std.proofs.lemmas.List.{get_or-drop, drop-drop}
use Rattle.std.proofs.lemmas.List.Sums.{sum_by-cons}
use Rattle.pro_bitmap.specs.Bitmap.{FreeMap, is_free, free_count_of}
use Rattle.pro_dir.specs.declared.entry.Entry.{Entry}
use Rattle.pro_dir.specs.Entry.{word, long}
use Rattle.pro_dir.specs.Volume.{Directory as Tree, total_blocks}
use Rattle.pro_format.specs.Pro.{pro_entry, pro_free, without_key, directory_with}
use Rattle.file_formats.specs.declared.listing.ListEntry.{ListEntry}
use Rattle.file_formats.specs.Listing.{free_count}
use Rattle.file_formats.specs.ProFiles.{is_locked, pro_shown}
use Rattle.file_formats.specs.ProListing.{pro_list_entry}

-- bytes without some in their middle: a byte behind these, one before them, and what is left from a byte on
byte_behind : (n m i j : ℕ) (bytes : List ℕ) → n ≤ i → n ≤ m → i + m ≡ j + n → slice_index (take n bytes ++ drop m bytes) i ≡ slice_index bytes j
byte_behind zero m i j bytes behind later same = get_or-drop m bytes i 0 ∙ ap (slice_index bytes) (omega (arith, same))
byte_behind (suc n) zero i j bytes behind later same = absurd (omega (arith, later))
byte_behind (suc n) (suc m) zero j bytes behind later same = absurd (omega (arith, behind))
byte_behind (suc n) (suc m) (suc i) zero bytes behind later same = absurd (omega (arith, behind, later, same))
byte_behind (suc n) (suc m) (suc i) (suc j) [] behind later same = refl
byte_behind (suc n) (suc m) (suc i) (suc j) (byte ∷ bytes) behind later same =
    byte_behind n m i j bytes (omega (arith, behind)) (omega (arith, later)) (omega (arith, same))

byte_before : (n m i : ℕ) (bytes : List ℕ) → i < n → n ≤ m → slice_index (take n bytes ++ drop m bytes) i ≡ slice_index bytes i
byte_before zero m i bytes before later = absurd (omega (arith, before))
byte_before (suc n) zero i bytes before later = absurd (omega (arith, later))
byte_before (suc n) (suc m) i [] before later = refl
byte_before (suc n) (suc m) zero (byte ∷ bytes) before later = refl
byte_before (suc n) (suc m) (suc i) (byte ∷ bytes) before later = byte_before n m i bytes (omega (arith, before)) (omega (arith, later))

rest_behind : (n m i j : ℕ) (bytes : List ℕ) → n ≤ i → n ≤ m → i + m ≡ j + n → drop i (take n bytes ++ drop m bytes) ≡ drop j bytes
rest_behind zero m i j bytes behind later same = drop-drop i m bytes ∙ ap (λ n. drop n bytes) (omega (arith, same))
rest_behind (suc n) zero i j bytes behind later same = absurd (omega (arith, later))
rest_behind (suc n) (suc m) zero j bytes behind later same = absurd (omega (arith, behind))
rest_behind (suc n) (suc m) (suc i) zero bytes behind later same = absurd (omega (arith, behind, later, same))
rest_behind (suc n) (suc m) (suc i) (suc j) [] behind later same = refl
rest_behind (suc n) (suc m) (suc i) (suc j) (byte ∷ bytes) behind later same =
    rest_behind n m i j bytes (omega (arith, behind)) (omega (arith, later)) (omega (arith, same))

-- what stands behind the key pointer stands two lower
pub behind_key : (i j : ℕ) (bytes : List ℕ) → 0x11 ≤ i → i + 2 ≡ j → slice_index (without_key bytes) i ≡ slice_index bytes j
behind_key i j bytes behind same = byte_behind 0x11 0x13 i j bytes behind (omega arith) (omega (arith, same))

pub long_behind : (bytes : List ℕ) → long (without_key bytes) 0x13 ≡ long bytes 0x15
long_behind bytes =
    ap (λ low. low + 256 * slice_index (without_key bytes) 0x14 + 65536 * slice_index (without_key bytes) 0x15) (behind_key 0x13 0x15 bytes (omega arith) (omega arith))
    ∙ ap (λ middle. slice_index bytes 0x15 + 256 * middle + 65536 * slice_index (without_key bytes) 0x15) (behind_key 0x14 0x16 bytes (omega arith) (omega arith))
    ∙ ap (λ high. slice_index bytes 0x15 + 256 * slice_index bytes 0x16 + 65536 * high) (behind_key 0x15 0x17 bytes (omega arith) (omega arith))

word_behind : (i j : ℕ) (bytes : List ℕ) → 0x11 ≤ i → i + 2 ≡ j → word (without_key bytes) i ≡ word bytes j
word_behind i j bytes behind same =
    ap (λ low. low + 256 * slice_index (without_key bytes) (i + 1)) (behind_key i j bytes behind same)
    ∙ ap (λ high. slice_index bytes j + 256 * high) (behind_key (i + 1) (j + 1) bytes (omega (arith, behind)) (omega (arith, same)))

date_behind : (i j : ℕ) (bytes : List ℕ) → 0x11 ≤ i → i + 2 ≡ j → take 4 (drop i (without_key bytes)) ≡ take 4 (drop j bytes)
date_behind i j bytes behind same = ap (take 4) (rest_behind 0x11 0x13 i j bytes behind (omega arith) (omega (arith, same)))

-- what is shown of an entry is what its bytes and its path say
pub list_entry-pro : {A : Type 0} (places file : ℕ) (path : List ℕ) (entry : Entry)
    → pro_list_entry {A = A} path entry ≡ pro_shown (pro_entry places file path entry)
list_entry-pro {A} places file path entry = sym (
    ap (λ access. shown_of access (slice_index less 0x10) (word less 0x11) (long less 0x13) (word less 0x1d) (slice_range less 0x16 0x1a) (slice_range less 0x1f 0x23) (slice_index less 0)) (behind_key 0x1c 0x1e bytes (omega arith) (omega arith))
    ∙ ap (λ kind. shown_of access kind (word less 0x11) (long less 0x13) (word less 0x1d) (slice_range less 0x16 0x1a) (slice_range less 0x1f 0x23) (slice_index less 0)) (byte_before 0x11 0x13 0x10 bytes (omega arith) (omega arith))
    ∙ ap (λ size. shown_of access kind size (long less 0x13) (word less 0x1d) (slice_range less 0x16 0x1a) (slice_range less 0x1f 0x23) (slice_index less 0)) (word_behind 0x11 0x13 bytes (omega arith) (omega arith))
    ∙ ap (λ eof. shown_of access kind size eof (word less 0x1d) (slice_range less 0x16 0x1a) (slice_range less 0x1f 0x23) (slice_index less 0)) (long_behind bytes)
    ∙ ap (λ aux. shown_of access kind size eof aux (slice_range less 0x16 0x1a) (slice_range less 0x1f 0x23) (slice_index less 0)) (word_behind 0x1d 0x1f bytes (omega arith) (omega arith))
    ∙ ap (λ created. shown_of access kind size eof aux created (slice_range less 0x1f 0x23) (slice_index less 0)) (date_behind 0x16 0x18 bytes (omega arith) (omega arith))
    ∙ ap (λ modified. shown_of access kind size eof aux created modified (slice_index less 0)) (date_behind 0x1f 0x21 bytes (omega arith) (omega arith))
    ∙ ap (shown_of access kind size eof aux created (slice_range bytes 0x21 0x25)) (byte_before 0x11 0x13 0 bytes (omega arith) (omega arith)))
  where
    bytes : List ℕ
    bytes = entry.bytes

    less : List ℕ
    less = without_key entry.bytes

    access : ℕ
    access = slice_index entry.bytes 0x1e

    kind : ℕ
    kind = slice_index entry.bytes 0x10

    size : ℕ
    size = word entry.bytes 0x13

    eof : ℕ
    eof = long entry.bytes 0x15

    aux : ℕ
    aux = word entry.bytes 0x1f

    created : List ℕ
    created = slice_range entry.bytes 0x18 0x1c

    shown_of : ℕ → ℕ → ℕ → ℕ → ℕ → List ℕ → List ℕ → ℕ → ListEntry A
    shown_of access kind size eof aux created modified first = record {
      locked = is_locked access;
      kind = kind;
      size = size;
      eof = eof;
      access = access;
      aux = aux;
      created = record { 0 = created };
      modified = record { 0 = modified };
      directory = first / 16 == 13;
      path = path;
    }

-- the free places
pub free_count-pro : (system : List Bool) (tree : Tree) (marks : FreeMap) → marks.total ≡ total_blocks tree.header
    → free_count_of marks ≡ free_count (directory_with system tree marks.units)
unfolding pro_free free_count_of
free_count-pro system tree marks total =
    ap (λ n. count_by (is_free marks) (range_with_len 0 n)) total ∙ count_of_map (range_with_len 0 (total_blocks tree.header))
  where
    count_of_map : (places : List ℕ) → count_by (is_free marks) places
        ≡ count_by (λ (free : Bool). free) (map (is_free marks) places)
    count_of_map [] = refl
    count_of_map (place ∷ places) =
        sum_by-cons (λ p. cond (is_free marks p) 1 0) place places
        ∙ ap (λ n. cond (is_free marks place) 1 0 + n) (count_of_map places)
        ∙ sym (sum_by-cons (λ (free : Bool). cond free 1 0) (is_free marks place) (map (is_free marks) places))
