-- A file begins with one header, or with none.
use Rattle.std.proofs.Common.{◌≡◌, ℕ, Option, Some, None, IfNone, IfSome, Bor, subst, inl, inr, ◌-◌, ◌*◌, ◌<◌, ◌≤◌}
use Rattle.std.proofs.Common.{List, [], ◌∷◌, ◌++◌, All, length, take, drop, arith, refl, sym, ap, ◌∙◌, append_assoc}
use Rattle.std.proofs.Common.{length-append}
use Rattle.std.specs.Prelude.{flat_map}
use Rattle.std.proofs.lemmas.List.{append_cancel_left, drop_at, length-take-le, take-append-drop, take_rest}
use Rattle.std.proofs.lemmas.List.Elements.{All-drop, All-same, All-take}
use Rattle.std.specs.Slice.{IsGetRangeResult}
use Rattle.apple_single.specs.declared.entries.Entry.{Entry}
use Rattle.apple_single.specs.Format.{entry_bytes, header, magic_number, two_bytes, version_2}
use Rattle.apple_single.specs.Reading.{IsCounted, IsNotCounted, IsTable}
use Rattle.apple_single.specs.Single.{IsHeader}
use Rattle.apple_single.proofs.Fronts.{two_front}
use Rattle.apple_single.proofs.Tables.{IsByte, has_entries, length_table, one_table}

append_front : (a b s t : List ℕ) → length a ≡ length b → a ++ s ≡ b ++ t → (a ≡ b) × (s ≡ t)
append_front [] [] s t same e = (refl, e)
append_front [] (y ∷ b) s t same e = absurd (omega (arith, same))
append_front (x ∷ a) [] s t same e = absurd (omega (arith, same))
append_front (x ∷ a) (y ∷ b) s t same e =
    let whole : x ∷ (a ++ s) ≡ y ∷ (b ++ t) = e in
    let first : x ≡ y = cc in
    let later : a ++ s ≡ b ++ t = cc in
    let p = append_front a b s t (omega (arith, same)) later in
    let rest : a ≡ b = p.0 in
    (cc, p.1)

-- what each file begins with
abbrev pub start : List ℕ
start = magic_number ++ version_2

abbrev counted_bytes : List ℕ → ℕ → List ℕ → List ℕ
counted_bytes filler count rest = magic_number ++ version_2 ++ filler ++ two_bytes count ++ rest

regrouped : (filler : List ℕ) (count : ℕ) (rest : List ℕ)
    → counted_bytes filler count rest ≡ start ++ (filler ++ (two_bytes count ++ rest))
regrouped filler count rest = ap (λ t. start ++ t) (append_assoc filler (two_bytes count) rest)

one_count : (file : List ℕ) (c d : ℕ) (r s : List ℕ) → IsCounted file c r → IsCounted file d s → (c ≡ d) × (r ≡ s)
one_count file c d r s one other =
    let e = append_cancel_left start (one.filler ++ (two_bytes c ++ r)) (other.filler ++ (two_bytes d ++ s))
    (sym (regrouped one.filler c r) ∙ sym one.bytes ∙ other.bytes ∙ regrouped other.filler d s) in
    let p = append_front one.filler other.filler (two_bytes c ++ r) (two_bytes d ++ s)
    (one.filler_size ∙ sym other.filler_size) e in
    two_front c d r s p.1

-- ---- how many entries there are

pub counted_is : (file behind part : List ℕ) (count : ℕ) (rest : List ℕ) → file ≡ start ++ behind → 16 ≤ length behind
    → part ≡ take (length behind - 16) (drop 16 behind) → part ≡ two_bytes count ++ rest → IsCounted file count rest
counted_is file behind part count rest split enough part_is begins = record {
  filler = take 16 behind;
  filler_size = length-take-le 16 behind enough;
  bytes = split ∙ ap (λ t. start ++ t) (sym (take-append-drop 16 behind)
      ∙ ap (λ t. take 16 behind ++ t) (sym (take_rest behind 16) ∙ sym part_is ∙ begins))
      ∙ sym (regrouped (take 16 behind) count rest);
}

-- ---- the entries

counted_header : (file : List ℕ) (entries : List Entry) (begins : IsHeader file entries)
    → IsCounted file (length entries) (flat_map entry_bytes entries ++ begins.behind)
counted_header file entries begins = record {
  filler = begins.filler;
  filler_size = begins.filler_size;
  bytes = begins.bytes
      ∙ ap (λ t. start ++ t) (append_assoc (begins.filler ++ two_bytes (length entries))
      (flat_map entry_bytes entries) begins.behind);
}

pub one_header : (file : List ℕ) (es fs : List Entry) → IsHeader file es → IsHeader file fs → es ≡ fs
one_header file es fs one other =
    let p = one_count file (length es) (length fs) (flat_map entry_bytes es ++ one.behind)
    (flat_map entry_bytes fs ++ other.behind)
    (counted_header file es one) (counted_header file fs other) in
    (one_table es fs one.behind other.behind p.0 p.1).0

-- a header with these entries begins the file, and the table is theirs
abbrev pub HasTable : List ℕ → List ℕ → Type 0
HasTable file table = (entries : List Entry) × IsHeader file entries × IsTable table entries

header_is : (file rest : List ℕ) (count : ℕ) (entries : List Entry) (behind : List ℕ)
    (counted : IsCounted file count rest)
    → length entries ≡ count → rest ≡ flat_map entry_bytes entries ++ behind
    → file ≡ header counted.filler entries ++ behind
header_is file rest count entries behind counted size split =
    counted.bytes ∙ ap (λ r. counted_bytes counted.filler count r) split
    ∙ ap (λ c. counted_bytes counted.filler c (flat_map entry_bytes entries ++ behind)) (sym size)
    ∙ sym (ap (λ t. start ++ t) (append_assoc (counted.filler ++ two_bytes (length entries))
    (flat_map entry_bytes entries) behind))

pub has_table : (file rest table : List ℕ) (count : ℕ) → IsCounted file count rest
    → count ≤ 64 → 12 * count ≤ length rest
    → table ≡ take (12 * count) rest → All IsByte table → HasTable file table
has_table file rest table count counted few enough is are =
    let size : length table ≡ 12 * count = ap length is ∙ length-take-le (12 * count) rest enough in
    let has = has_entries count table size are in
    let split : rest ≡ flat_map entry_bytes has.entries ++ drop (12 * count) rest
    = sym (take-append-drop (12 * count) rest) ∙ ap (λ t. t ++ drop (12 * count) rest) (sym is ∙ has.table.bytes) in (
      has.entries,
      record {
        filler = counted.filler;
        behind = drop (12 * count) rest;
        filler_size = counted.filler_size;
        few = omega (arith, few, has.counted);
        numbers = has.numbers;
        bytes = header_is file rest count has.entries (drop (12 * count) rest) counted has.counted split;
      },
      has.table,
    )

pub table_is : (file table : List ℕ) (entries : List Entry) → HasTable file table → IsHeader file entries
    → IsTable table entries
table_is file table entries has begins =
    let same = one_header file has.0 entries has.1 begins in
    record { bytes = has.2.bytes ∙ ap (λ es. flat_map entry_bytes es) same }

pub not_counted : (file : List ℕ) → IsNotCounted file → (entries : List Entry) → ¬ IsHeader file entries
not_counted file none entries begins = none (length entries) (flat_map entry_bytes entries ++ begins.behind)
    (counted_header file entries begins)

pub too_many : (file rest : List ℕ) (count : ℕ) → IsCounted file count rest → 64 < count → (entries : List Entry)
    → ¬ IsHeader file entries
too_many file rest count counted many entries begins =
    let same = one_count file count (length entries) rest (flat_map entry_bytes entries ++ begins.behind) counted
    (counted_header file entries begins) in
    omega (arith, many, same.0, begins.few)

pub not_whole : (file rest : List ℕ) (count : ℕ) → IsCounted file count rest → length rest < 12 * count
    → (entries : List Entry) → ¬ IsHeader file entries
not_whole file rest count counted short entries begins =
    let same = one_count file count (length entries) rest (flat_map entry_bytes entries ++ begins.behind) counted
    (counted_header file entries begins) in
    omega (
      arith,
      short,
      same.0,
      ap length same.1,
      length-append (flat_map entry_bytes entries) begins.behind,
      length_table entries,
    )

-- ---- what the front of a slice gives

suffix_bytes : (file p rest : List ℕ) → file ≡ p ++ rest → All IsByte file → All IsByte rest
suffix_bytes file p rest split are =
    subst (All IsByte) (ap (drop (length p)) split ∙ drop_at p rest (length p) refl)
    (All-drop IsByte (length p) file are)

counted_rest : (file rest : List ℕ) (count : ℕ) → IsCounted file count rest → All IsByte file → All IsByte rest
counted_rest file rest count counted are =
    suffix_bytes file (magic_number ++ version_2 ++ counted.filler ++ two_bytes count) rest counted.bytes are

pub table_some : (file rest : List ℕ) (count n : ℕ) (result : Option (Bor (List ℕ))) → IsCounted file count rest
    → count ≤ 64 → n ≡ 12 * count
    → IsGetRangeResult rest 0 n result → All IsByte file → IfSome result (λ table. HasTable file table.now)
table_some file rest count n None counted few is got are = tt
table_some file rest count n (Some x) counted few is got are =
    let end : n - 0 ≡ 12 * count = omega (arith, is) in
    let table_is' : x.now ≡ take (12 * count) rest = got.0.2 ∙ ap (λ m. take m rest) end in
    let enough : 12 * count ≤ length rest = omega (arith, is, got.0.1) in
    has_table file rest x.now count counted few enough table_is'
    (All-same IsByte x.now (take (12 * count) rest) table_is'
    (All-take IsByte (12 * count) rest (counted_rest file rest count counted are)))

pub table_none : (file rest : List ℕ) (count n : ℕ) (result : Option (Bor (List ℕ))) → IsCounted file count rest
    → n ≡ 12 * count
    → IsGetRangeResult rest 0 n result → IfNone result ((entries : List Entry) → ¬ IsHeader file entries)
table_none file rest count n None counted is got =
    let short : length rest < 12 * count
    = elim got.0 [ inl none ↦ absurd (omega (arith, none)) | inr less ↦ omega (arith, less, is) ] in
    not_whole file rest count counted short
table_none file rest count n (Some x) counted is got = tt
