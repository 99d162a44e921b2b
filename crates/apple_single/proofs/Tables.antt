-- The entries that the bytes of a table are.
use Rattle.std.proofs.Common.{◌≡◌, ℕ, zero, suc, ◌+◌, ◌*◌, ◌/◌, ◌%◌, ◌^◌, ◌<◌, ◌≤◌, List, [], ◌∷◌, ◌++◌, All, length}
use Rattle.std.proofs.Common.{arith, refl, sym, ap, ◌∙◌}
use Rattle.std.specs.Prelude.{flat_map}
use Rattle.std.proofs.lemmas.List.Elements.{All-cons, All-head, All-nil, All-tail}
use Rattle.apple_single.specs.declared.entries.Entry.{Entry}
use Rattle.apple_single.specs.Format.{IsEntry, entry_bytes, four_bytes}
use Rattle.apple_single.specs.Reading.{IsTable}
use Rattle.apple_single.proofs.Fronts.{entry_front}

-- ---- one entry less

pub table_front : (bytes : List ℕ) (e : Entry) (rest : List ℕ) (entries : List Entry) → bytes ≡ entry_bytes e ++ rest
    → IsTable bytes entries
    → (more : List Entry) × (entries ≡ e ∷ more) × IsTable rest more
table_front bytes e rest [] split table =
    let none : length (entry_bytes e ++ rest) ≡ 0 = ap length (sym split ∙ table.bytes) in
    absurd (omega (arith, none))
table_front bytes e rest (f ∷ fs) split table =
    let p = entry_front e f rest (flat_map entry_bytes fs) (sym split ∙ table.bytes) in
    let first : f ∷ fs ≡ e ∷ fs = ap (λ g. g ∷ fs) (sym p.0) in
    (fs, first, record { bytes = p.1 })

pub short_end : (bytes : List ℕ) (entries : List Entry) → length bytes < 12 → IsTable bytes entries → entries ≡ []
short_end bytes [] short table = refl
short_end bytes (f ∷ fs) short table = absurd (omega (arith, short, ap length table.bytes))

pub length_table : (entries : List Entry) → length (flat_map entry_bytes entries) ≡ 12 * length entries
length_table [] = refl
length_table (e ∷ es) = omega (arith, length_table es)

-- as many entries are told from others by their bytes
pub one_table : (es fs : List Entry) (s t : List ℕ) → length es ≡ length fs
    → flat_map entry_bytes es ++ s ≡ flat_map entry_bytes fs ++ t → (es ≡ fs) × (s ≡ t)
one_table [] [] s t same e = (refl, e)
one_table [] (f ∷ fs) s t same e = absurd (omega (arith, same))
one_table (e ∷ es) [] s t same eq = absurd (omega (arith, same))
one_table (e ∷ es) (f ∷ fs) s t same eq =
    let p = entry_front e f (flat_map entry_bytes es ++ s) (flat_map entry_bytes fs ++ t) eq in
    let q = one_table es fs s t (omega (arith, same)) p.1 in
    let first : e ≡ f = p.0 in
    let later : es ≡ fs = q.0 in
    (cc, q.1)

-- ---- bytes are entries

abbrev pub IsByte : ℕ → Type 0
IsByte b = b < 256

record Four (bytes : List ℕ) : Type 0 where
  number : ℕ
  rest : List ℕ
  small : number < 2 ^ 32
  split : bytes ≡ four_bytes number ++ rest
  are_bytes : All IsByte rest
  counted : length bytes ≡ 4 + length rest

four_split : (n a b c d : ℕ) (rest : List ℕ) → n ≡ a * 16777216 + b * 65536 + c * 256 + d
    → a < 256 → b < 256 → c < 256 → d < 256
    → a ∷ b ∷ c ∷ d ∷ rest ≡ n / 65536 / 256 ∷ n / 65536 % 256 ∷ n % 65536 / 256 ∷ n % 65536 % 256 ∷ rest
four_split n a b c d rest is a' b' c' d' =
    let high : n / 65536 ≡ a * 256 + b = omega arith in
    let low : n % 65536 ≡ c * 256 + d = omega arith in
    let one : a ≡ n / 65536 / 256 = omega arith in
    let two : b ≡ n / 65536 % 256 = omega arith in
    let three : c ≡ n % 65536 / 256 = omega arith in
    let four : d ≡ n % 65536 % 256 = omega arith in
    cc

four_of : (bytes : List ℕ) → 4 ≤ length bytes → All IsByte bytes → Four bytes
four_of [] enough are = absurd (omega (arith, enough))
four_of (a ∷ []) enough are = absurd (omega (arith, enough))
four_of (a ∷ b ∷ []) enough are = absurd (omega (arith, enough))
four_of (a ∷ b ∷ c ∷ []) enough are = absurd (omega (arith, enough))
four_of (a ∷ b ∷ c ∷ d ∷ rest) enough are =
    let from_b = All-tail IsByte a (b ∷ c ∷ d ∷ rest) are in
    let from_c = All-tail IsByte b (c ∷ d ∷ rest) from_b in
    let from_d = All-tail IsByte c (d ∷ rest) from_c in
    let a' : a < 256 = All-head IsByte a (b ∷ c ∷ d ∷ rest) are in
    let b' : b < 256 = All-head IsByte b (c ∷ d ∷ rest) from_b in
    let c' : c < 256 = All-head IsByte c (d ∷ rest) from_c in
    let d' : d < 256 = All-head IsByte d rest from_d in
    record {
      number = a * 16777216 + b * 65536 + c * 256 + d;
      rest = rest;
      small = omega (arith, a', b', c', d');
      split = four_split (a * 16777216 + b * 65536 + c * 256 + d) a b c d rest refl a' b' c' d';
      are_bytes = All-tail IsByte d rest from_d;
      counted = omega arith;
    }

pub record HasEntries (count : ℕ) (bytes : List ℕ) : Type 0 where
  pub entries : List Entry
  pub counted : length entries ≡ count
  pub numbers : All IsEntry entries
  pub table : IsTable bytes entries

-- three numbers, one behind the other, are an entry and what stands behind it
entry_more : (bytes r s t : List ℕ) (id offset size : ℕ) (entries : List Entry)
    → bytes ≡ four_bytes id ++ r → r ≡ four_bytes offset ++ s → s ≡ four_bytes size ++ t → IsTable t entries
    → IsTable bytes (record { id = id; offset = offset; size = size } ∷ entries)
entry_more bytes r s t id offset size entries one two three table = record {
  bytes = one ∙ ap (λ b. four_bytes id ++ b) two ∙ ap (λ b. four_bytes id ++ (four_bytes offset ++ b)) three
      ∙ ap (λ b. four_bytes id ++ (four_bytes offset ++ (four_bytes size ++ b))) table.bytes;
}

pub has_entries : (count : ℕ) (bytes : List ℕ) → length bytes ≡ 12 * count → All IsByte bytes → HasEntries count bytes
has_entries zero [] size are = record {
  entries = [];
  counted = refl;
  numbers = All-nil IsEntry;
  table = record { bytes = refl };
}
has_entries zero (b ∷ bytes) size are = absurd (omega (arith, size))
has_entries (suc n) bytes size are =
    let id = four_of bytes (omega (arith, size)) are in
    let offset = four_of id.rest (omega (arith, size, id.counted)) id.are_bytes in
    let size' = four_of offset.rest (omega (arith, size, id.counted, offset.counted)) offset.are_bytes in
    let left : length size'.rest ≡ 12 * n = omega (arith, size, id.counted, offset.counted, size'.counted) in
    let later = has_entries n size'.rest left size'.are_bytes in
    let first : Entry = record { id = id.number; offset = offset.number; size = size'.number } in
    record {
      entries = first ∷ later.entries;
      counted = omega (arith, later.counted);
      numbers = All-cons IsEntry first later.entries
          (record { id = id.small; offset = offset.small; size = size'.small }) later.numbers;
      table = entry_more bytes id.rest offset.rest size'.rest id.number offset.number size'.number later.entries
          id.split offset.split size'.split later.table;
    }
