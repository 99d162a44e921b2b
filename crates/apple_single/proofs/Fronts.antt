-- Numbers, entries and file infos are told from others by their bytes.
use Rattle.std.proofs.Common.{◌≡◌, ℕ, ◌/◌, ◌%◌, List, ◌∷◌, ◌++◌, arith, ap, ◌∙◌}
use Rattle.apple_single.specs.declared.entries.Entry.{Entry}
use Rattle.apple_single.specs.declared.single.FileInfo.{FileInfo}
use Rattle.apple_single.specs.Format.{entry_bytes, four_bytes, info_bytes, two_bytes}

two_same : (m n : ℕ) → m / 256 ≡ n / 256 → m % 256 ≡ n % 256 → m ≡ n
two_same m n high low = omega (arith, high, low)

four_same : (m n : ℕ) → m / 65536 ≡ n / 65536 → m % 65536 ≡ n % 65536 → m ≡ n
four_same m n high low = omega (arith, high, low)

pub two_front : (m n : ℕ) (s t : List ℕ) → two_bytes m ++ s ≡ two_bytes n ++ t → (m ≡ n) × (s ≡ t)
two_front m n s t e =
    let whole : m / 256 ∷ m % 256 ∷ s ≡ n / 256 ∷ n % 256 ∷ t = e in
    let high : m / 256 ≡ n / 256 = cc in
    let low : m % 256 ≡ n % 256 = cc in
    let rest : s ≡ t = cc in
    (two_same m n high low, rest)

pub four_front : (m n : ℕ) (s t : List ℕ) → four_bytes m ++ s ≡ four_bytes n ++ t → (m ≡ n) × (s ≡ t)
four_front m n s t e =
    let high = two_front (m / 65536) (n / 65536) (two_bytes (m % 65536) ++ s) (two_bytes (n % 65536) ++ t) e in
    let low = two_front (m % 65536) (n % 65536) s t high.1 in
    (four_same m n high.0 low.0, low.1)

-- ---- entries

abbrev entry : ℕ → ℕ → ℕ → Entry
entry id offset size = record { id = id; offset = offset; size = size }

same_entry : (e f : Entry) → e.id ≡ f.id → e.offset ≡ f.offset → e.size ≡ f.size → e ≡ f
same_entry e f id offset size =
    ap (λ i. entry i e.offset e.size) id ∙ ap (λ o. entry f.id o e.size) offset ∙ ap (λ s. entry f.id f.offset s) size

pub entry_front : (e f : Entry) (s t : List ℕ) → entry_bytes e ++ s ≡ entry_bytes f ++ t → (e ≡ f) × (s ≡ t)
entry_front e f s t same =
    let id = four_front e.id f.id (four_bytes e.offset ++ (four_bytes e.size ++ s))
    (four_bytes f.offset ++ (four_bytes f.size ++ t)) same in
    let offset = four_front e.offset f.offset (four_bytes e.size ++ s) (four_bytes f.size ++ t) id.1 in
    let size = four_front e.size f.size s t offset.1 in
    (same_entry e f id.0 offset.0 size.0, size.1)

-- ---- file infos

abbrev info : ℕ → ℕ → ℕ → FileInfo
info access file_type aux_type = record { access = access; file_type = file_type; aux_type = aux_type }

same_info : (i j : FileInfo) → i.access ≡ j.access → i.file_type ≡ j.file_type → i.aux_type ≡ j.aux_type → i ≡ j
same_info i j access file_type aux_type =
    ap (λ a. info a i.file_type i.aux_type) access ∙ ap (λ t. info j.access t i.aux_type) file_type
    ∙ ap (λ a. info j.access j.file_type a) aux_type

pub info_front : (i j : FileInfo) (s t : List ℕ) → info_bytes i ++ s ≡ info_bytes j ++ t → i ≡ j
info_front i j s t same =
    let access = two_front i.access j.access (two_bytes i.file_type ++ (four_bytes i.aux_type ++ s))
    (two_bytes j.file_type ++ (four_bytes j.aux_type ++ t)) same in
    let file_type = two_front i.file_type j.file_type (four_bytes i.aux_type ++ s)
    (four_bytes j.aux_type ++ t) access.1 in
    let aux_type = four_front i.aux_type j.aux_type s t file_type.1 in
    same_info i j access.0 file_type.0 aux_type.0
