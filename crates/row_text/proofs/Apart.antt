-- What tells one row from another.
use Rattle.std.proofs.Common.{◌≡◌, ℕ, suc, ◌/◌, ◌%◌, ◌<◌, Option, Some, None, List, [], ◌∷◌, map, refl, sym, ap, ap₂, arith, codes}
use Rattle.std.specs.Prelude.{⊤, option_map}
use Rattle.std.proofs.lemmas.Bool.Decides.{nat_tests}
use Rattle.serde_json.specs.Data.{Data, Members, no_members, member}
use Rattle.row_text.specs.Laws.{AreBytes, DigestHasBytes, HasBytes, AreAlike}
use Rattle.row_text.specs.Row.{RowView, number_or_null, text_or_null, texts_items, with_bytes, with_parts, with_sha256}
use Rattle.row_text.specs.Row.{size_on, sha256_on, parts_on, directory_on, bytes_on, row_members, row_data}
use Rattle.row_text.specs.Places.{PlacesView}
use Rattle.row_text.specs.Places as places
use Rattle.row_text.specs.Shown.{Text, shown, hex_digit, upper_digit, lower_hex, upper_hex}
use Rattle.row_text.specs.declared.row.Digested.{Digested}
use Rattle.row_text.specs.declared.row.Digested.TheVariants.{Untold, Missing, Of}

-- ---- hexadecimal digits

lower_apart : (m n : ℕ) → m < 16 → n < 16 → hex_digit m ≡ hex_digit n → m ≡ n
lower_apart m n h k e = grind (arith, nat_tests)

upper_apart : (m n : ℕ) → m < 16 → n < 16 → upper_digit m ≡ upper_digit n → m ≡ n
upper_apart m n h k e = grind (arith, nat_tests)

byte_apart : (x y : ℕ) → x / 16 ≡ y / 16 → x % 16 ≡ y % 16 → x ≡ y
byte_apart x y high low = omega arith

pub lower_hex_apart : (xs ys : List ℕ) → AreBytes xs → AreBytes ys → lower_hex xs ≡ lower_hex ys → xs ≡ ys
lower_hex_apart [] [] h k e = refl
lower_hex_apart [] (y ∷ ys) h k e = cc
lower_hex_apart (x ∷ xs) [] h k e = cc
lower_hex_apart (x ∷ xs) (y ∷ ys) h k e =
    let small_x : x < 256 = h 0 in
    let small_y : y < 256 = k 0 in
    let high : hex_digit (x / 16) ≡ hex_digit (y / 16) = cc in
    let low : hex_digit (x % 16) ≡ hex_digit (y % 16) = cc in
    let rest : lower_hex xs ≡ lower_hex ys = cc in
    let high_same = lower_apart (x / 16) (y / 16) (omega arith) (omega arith) high in
    let low_same = lower_apart (x % 16) (y % 16) (omega arith) (omega arith) low in
    ap₂ (λ (b : ℕ) (bs : List ℕ). b ∷ bs) (byte_apart x y high_same low_same)
    (lower_hex_apart xs ys (λ i. h (suc i)) (λ i. k (suc i)) rest)

pub upper_hex_apart : (xs ys : List ℕ) → AreBytes xs → AreBytes ys → upper_hex xs ≡ upper_hex ys → xs ≡ ys
upper_hex_apart [] [] h k e = refl
upper_hex_apart [] (y ∷ ys) h k e = cc
upper_hex_apart (x ∷ xs) [] h k e = cc
upper_hex_apart (x ∷ xs) (y ∷ ys) h k e =
    let small_x : x < 256 = h 0 in
    let small_y : y < 256 = k 0 in
    let high : upper_digit (x / 16) ≡ upper_digit (y / 16) = cc in
    let low : upper_digit (x % 16) ≡ upper_digit (y % 16) = cc in
    let rest : upper_hex xs ≡ upper_hex ys = cc in
    let high_same = upper_apart (x / 16) (y / 16) (omega arith) (omega arith) high in
    let low_same = upper_apart (x % 16) (y % 16) (omega arith) (omega arith) low in
    ap₂ (λ (b : ℕ) (bs : List ℕ). b ∷ bs) (byte_apart x y high_same low_same)
    (upper_hex_apart xs ys (λ i. h (suc i)) (λ i. k (suc i)) rest)

-- ---- values

number_apart : (o p : Option ℕ) → number_or_null o ≡ number_or_null p → o ≡ p
number_apart None None e = refl
number_apart None (Some n) e = cc
number_apart (Some m) None e = cc
number_apart (Some m) (Some n) e = cc

text_apart : (o p : Option (List ℕ)) → text_or_null o ≡ text_or_null p
    → option_map (map shown) o ≡ option_map (map shown) p
text_apart None None e = refl
text_apart None (Some t) e = cc
text_apart (Some s) None e = cc
text_apart (Some s) (Some t) e = let same : map shown s ≡ map shown t = cc in ap Some same

-- ---- digests

-- how many bytes is told alike
abbrev SameCount : Digested → Digested → Type 0
SameCount Untold Untold = ⊤
SameCount Untold Missing = ⊥
SameCount Untold (Of e) = ⊥
SameCount Missing Untold = ⊥
SameCount Missing Missing = ⊤
SameCount Missing (Of e) = ⊥
SameCount (Of d) Untold = ⊥
SameCount (Of d) Missing = ⊥
SameCount (Of d) (Of e) = d.count ≡ e.count

-- the first key
abbrev first_key : Members → List ℕ
first_key no_members = []
first_key (member k d ms) = k

keys_differ : (a b : Data) (ms ns : Members) → member (codes "bytes") a ms ≡ member (codes "created") b ns → ⊥
keys_differ a b ms ns e = let k = ap first_key e in cc

count_apart : (d e : Digested) (a b : Data) (ms ns : Members)
    → with_bytes d (member (codes "created") a ms) ≡ with_bytes e (member (codes "created") b ns)
    → SameCount d e × (a ≡ b) × (ms ≡ ns)
count_apart Untold Untold a b ms ns same = (tt, cc, cc)
count_apart Untold Missing a b ms ns same = absurd (keys_differ _ _ _ _ (sym same))
count_apart Untold (Of e) a b ms ns same = absurd (keys_differ _ _ _ _ (sym same))
count_apart Missing Untold a b ms ns same = absurd (keys_differ _ _ _ _ same)
count_apart Missing Missing a b ms ns same = (tt, cc, cc)
count_apart Missing (Of e) a b ms ns same = absurd cc
count_apart (Of d) Untold a b ms ns same = absurd (keys_differ _ _ _ _ same)
count_apart (Of d) Missing a b ms ns same = absurd cc
count_apart (Of d) (Of e) a b ms ns same = (cc, cc, cc)

sha256_apart : (d e : Digested) (ms ns : Members) → SameCount d e → DigestHasBytes d → DigestHasBytes e
    → with_sha256 d ms ≡ with_sha256 e ns → (d ≡ e) × (ms ≡ ns)
sha256_apart Untold Untold ms ns count h k same = (refl, same)
sha256_apart Untold Missing ms ns count h k same = absurd count
sha256_apart Untold (Of e) ms ns count h k same = absurd count
sha256_apart Missing Untold ms ns count h k same = absurd count
sha256_apart Missing Missing ms ns count h k same = (refl, cc)
sha256_apart Missing (Of e) ms ns count h k same = absurd count
sha256_apart (Of d) Untold ms ns count h k same = absurd count
sha256_apart (Of d) Missing ms ns count h k same = absurd count
sha256_apart (Of d) (Of e) ms ns count h k same =
    let digits : lower_hex d.sha256 ≡ lower_hex e.sha256 = cc in
    let bytes = lower_hex_apart d.sha256 e.sha256 h k digits in
    (ap₂ (λ (count : ℕ) (sha256 : List ℕ). Of (record { count = count; sha256 = sha256 })) count bytes, cc)

-- ---- places

texts_apart : (xs ys : List Text) → texts_items xs ≡ texts_items ys → xs ≡ ys
texts_apart [] [] e = refl
texts_apart [] (y ∷ ys) e = cc
texts_apart (x ∷ xs) [] e = cc
texts_apart (x ∷ xs) (y ∷ ys) e =
    let first : x ≡ y = cc in
    let rest : texts_items xs ≡ texts_items ys = cc in
    ap₂ (λ (text : Text) (texts : List Text). text ∷ texts) first (texts_apart xs ys rest)

parts_differ : (a b : Data) (ms ns : Members) → member (codes "parts") a ms ≡ member (codes "path") b ns → ⊥
parts_differ a b ms ns e = let k = ap first_key e in cc

places_apart : (p q : PlacesView) (a b : Data) (ms ns : Members)
    → with_parts p (member (codes "path") a ms) ≡ with_parts q (member (codes "path") b ns) → (p ≡ q) × (a ≡ b) × (ms ≡ ns)
places_apart places.Untold places.Untold a b ms ns same = (refl, cc, cc)
places_apart places.Untold places.Missing a b ms ns same = absurd (parts_differ _ _ _ _ (sym same))
places_apart places.Untold (places.Of ys) a b ms ns same = absurd (parts_differ _ _ _ _ (sym same))
places_apart places.Missing places.Untold a b ms ns same = absurd (parts_differ _ _ _ _ same)
places_apart places.Missing places.Missing a b ms ns same = (refl, cc, cc)
places_apart places.Missing (places.Of ys) a b ms ns same = absurd cc
places_apart (places.Of xs) places.Untold a b ms ns same = absurd (parts_differ _ _ _ _ same)
places_apart (places.Of xs) places.Missing a b ms ns same = absurd cc
places_apart (places.Of xs) (places.Of ys) a b ms ns same =
    let items : texts_items xs ≡ texts_items ys = cc in
    (ap places.Of (texts_apart xs ys items), cc, cc)

-- ---- rows

pub rows_apart : (r s : RowView) → HasBytes r → HasBytes s → row_data r ≡ row_data s → AreAlike r s
rows_apart r s h k same =
    let first : row_members r ≡ row_members s = cc in
    let access : number_or_null r.access ≡ number_or_null s.access = cc in
    let aux : number_or_null r.aux ≡ number_or_null s.aux = cc in
    let behind : bytes_on r ≡ bytes_on s = cc in
    let counts = count_apart r.digest s.digest _ _ _ _ behind in
    let then : directory_on r ≡ directory_on s = counts.2 in
    let directory : r.directory ≡ s.directory = cc in
    let eof : number_or_null r.eof ≡ number_or_null s.eof = cc in
    let kind : r.kind ≡ s.kind = cc in
    let locked : r.locked ≡ s.locked = cc in
    let modified : text_or_null r.modified ≡ text_or_null s.modified = cc in
    let parts : parts_on r ≡ parts_on s = cc in
    let told = places_apart r.places s.places _ _ _ _ parts in
    let path_value = told.1 in
    let path : map shown r.path ≡ map shown s.path = cc in
    let digests : sha256_on r ≡ sha256_on s = told.2 in
    let last = sha256_apart r.digest s.digest (size_on r) (size_on s) counts.0 h.digest k.digest digests in
    let sizes : size_on r ≡ size_on s = last.1 in
    let size : r.size ≡ s.size = cc in
    let digits : upper_hex r.stored ≡ upper_hex s.stored = cc in
    let type_word : map shown r.type_word ≡ map shown s.type_word = cc in
    record {
      access = number_apart r.access s.access access;
      aux = number_apart r.aux s.aux aux;
      created = text_apart r.created s.created counts.1;
      directory = directory;
      eof = number_apart r.eof s.eof eof;
      kind = kind;
      locked = locked;
      modified = text_apart r.modified s.modified modified;
      path = path;
      size = size;
      stored = upper_hex_apart r.stored s.stored h.stored k.stored digits;
      type_word = type_word;
      digest = last.0;
      places = told.0;
    }
