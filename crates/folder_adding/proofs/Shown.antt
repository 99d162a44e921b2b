-- The paths of files as listings show them.
use Rattle.std.proofs.Common.{◌≡◌, ◌∙◌, ◌+◌, ◌-◌, ◌%◌, ◌<◌, ◌++◌, ℕ, zero, suc, Bool, true, false, List, [], ◌∷◌, ap, arith, length, refl, replicate, sym}
use Rattle.std.specs.Prelude.{◌&&◌, bit_or, map}
use Rattle.std.specs.Char.{to_ascii_uppercase}
use Rattle.std.specs.List.{list_all}
use Rattle.std.proofs.lemmas.List.{map-append}
use Rattle.std.proofs.lemmas.Grind.{or_numeral}
use Rattle.edit_formats.specs.DosNames.{is_dos_name, is_name_byte}
use Rattle.file_formats.specs.DosFiles.{dos_name}
use Rattle.file_listings.specs.DosText.{Text, name_text, unless_space, without_last_spaces}
use Rattle.folder_adding.specs.AddedText.{listed_path, shown_capital}
use Rattle.folder_adding.specs.Listed.{IsToldAsListed}
use Rattle.pro_dir.specs.Paths.{folded}
use Rattle.row_text.specs.Shown.{shown}
use Rattle.shop_jobs.specs.declared.input.FileSystem.TheVariants.{Dos, Prodos}
use Rattle.vol_format.specs.Directory.{Listed}

both_left : (a b : Bool) → (a && b) ≡ true → a ≡ true
both_left true b is = refl
both_left false b is = is

both_right : (a b : Bool) → (a && b) ≡ true → b ≡ true
both_right true b is = is
both_right false b is = absurd (cc)

-- ---- DOS 3.3

name_byte_small : (byte : ℕ) → is_name_byte byte ≡ true → byte < 128
name_byte_small byte = grind arith

high_shown : (byte : ℕ) → byte < 128 → shown (bit_or byte 0x80) ≡ shown byte
high_shown byte small =
    let high : bit_or byte 0x80 ≡ 0x80 + byte = or_numeral byte 127 refl small in
    let low : (0x80 + byte) % 128 ≡ byte % 128 = omega arith in
    rw (high, low) refl

highs_shown : (path : List ℕ) → list_all is_name_byte path ≡ true → map shown (map (λ byte. bit_or byte 0x80) path) ≡ map shown path
highs_shown [] is = refl
highs_shown (byte ∷ path) is =
    let first = high_shown byte (name_byte_small byte (both_left (is_name_byte byte) (list_all is_name_byte path) is)) in
    let rest = highs_shown path (both_right (is_name_byte byte) (list_all is_name_byte path) is) in
    ap (λ (x : ℕ). x ∷ map shown (map (λ byte. bit_or byte 0x80) path)) first ∙ ap (λ (xs : Text). shown byte ∷ xs) rest

spaces_shown : (count : ℕ) → map shown (replicate count 0xa0) ≡ replicate count 32
spaces_shown zero = refl
spaces_shown (suc count) = ap (λ (xs : Text). 32 ∷ xs) (spaces_shown count)

none_left : (count : ℕ) → without_last_spaces (replicate count 32) ≡ []
none_left zero = refl
none_left (suc count) = ap (unless_space 32) (none_left count)

spaces_dropped : (text : Text) (count : ℕ) → without_last_spaces (text ++ replicate count 32) ≡ without_last_spaces text
spaces_dropped [] count = none_left count
spaces_dropped (x ∷ text) count = ap (unless_space x) (spaces_dropped text count)

name_bytes : (path : List ℕ) → is_dos_name path ≡ true → list_all is_name_byte path ≡ true
name_bytes path is = both_right _ (list_all is_name_byte path) is

dos_shown : (path : List ℕ) → is_dos_name path ≡ true → name_text path ≡ name_text (dos_name path)
dos_shown path is =
    let count = 30 - length path in
    let high = map (λ byte. bit_or byte 0x80) path in
    sym (ap without_last_spaces (map-append shown high (replicate count 0xa0)
    ∙ ap (λ (front : Text). front ++ map shown (replicate count 0xa0)) (highs_shown path (name_bytes path is))
    ∙ ap (λ (rear : Text). map shown path ++ rear) (spaces_shown count))
    ∙ spaces_dropped (map shown path) count)

-- ---- ProDOS

capitals_shown : (path : List ℕ) → map shown_capital path ≡ map shown (folded path)
capitals_shown [] = refl
capitals_shown (byte ∷ path) = ap (λ (xs : Text). shown (to_ascii_uppercase byte) ∷ xs) (capitals_shown path)

pub told_as_listed : IsToldAsListed
told_as_listed Dos store path slot attributes extent at entry is =
    dos_shown path is.name ∙ ap name_text (sym (ap (λ (e : Listed). e.path) is.is))
told_as_listed Prodos store path slot attributes extent at entry is = capitals_shown path ∙ ap (λ (p : List ℕ). map shown p) (sym is.path_is)
