-- The parts of a file, as a list of JSON.
use Rattle.std.proofs.Common.{◌≡◌, ◌∙◌, ℕ, true, ◌/◌, ◌%◌, ◌^◌, ◌-◌, ◌<◌, ◌≤◌, List, [], ◌∷◌, ◌++◌, map, drop, take, take_all, length, get_or, refl, sym, ap, ap₂, arith, append_assoc, codes, decimal}
use Rattle.std.specs.Prelude.{flat_map}
use Rattle.std.proofs.lemmas.Grind.{flat_map-append}
use Rattle.a2_device.specs.declared.part.Part.{Part}
use Rattle.a2_device.specs.declared.part.PartKind.{PartKind}
use Rattle.a2_device.specs.declared.part.PartKind.TheVariants as kinds
use Rattle.json.specs.Print.{escape, escape_byte, quoted}
use Rattle.vol_layout.specs.Reserved.{told_place}
use Rattle.vol_layout.specs.declared.form.PlaceForm.{PlaceForm}
use Rattle.vol_layout.specs.declared.form.PlaceForm.TheVariants.{Sector, Block}
use Rattle.serde_json.specs.Written.{compact_text, items_text}
use Rattle.row_text.specs.Places.{kind_word, part_text}
use Rattle.row_text.specs.Row.{texts_items, texts_value}
use Rattle.row_text.specs.Shown.{Text}
use Rattle.row_text.proofs.Plain.{escape_decimal}

-- ---- no character of a part's text is escaped

abbrev Stands : Text → Type 0
Stands text = escape text ≡ text

both_stand : (front behind : Text) → Stands front → Stands behind → Stands (front ++ behind)
both_stand front behind h k = flat_map-append escape_byte front behind ∙ ap₂ (λ (xs ys : Text). xs ++ ys) h k

kind_stands : (kind : PartKind) → Stands (kind_word kind)
unfolding escape_byte
kind_stands kinds.List = refl
kind_stands kinds.Master = refl
kind_stands kinds.Index = refl
kind_stands kinds.Body = refl

space_stands : (text : Text) → Stands text → Stands (32 ∷ text)
unfolding escape_byte
space_stands text h = ap (λ (xs : Text). 32 ∷ xs) h

slash_stands : (text : Text) → Stands text → Stands (47 ∷ text)
unfolding escape_byte
slash_stands text h = ap (λ (xs : Text). 47 ∷ xs) h

block_stands : Stands (codes "block ")
unfolding escape_byte
block_stands = refl

place_stands : (form : PlaceForm) (place : ℕ) → place < 2 ^ 64 → Stands (told_place form place)
place_stands Sector place h =
    both_stand (decimal (place / 16)) (47 ∷ decimal (place % 16)) (escape_decimal (place / 16) (omega arith))
    (slash_stands (decimal (place % 16)) (escape_decimal (place % 16) (omega arith)))
place_stands Block place h = both_stand (codes "block ") (decimal place) block_stands (escape_decimal place h)

pub part_stands : (form : PlaceForm) (part : Part) → part.number < 2 ^ 64 → part.place < 2 ^ 64 → Stands (part_text form part)
part_stands form part number place =
    let placed = told_place form part.place in
    both_stand (kind_word part.kind) (32 ∷ (decimal part.number ++ (32 ∷ placed))) (kind_stands part.kind)
    (space_stands (decimal part.number ++ (32 ∷ placed))
    (both_stand (decimal part.number) (32 ∷ placed) (escape_decimal part.number number) (space_stands placed (place_stands form part.place place))))

-- ---- their list

-- a part behind another
abbrev pub later_part : PlaceForm → Part → Text
later_part form part = 44 ∷ quoted (part_text form part)

later_items : (form : PlaceForm) (parts : List Part)
    → items_text true (texts_items (map (part_text form) parts)) ≡ flat_map (later_part form) parts ++ 93 ∷ []
later_items form [] = refl
later_items form (part ∷ parts) =
    let text = quoted (part_text form part) in
    ap (λ (more : Text). 44 ∷ (text ++ more)) (later_items form parts)
    ∙ ap (λ (more : Text). 44 ∷ more) (sym (append_assoc text (flat_map (later_part form) parts) (93 ∷ [])))

pub list_text : (form : PlaceForm) (parts : List Part) (d : Part) → 1 ≤ length parts
    → 91 ∷ (quoted (part_text form (get_or parts 0 d)) ++ (flat_map (later_part form) (take (length parts - 1) (drop 1 parts)) ++ 93 ∷ []))
    ≡ compact_text (texts_value (map (part_text form) parts))
list_text form [] d some = absurd (omega (arith, some))
list_text form (part ∷ parts) d some =
    let text = quoted (part_text form part) in
    ap (λ (later : List Part). 91 ∷ (text ++ (flat_map (later_part form) later ++ 93 ∷ []))) (take_all (length (part ∷ parts) - 1) parts (omega arith))
    ∙ ap (λ (more : Text). 91 ∷ (text ++ more)) (sym (later_items form parts))
