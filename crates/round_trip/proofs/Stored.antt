-- The path that is stored of a file is the one that it had.
use Rattle.std.proofs.Common.{◌≡◌, ◌≤◌, ◌<◌, ◌+◌, ◌-◌, ◌∙◌, ℕ, suc, zero, Bool, true, false, List, [], ◌∷◌, ◌++◌, Option, length, refl, replicate, sym, ap, ap₂, subst, arith, take, drop}
use Rattle.std.specs.Prelude.{◌&&◌, ◌==◌, bit_or, cond, map, reverse}
use Rattle.std.specs.List.{list_all, prefix_len, suffix_len}
use Rattle.std.proofs.lemmas.Bool.{eqb-true}
use Rattle.std.proofs.lemmas.Grind.{or_numeral}
use Rattle.std.proofs.lemmas.List.{append_assoc, length-append, length-map, length-replicate, replicate-append-replicate, reverse-append, reverse-reverse, take_at}
use Rattle.file_formats.specs.DosFiles.{dos_name, filled_name}
use Rattle.folder_adding.specs.HostPaths.{Text, characters, is_stored_character, may_have}
use Rattle.folder_adding.specs.Verdicts.{AddedFolder}
use Rattle.host_folders.specs.declared.said.Content.TheVariants.{Bytes}
use Rattle.host_folders.specs.HostNames.{name_bytes, without_end}
use Rattle.vol_layout.specs.declared.form.PlaceForm.TheVariants.{Sector}
use Rattle.round_trip.specs.Extracted.{Extracted, IsExtracted, entry_in, item_in, said_of}
use Rattle.round_trip.specs.Planned.{MayBeNew, path_again}
use Rattle.round_trip.specs.Stored.{IsStoredAgain, stored_again}
use Rattle.round_trip.specs.Whole.{IsFileIn}
use Rattle.round_trip.proofs.Items.{known}
use Rattle.edit_formats.specs.declared.target.Attributes.{Attributes}
use Rattle.edit_formats.specs.declared.target.Extent.{Extent}
use Rattle.edit_formats.specs.declared.target.Slot.{Slot}
use Rattle.shop_changes.specs.EditRules.{edits_of}
use Rattle.shop_commands.specs.Extracting.{own_of}
use Rattle.shop_jobs.specs.declared.input.FileSystem.{FileSystem}
use Rattle.shop_jobs.specs.declared.input.FileSystem.TheVariants.{Dos, Prodos}
use Rattle.shop_replies.specs.Volume.{form_of}
use Rattle.vol_format.specs.Directory.{Listed}

-- ---- a name without the spaces at its end, and these

abbrev is_space : ℕ → Bool
is_space byte = byte == 0xa0

spaces_first : (text : List ℕ) → text ≡ replicate (prefix_len is_space text) 0xa0 ++ drop (prefix_len is_space text) text
spaces_first [] = refl
spaces_first (byte ∷ text) = by_first (spaces_first text) (byte == 0xa0) refl
  where
    by_first : text ≡ replicate (prefix_len is_space text) 0xa0 ++ drop (prefix_len is_space text) text → (space : Bool) → (byte == 0xa0) ≡ space
        → byte ∷ text ≡ replicate (prefix_len is_space (byte ∷ text)) 0xa0 ++ drop (prefix_len is_space (byte ∷ text)) (byte ∷ text)
    by_first rest true is =
        let count : prefix_len is_space (byte ∷ text) ≡ suc (prefix_len is_space text) =
        ap (λ (b : Bool). cond b (1 + prefix_len is_space text) 0) is ∙ omega arith in
        let first : byte ≡ 0xa0 = eqb-true byte 0xa0 is in
        ap₂ (λ (x : ℕ) (xs : List ℕ). x ∷ xs) first rest
        ∙ ap (λ (n : ℕ). replicate n 0xa0 ++ drop n (byte ∷ text)) (sym count)
    by_first rest false is =
        let count : prefix_len is_space (byte ∷ text) ≡ 0 = ap (λ (b : Bool). cond b (1 + prefix_len is_space text) 0) is in
        ap (λ (n : ℕ). replicate n 0xa0 ++ drop n (byte ∷ text)) (sym count)

abbrev spaces : ℕ → List ℕ
spaces count = replicate count 0xa0

reversed_spaces : (count : ℕ) → reverse (spaces count) ≡ spaces count
reversed_spaces zero = refl
reversed_spaces (suc count) =
    let more : count + 1 ≡ suc count = omega arith in
    reverse-append (spaces 1) (spaces count)
    ∙ ap (λ (text : List ℕ). text ++ spaces 1) (reversed_spaces count)
    ∙ replicate-append-replicate {A = ℕ} count 1 0xa0 ∙ ap spaces more

filled : (name : List ℕ) → name ≡ without_end 0xa0 name ++ spaces (suffix_len is_space name)
filled name =
    let count = suffix_len is_space name in
    let front = reverse (drop count (reverse name)) in
    let split : name ≡ front ++ spaces count =
    sym (reverse-reverse name) ∙ ap reverse (spaces_first (reverse name))
    ∙ reverse-append (spaces count) (drop count (reverse name)) ∙ ap (λ (behind : List ℕ). front ++ behind) (reversed_spaces count) in
    let long : length name - count ≡ length front =
    omega (arith, ap length split, length-append front (spaces count), length-replicate {A = ℕ} count 0xa0) in
    let same : without_end 0xa0 name ≡ front =
    ap (λ (n : ℕ). take n name) long ∙ ap (take (length front)) split ∙ take_at front (spaces count) (length front) refl in
    split ∙ ap (λ (text : List ℕ). text ++ spaces count) (sym same)

-- ---- DOS 3.3

both_left : (a b : Bool) → (a && b) ≡ true → a ≡ true
both_left true b is = refl
both_left false b is = is

both_right : (a b : Bool) → (a && b) ≡ true → b ≡ true
both_right true b is = is
both_right false b is = absurd cc

high_range : (byte : ℕ) → is_stored_character byte ≡ true → (0x80 ≤ byte) × (byte < 256)
high_range byte is = (grind (arith, is), grind (arith, is))

high_again : (byte : ℕ) → is_stored_character byte ≡ true → bit_or (byte - 0x80) 0x80 ≡ byte
high_again byte is =
    let range = high_range byte is in
    or_numeral (byte - 0x80) 127 refl (omega (arith, range.0, range.1)) ∙ omega (arith, range.0)

characters_again : (name : List ℕ) → list_all is_stored_character name ≡ true → map (λ byte. bit_or byte 0x80) (characters name) ≡ name
characters_again [] is = refl
characters_again (byte ∷ name) is =
    ap₂ (λ (first : ℕ) (rest : List ℕ). first ∷ rest) (high_again byte (both_left (is_stored_character byte) (list_all is_stored_character name) is))
    (characters_again name (both_right (is_stored_character byte) (list_all is_stored_character name) is))

dos_again : (name : List ℕ) → length name ≤ 30 → list_all is_stored_character (without_end 0xa0 name) ≡ true
    → dos_name (characters (without_end 0xa0 name)) ≡ filled_name name
dos_again name short stored =
    let front = without_end 0xa0 name in
    let count = suffix_len is_space name in
    let long : length name ≡ length front + count = ap length (filled name) ∙ length-append front (spaces count) ∙ ap (λ n. length front + n) (length-replicate {A = ℕ} count 0xa0) in
    ap₂ (λ (text : List ℕ) (n : ℕ). text ++ spaces n) (characters_again front stored) (omega (arith, length-map front (λ (byte : ℕ). byte - 0x80), long))
    ∙ ap (λ (behind : List ℕ). front ++ behind) (sym (replicate-append-replicate {A = ℕ} count (30 - length name) 0xa0))
    ∙ sym (append_assoc front (spaces count) (spaces (30 - length name)))
    ∙ ap (λ (text : List ℕ). text ++ spaces (30 - length name)) (sym (filled name))

module _ (e : Extracted) (is : IsExtracted e) (number : ℕ) (inside : number < length e.items) (may : MayBeNew e number) where
  dos_stored : e.volume.file_system ≡ Dos → dos_name (characters (name_bytes Sector (entry_in e number).path)) ≡ filled_name (entry_in e number).path
  dos_stored dos =
      let k = known e is number inside in
      let path = (entry_in e number).path in
      let own : (item_in e number).entry.name ≡ path =
      k.name ∙ ap (λ (file_system : FileSystem). own_of file_system (entry_in e number)) dos in
      let short : length path ≤ 30 = subst (λ (name : List ℕ). length name ≤ 30) own k.short in
      let names : may_have Dos (said_of e number Bytes) ≡ true =
      ap (λ (file_system : FileSystem). may_have file_system (said_of e number Bytes)) (sym dos) ∙ may.names in
      let stored : list_all is_stored_character (name_bytes Sector path) ≡ true =
      ap (λ (name : List ℕ). list_all is_stored_character name) (sym (ap₂ name_bytes (k.form ∙ ap form_of dos) own))
      ∙ both_left (list_all is_stored_character (said_of e number Bytes).file.name) _ names in
      dos_again path short stored

  stored_by : (file_system : FileSystem) (into : Option Text) → e.volume.file_system ≡ file_system → (store : List (List ℕ)) (slot : Slot)
      (attributes : Attributes) (extent : Extent) (at : ℕ) (entry : Listed)
      → (edits_of file_system).save.IsEntry store (path_again file_system into (entry_in e number)) slot attributes extent at entry
      → entry.path ≡ stored_again file_system into (entry_in e number)
  stored_by Dos into dos store slot attributes extent at entry is_entry = ap (λ (entry : Listed). entry.path) is_entry.is ∙ dos_stored dos
  stored_by Prodos into prodos store slot attributes extent at entry is_entry = is_entry.path_is

pub stored : (e : Extracted) (folder : AddedFolder) (number : ℕ) → IsExtracted e → folder.file_system ≡ e.volume.file_system → IsFileIn e number
    → MayBeNew e number → IsStoredAgain folder e number
stored e folder number is same of may = stored_by e is number of.0 may folder.file_system folder.into (sym same)
