-- What the readers of a DOS 3.3 volume answer of its entries.
use Rattle.std.proofs.Common.{◌≡◌, ◌<◌, ◌≤◌, ◌+◌, ◌-◌, ◌∙◌, ℕ, Bool, List, [], ◌∷◌, ◌++◌, length, take, map, get_or, subst, replicate, suc, sym, ap, arith}
use Rattle.std.specs.Prelude.{bit_or, ◌%◌, Result, IfOk, slice_index, slice_range, slice_set}
use Rattle.std.proofs.Math.Seq.{set-append_seam}
use Rattle.std.proofs.lemmas.List.{get_or-drop, map_more, length-map, length-take-le, append_assoc}
use Rattle.dos_catalog.specs.declared.entry.Entry.{Entry}
use Rattle.vol_format.specs.Directory.{Listed, entries, entry_of}
use Rattle.dos_format.specs.Dos.{dos_directory, dos_entry}
use Rattle.dos_format.specs.lemmas.DosDirectory.{entry_of-dos, length-numbered}
use Rattle.file_formats.specs.declared.listing.ListEntry.{ListEntry}
use Rattle.file_formats.specs.Catalog.{list_entry}
use Rattle.file_formats.specs.FileNames.{FileNameView}
use Rattle.file_formats.specs.DosFiles.{dos_shown, dos_matches, dos_body}
use Rattle.file_formats.specs.lemmas.DosShown.{list_entry-dos}

-- the name, one byte more of it
pub name_more : (path : List ℕ) (i : ℕ) → i < length path → length path ≤ 30
    → slice_set (map (λ byte. bit_or byte 0x80) (take i path) ++ replicate (30 - i) 0xa0) i (bit_or (get_or path i 0) 0x80)
    ≡ map (λ byte. bit_or byte 0x80) (take (i + 1) path) ++ replicate (30 - (i + 1)) 0xa0
name_more path i within short =
    let front = map high (take i path) in
    let rest : List ℕ = replicate (30 - (i + 1)) 0xa0 in
    let value = high (get_or path i 0) in
    let size : length front ≡ i = length-map (take i path) high ∙ length-take-le i path (omega (arith, within)) in
    let left : 30 - i ≡ suc (30 - (i + 1)) = omega (arith, within, short) in
    ap (λ n. slice_set (front ++ replicate n 0xa0) i value) left
    ∙ ap (λ n. slice_set (front ++ 0xa0 ∷ rest) n value) (sym size)
    ∙ set-append_seam front 0xa0 rest value
    ∙ sym (append_assoc front (value ∷ []) rest)
    ∙ ap (λ (xs : List ℕ). xs ++ rest) (sym (map_more high path i 0 within))
  where
    high : ℕ → ℕ
    high byte = bit_or byte 0x80

-- an entry of the catalog that was read, by its number
module _ (data_disk : Bool) (reserved : List Bool) (vtoc : List ℕ) (all shown : List Entry) (file : ℕ) (e : Entry) (is : shown ≡ all)
    (inside : file < entries (dos_directory data_disk reserved vtoc all)) where
  pub entry_read : entry_of (dos_directory data_disk reserved vtoc all) file ≡ dos_entry file (get_or shown file e)
  entry_read = entry_of-dos data_disk reserved vtoc all file e (omega (arith, length-numbered 0 all, inside)) ∙ ap (λ es. dos_entry file (get_or es file e)) (sym is)

  pub matches-dos : (given : FileNameView) (name : List ℕ) (answer : Bool) → answer ≡ dos_matches given name → name ≡ slice_range (get_or shown file e).bytes 3 33
      → answer ≡ dos_matches given (entry_of (dos_directory data_disk reserved vtoc all) file).path
  matches-dos given name answer answer_is name_is = answer_is ∙ ap (dos_matches given) (name_is ∙ sym (ap (λ (entry : Listed). entry.path) entry_read))

  pub shown-dos : {A E : Type 0} (result : Result (ListEntry A) E) → IfOk result (λ listed. listed ≡ list_entry (get_or shown file e))
      → IfOk result (λ listed. listed ≡ dos_shown (entry_of (dos_directory data_disk reserved vtoc all) file))
  shown-dos {A} result listed =
      subst (λ (entry : ListEntry A). IfOk result (λ one. one ≡ entry)) (list_entry-dos file (get_or shown file e) ∙ ap (λ (entry : Listed). dos_shown entry) (sym entry_read)) listed

  pub body-dos : (kind : ℕ) (text body : List ℕ) → kind ≡ slice_index (get_or shown file e).bytes 2 % 128 → body ≡ dos_body kind text
      → body ≡ dos_body (slice_index (entry_of (dos_directory data_disk reserved vtoc all) file).bytes 0 % 128) text
  body-dos kind text body kind_is body_is =
      body_is
      ∙ ap (λ n. dos_body n text) (kind_is ∙ ap (λ n. n % 128) (sym (get_or-drop 2 (get_or shown file e).bytes 0 0))
      ∙ sym (ap (λ (entry : Listed). slice_index entry.bytes 0 % 128) entry_read))
