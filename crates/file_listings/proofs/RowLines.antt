-- The rows of some entries by their number, and how many lines entries have.
use Rattle.std.proofs.Common.{◌≡◌, ◌<◌, ◌∙◌, ℕ, zero, suc, ◌+◌, List, [], ◌∷◌, ◌++◌, length, map, flat_map, drop, take, get_or, append_assoc, refl, sym, ap, arith}
use Rattle.std.specs.Prelude.{slice_index_or}
use Rattle.std.specs.declared.alloc.Global.{Global}
use Rattle.std.proofs.lemmas.List.{append-nil, get_or-map, length-map, take_more}
use Rattle.std.proofs.lemmas.Grind.{flat_map-append}
use Rattle.row_text.specs.Row.{RowView, VolumeView}
use Rattle.vol_format.specs.Directory.{Directory, entries, entry_of, no_entry}
use Rattle.file_formats.specs.ProFiles.{pro_shown}
use Rattle.file_formats.specs.declared.listing.ListEntry.{ListEntry}
use Rattle.file_listings.specs.DosText.{Text}
use Rattle.file_listings.specs.ProText.{catalog_line, entry_lines, told_line}
use Rattle.row_text.specs.Shown.{shown}
use Rattle.row_text.specs.declared.volume.FileSystem.TheVariants.{Prodos}
use Rattle.file_formats.specs.Listing.{free_count}
use Rattle.file_listings.specs.Rows.{dos_row, first_facts, head_line, pro_row, row_line, rows_of, rows_text, volume_of}
use Rattle.file_listings.specs.Known.{FileFacts, no_facts}
use Rattle.file_listings.specs.declared.style.EntryStyle.{EntryStyle}
use Rattle.file_listings.specs.declared.style.Style.{Style}
use Rattle.file_listings.specs.declared.style.Style.TheVariants.{Catalog, Entries}

-- an element by its number, behind the first
facts_behind : (facts : List FileFacts) (n : ℕ) → get_or (drop 1 facts) n no_facts ≡ get_or facts (n + 1) no_facts
facts_behind [] zero = refl
facts_behind [] (suc n) = refl
facts_behind (known ∷ facts) n = let next : suc n ≡ n + 1 = omega arith in ap (λ (k : ℕ). get_or (known ∷ facts) k no_facts) next

first_known : (facts : List FileFacts) → first_facts facts ≡ get_or facts 0 no_facts
first_known [] = refl
first_known (known ∷ facts) = refl

module _ {A : Type 0} (row : ListEntry A → FileFacts → RowView) where
  pub length-rows : (files : List (ListEntry A)) (facts : List FileFacts) → length (rows_of row files facts) ≡ length files
  length-rows [] facts = refl
  length-rows (file ∷ files) facts = ap (λ n. suc n) (length-rows files (drop 1 facts))

  pub row_at : (files : List (ListEntry A)) (facts : List FileFacts) (n : ℕ) (none : RowView) (file : ListEntry A) → n < length files
      → get_or (rows_of row files facts) n none ≡ row (get_or files n file) (get_or facts n no_facts)
  row_at [] facts n none file low = absurd (omega (arith, low))
  row_at (first ∷ files) facts zero none file low = ap (row first) (first_known facts)
  row_at (first ∷ files) facts (suc n) none file low =
      let next : n + 1 ≡ suc n = omega arith in
      row_at files (drop 1 facts) n none file (omega (arith, low))
      ∙ ap (row (get_or files n file)) (facts_behind facts n ∙ ap (λ (k : ℕ). get_or facts k no_facts) next)

pub length-lines : (style : Style) (directory : Directory) (facts : List FileFacts) → length (entry_lines style directory facts) ≡ entries directory
length-lines Catalog directory facts = length-map directory.listed catalog_line
length-lines (Entries style) directory facts =
    length-map (rows_of {A = Global} pro_row (map pro_shown directory.listed) facts) (row_line style)
    ∙ length-rows {A = Global} pro_row (map pro_shown directory.listed) facts
    ∙ length-map directory.listed (pro_shown {A = Global})

-- the line of an entry by its number
module _ (directory : Directory) (facts : List FileFacts) (n : ℕ) (low : n < entries directory) where
  pub catalog_line_at : get_or (map catalog_line directory.listed) n [] ≡ catalog_line (entry_of directory n)
  catalog_line_at = get_or-map catalog_line directory.listed n no_entry [] low

  pub row_line_at : (style : EntryStyle) (none : RowView) → get_or (entry_lines (Entries style) directory facts) n []
      ≡ row_line style (pro_row {A = Global} (pro_shown (entry_of directory n)) (slice_index_or facts n no_facts))
  row_line_at style none =
      let shown : List (ListEntry Global) = map pro_shown directory.listed in
      let in_shown : n < length shown = omega (arith, low, length-map directory.listed (pro_shown {A = Global})) in
      get_or-map (row_line style) (rows_of {A = Global} pro_row shown facts) n none [] (omega (arith, in_shown, length-rows {A = Global} pro_row shown facts))
      ∙ ap (row_line style) (row_at {A = Global} pro_row shown facts n none (pro_shown no_entry) in_shown
      ∙ ap (λ (file : ListEntry Global). pro_row file (slice_index_or facts n no_facts)) (get_or-map (pro_shown {A = Global}) directory.listed n no_entry (pro_shown no_entry) low))

-- whatever memory an entry's path stands in
pub line_at : (A : Type 0) (directory : Directory) (facts : List FileFacts) (n : ℕ) (none : RowView) → n < entries directory → (style : Style)
    → slice_index_or (entry_lines style directory facts) n []
    ≡ told_line {A = A} style (pro_shown (entry_of directory n)) (slice_index_or facts n no_facts)
line_at A directory facts n none low Catalog = catalog_line_at directory facts n low
line_at A directory facts n none low (Entries style) = row_line_at directory facts n low style none

-- what is told of a volume whose directory has so many entries, free places and places, and this name
pub told_of : {X : Type 0} (directory : Directory) (listed : List X) (free places : ℕ) (name : List ℕ) → length listed ≡ entries directory
    → free ≡ free_count directory → places ≡ directory.places → name ≡ directory.name
    → record { entries = length listed; free = free; file_system = Prodos; places = places; volume = map shown name }
    ≡ volume_of Prodos (map shown directory.name) directory
told_of directory listed free places name many free_is places_are named = rw (many, free_is, places_are, named) refl

-- the text of some rows, with one row more
rows_more : (style : EntryStyle) (volume : VolumeView) (rows : List RowView) (n : ℕ) (none : RowView) → n < length rows
    → rows_text style volume (take (n + 1) rows) ≡ rows_text style volume (take n rows) ++ row_line style (get_or rows n none)
rows_more style volume rows n none low =
    let row = get_or rows n none in
    ap (λ (rs : List RowView). head_line style volume ++ flat_map (row_line style) rs) (take_more rows n none low)
    ∙ ap (λ (text : Text). head_line style volume ++ text) (flat_map-append (row_line style) (take n rows) (row ∷ []))
    ∙ sym (append_assoc (head_line style volume) (flat_map (row_line style) (take n rows)) (flat_map (row_line style) (row ∷ [])))
    ∙ ap (λ (text : Text). rows_text style volume (take n rows) ++ text) (append-nil (row_line style row))

pub dos_more : {A : Type 0} (style : EntryStyle) (volume : VolumeView) (files : List (ListEntry A)) (facts : List FileFacts) (n : ℕ) (none : RowView)
    (file : ListEntry A) → n < length files
    → rows_text style volume (take (n + 1) (rows_of dos_row files facts))
    ≡ rows_text style volume (take n (rows_of dos_row files facts)) ++ row_line style (dos_row (get_or files n file) (get_or facts n no_facts))
dos_more style volume files facts n none file low =
    let rows = rows_of dos_row files facts in
    rows_more style volume rows n none (omega (arith, low, length-rows dos_row files facts))
    ∙ ap (λ (row : RowView). rows_text style volume (take n rows) ++ row_line style row) (row_at dos_row files facts n none file low)
