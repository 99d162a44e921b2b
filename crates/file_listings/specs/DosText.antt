-- The text of a listing of a DOS 3.3 volume.
use Rattle.std.specs.Prelude.{◌≡◌, ℕ, ◌-◌, ◌^◌, ◌==◌, false, List, [], ◌∷◌, ◌++◌, map, flat_map, codes, decimal, slice_index, if◌then◌else◌, take, length}
use Rattle.std.specs.Fmt.{padded_integral, format_spec}
use Rattle.std.specs.declared.alloc.Global.{Global}
use Rattle.a2_device.specs.Device.{unit_at}
use Rattle.dos_vtoc.specs.Vtoc.{HasGeometry, volume_number, free_count_of}
use Rattle.dos_catalog.specs.declared.entry.Entry.{Entry}
use Rattle.dos_catalog.specs.Entry.{entries_in}
use Rattle.dos_catalog.specs.Catalog.{IsCatalog}
use Rattle.file_formats.specs.declared.listing.ListEntry.{ListEntry}
use Rattle.file_formats.specs.declared.listing.Listing.{Listing}
use Rattle.vol_format.specs.Directory.{Directory}
use Rattle.file_formats.specs.Catalog.{list_entry}
use Rattle.file_formats.specs.DosFiles.{dos_shown}
use Rattle.file_formats.specs.Listing.{free_count}
use Rattle.row_text.specs.Shown.{shown}

-- a text, as the bytes of ASCII
abbrev pub Text : Type 0
Text = List ℕ

-- the letter of a kind of file: T I A B S R, a for 20, b for 40, ? for any other
abbrev pub letter_of : ℕ → ℕ
letter_of kind = if kind == 0 then 84 else (if kind == 1 then 73 else (if kind == 2 then 65
    else (if kind == 4 then 66 else (if kind == 8 then 83 else (if kind == 0x10 then 82
    else (if kind == 0x20 then 97 else (if kind == 0x40 then 98 else 63)))))))

-- a text without the spaces at its end
abbrev pub unless_space : ℕ → Text → Text
unless_space x [] = if x == 32 then [] else x ∷ []
unless_space x (y ∷ ys) = x ∷ y ∷ ys

abbrev pub without_last_spaces : Text → Text
without_last_spaces [] = []
without_last_spaces (x ∷ xs) = unless_space x (without_last_spaces xs)

abbrev pub name_text : Text → Text
name_text name = without_last_spaces (map shown name)

-- the bytes of a name that are shown
abbrev pub name_part : List ℕ → List ℕ
name_part name = take (length (name_text name)) name

-- a number with at least three digits
abbrev pub three_digits : ℕ → Text
three_digits n = padded_integral (format_spec 32 0 4 3 (2 ^ 64 - 1)) false [] (decimal n)

-- a file: * where it is locked, its kind, its length in sectors, its name
abbrev pub file_line : {A : Type 0} → ListEntry A → Text
file_line file = (if file.locked then 42 else 32) ∷ letter_of file.kind ∷ 32 ∷ three_digits file.size ++ 32
    ∷ name_text file.path

-- a line ends with a newline
abbrev pub line : Text → Text
line text = text ++ 10 ∷ []

-- the volume number, a line for each file, and how many sectors are free
abbrev pub lines_of : {A : Type 0} → ℕ → List (ListEntry A) → ℕ → Text
lines_of volume files free = line (codes "DISK VOLUME " ++ decimal volume)
    ++ flat_map (λ file. line (file_line file)) files
    ++ line (codes "FREE " ++ decimal free)

abbrev pub listing_text : {A : Type 0} → Listing A → Text
listing_text listing = lines_of (slice_index listing.volume 0) listing.entries.items listing.free

-- the listing of a directory: its number, a line for each file, and how many sectors are free
abbrev pub catalog_text : Directory → Text
catalog_text directory = lines_of {A = Global} (slice_index directory.name 0) (map dos_shown directory.listed)
    (free_count directory)

-- the line of an entry of the catalog
abbrev pub entry_line : Entry → Text
entry_line entry = file_line {A = Global} (list_entry entry)

-- the text of a store's listing: its VTOC has the geometry, and its catalog's entries in use have a line each, in order
pub record IsListingText (store : List (List ℕ)) (text : Text) : Type 0 where
  pub geometry : HasGeometry (unit_at store 272)
  pub sectors : List ℕ
  pub catalog : IsCatalog store sectors
  pub is : text ≡ line (codes "DISK VOLUME " ++ decimal (volume_number (unit_at store 272)))
      ++ flat_map (λ entry. line (entry_line entry)) (entries_in store sectors)
      ++ line (codes "FREE " ++ decimal (free_count_of (unit_at store 272)))
