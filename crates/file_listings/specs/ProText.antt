-- The text of a listing of a ProDOS volume.
use Rattle.std.specs.Prelude.{ℕ, ◌-◌, ◌/◌, ◌%◌, ◌^◌, Bool, false, List, [], ◌∷◌, ◌++◌, map, flat_map, codes, decimal, if◌then◌else◌}
use Rattle.std.specs.Fmt.{padded_integral, format_spec}
use Rattle.std.specs.declared.alloc.Global.{Global}
use Rattle.vol_format.specs.Directory.{Directory, Listed}
use Rattle.file_formats.specs.declared.listing.ListEntry.{ListEntry}
use Rattle.row_text.specs.Shown.{hex_digit, shown}
use Rattle.row_text.specs.declared.volume.FileSystem.TheVariants.{Prodos}
use Rattle.file_listings.specs.DosText.{Text, line}
use Rattle.file_listings.specs.Rows.{head_line, pro_row, row_line, rows_of, volume_of}
use Rattle.file_listings.specs.Known.{FileFacts}
use Rattle.file_listings.specs.declared.style.Style.{Style}
use Rattle.file_listings.specs.declared.style.Style.TheVariants.{Catalog, Entries}
use Rattle.file_formats.specs.Listing.{free_count}
use Rattle.file_formats.specs.ProFiles.{pro_shown}
use Rattle.pro_dates.specs.ShownDates.{date_text}

-- a number right in so many places
abbrev pub right_in : ℕ → ℕ → Text
right_in places n = padded_integral (format_spec 32 0 0 places (2 ^ 64 - 1)) false [] (decimal n)

-- a path, with a slash behind a directory's; each byte is shown as those of DOS names are
abbrev pub path_text : Bool → List ℕ → Text
path_text directory path = if directory then map shown path ++ 47 ∷ [] else map shown path

-- an entry: * where it is locked, $ and its type, blocks used, its length in bytes, its modification, its path
abbrev pub pro_file_line : {A : Type 0} → ListEntry A → Text
pro_file_line file =
    (if file.locked then 42 else 32) ∷ 36 ∷ hex_digit (file.kind / 16) ∷ hex_digit (file.kind % 16) ∷ 32
    ∷ right_in 5 file.size
    ++ 32 ∷ right_in 8 file.eof ++ 32 ∷ date_text file.modified.0 ++ 32 ∷ path_text file.directory file.path

-- the line of an entry of a directory
abbrev pub catalog_line : Listed → Text
catalog_line entry = line (pro_file_line {A = Global} (pro_shown entry))

-- the line of an entry in a style
abbrev pub told_line : {A : Type 0} → Style → ListEntry A → FileFacts → Text
told_line Catalog entry facts = line (pro_file_line entry)
told_line (Entries style) entry facts = row_line style (pro_row entry facts)

-- the lines of the entries of a directory in a style, with what is known of each file
abbrev pub entry_lines : Style → Directory → List FileFacts → List Text
entry_lines Catalog directory facts = map catalog_line directory.listed
entry_lines (Entries style) directory facts =
    map (row_line style) (rows_of {A = Global} pro_row (map pro_shown directory.listed) facts)

-- the lines before and behind them: the volume's name and how many blocks are free, or what is told of the volume as
-- data
abbrev pub first_line : Style → Directory → Text
first_line Catalog directory = line (codes "VOLUME /" ++ map shown directory.name)
first_line (Entries style) directory = head_line style (volume_of Prodos (map shown directory.name) directory)

abbrev pub last_line : Style → Directory → Text
last_line Catalog directory = line (codes "FREE " ++ decimal (free_count directory))
last_line (Entries style) directory = []

abbrev pub directory_text : Style → Directory → List FileFacts → Text
directory_text style directory facts =
    first_line style directory ++ flat_map (λ text. text) (entry_lines style directory facts)
    ++ last_line style directory
