-- The text of items that were saved, and of entries that were passed over.
use Rattle.std.specs.Prelude.{ℕ, List, [], ◌++◌, codes, decimal, flat_map, length, map, slice_get}
use Rattle.std.specs.Char.{to_ascii_uppercase}
use Rattle.std.specs.Option.{option_map_or}
use Rattle.file_listings.specs.DosText.{Text, line, name_text}
use Rattle.folder_adding.specs.HostEntries.{EntryView}
use Rattle.folder_adding.specs.Items.{BatchView, ItemView}
use Rattle.row_text.specs.Shown.{shown}
use Rattle.shop_jobs.specs.declared.input.FileSystem.{FileSystem}
use Rattle.shop_jobs.specs.declared.input.FileSystem.TheVariants.{Dos, Prodos}
use Rattle.shown_text.specs.Escaping.{escaped}

-- a byte of a path of ProDOS, whose letters are stored as capitals
abbrev pub shown_capital : ℕ → ℕ
shown_capital byte = shown (to_ascii_uppercase byte)

-- the path of an item as a listing shows that of its file
abbrev pub listed_path : FileSystem → List ℕ → Text
listed_path Dos path = name_text path
listed_path Prodos path = map shown_capital path

-- `ADDED PATH`
abbrev pub added_line : FileSystem → ItemView → Text
added_line file_system item = line (codes "ADDED " ++ listed_path file_system item.path)

-- `PASSED HOST`, of the entry that has a number, where there is one: its path, as words are shown
abbrev pub passed_line : List EntryView → ℕ → Text
passed_line entries number =
    option_map_or (λ entry. line (codes "PASSED " ++ escaped entry.path)) (slice_get entries number) []

abbrev pub passed_lines : List EntryView → List ℕ → Text
passed_lines entries passed = flat_map (passed_line entries) passed

-- a line for each item, one for each of the entries that have these numbers, and last how many items there are
abbrev pub added_text : BatchView → List EntryView → List ℕ → Text
added_text batch entries passed =
    flat_map (added_line batch.file_system) batch.items ++ passed_lines entries passed
    ++ line (codes "ADDED files " ++ decimal (length batch.items))
