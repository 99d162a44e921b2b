-- The text of a DOS 3.3 volume that is listed in a style.
use Rattle.std.specs.Prelude.{List, map, length, decimal, slice_index}
use Rattle.std.specs.declared.alloc.Global.{Global}
use Rattle.row_text.specs.Row.{VolumeView}
use Rattle.row_text.specs.declared.volume.FileSystem.TheVariants.{Dos}
use Rattle.vol_format.specs.Directory.{Directory}
use Rattle.file_formats.specs.DosFiles.{dos_shown}
use Rattle.file_formats.specs.declared.listing.Listing.{Listing}
use Rattle.file_listings.specs.DosText.{Text, catalog_text}
use Rattle.file_listings.specs.Rows.{dos_row, rows_of, rows_text, volume_of}
use Rattle.file_listings.specs.Known.{FileFacts}
use Rattle.file_listings.specs.declared.style.EntryStyle.{EntryStyle}
use Rattle.file_listings.specs.declared.style.Style.{Style}
use Rattle.file_listings.specs.declared.style.Style.TheVariants.{Catalog, Entries}

-- what is told of the volume of a listing, which has 560 sectors; its name is its number
abbrev pub listed_volume : {A : Type 0} → Listing A → VolumeView
listed_volume listing = record {
  entries = length listing.entries.items;
  free = listing.free;
  file_system = Dos;
  places = 560;
  volume = decimal (slice_index listing.volume 0);
}

-- the entries of a listing as data, with what is known of each file
abbrev pub entries_text : {A : Type 0} → EntryStyle → Listing A → List FileFacts → Text
entries_text style listing facts = rows_text style (listed_volume listing) (rows_of dos_row listing.entries.items facts)

-- a directory in a style
abbrev pub directory_text : Style → Directory → List FileFacts → Text
directory_text Catalog directory facts = catalog_text directory
directory_text (Entries style) directory facts =
    rows_text style (volume_of Dos (decimal (slice_index directory.name 0)) directory)
    (rows_of {A = Global} dos_row (map dos_shown directory.listed) facts)
