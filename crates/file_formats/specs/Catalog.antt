-- What the catalog of a DOS 3.3 volume shows.
use Rattle.std.specs.Prelude.{ℕ, ◌+◌, ◌*◌, ◌%◌, nat_le, false, List, slice_index, slice_range}
use Rattle.a2_device.specs.Device.{unit_at}
use Rattle.dos_vtoc.specs.Vtoc.{HasGeometry}
use Rattle.dos_catalog.specs.declared.entry.Entry.{Entry}
use Rattle.dos_catalog.specs.Catalog.{IsCatalog}
use Rattle.file_formats.specs.declared.listing.ListEntry.{ListEntry}
use Rattle.file_formats.specs.DosFiles.{no_date}

-- what is shown of an entry
abbrev pub list_entry : {A : Type 0} → Entry → ListEntry A
list_entry entry = record {
  locked = nat_le 0x80 (slice_index entry.bytes 2);
  kind = slice_index entry.bytes 2 % 0x80;
  size = slice_index entry.bytes 0x21 + 256 * slice_index entry.bytes 0x22;
  eof = 0;
  access = 0;
  aux = 0;
  created = no_date;
  modified = no_date;
  directory = false;
  path = slice_range entry.bytes 0x03 0x21;
}

-- a store whose VTOC has another geometry, or whose catalog chain is broken
abbrev pub HasNoCatalog : List (List ℕ) → Type 0
HasNoCatalog store = HasGeometry (unit_at store 272) → (sectors : List ℕ) → ¬ IsCatalog store sectors
