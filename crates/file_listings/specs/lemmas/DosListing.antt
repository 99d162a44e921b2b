-- The listing of a DOS 3.3 volume: what its directory shows is what its VTOC and its catalog show.
use Rattle.std.specs.Prelude.{◌≡◌, ℕ, Bool, List, ◌++◌, map, length, codes, decimal}
use Rattle.std.proofs.Common.{refl, sym, ◌∙◌, ap}
use Rattle.std.proofs.lemmas.List.Folds.{flat_map-map}
use Rattle.std.specs.declared.alloc.Global.{Global}
use Rattle.a2_device.specs.Device.{unit_at}
use Rattle.dos_vtoc.specs.Vtoc.{free_count_of, volume_number}
use Rattle.dos_catalog.specs.Entry.{entries_in}
use Rattle.vol_format.specs.Directory.{Directory}
use Rattle.dos_format.specs.Dos.{dos_meaning, dos_directory, DescribesDos}
use Rattle.dos_format.specs.lemmas.DosLaws.{dos_is_readable}
use Rattle.file_formats.specs.declared.listing.ListEntry.{ListEntry}
use Rattle.file_formats.specs.Catalog.{list_entry, HasNoCatalog}
use Rattle.file_formats.specs.Listing.{free_count, HasHeaderFault}
use Rattle.file_formats.specs.lemmas.DosShown.{shown_numbered, free_count-dos}
use Rattle.file_listings.specs.DosText.{Text, IsListingText, catalog_text, file_line, line, lines_of}

module _ (data_disk : Bool) (reserved : List Bool) (store : List (List ℕ)) where
  pub no_dos_listing : length store ≡ 560 → HasHeaderFault (dos_meaning data_disk reserved) store → HasNoCatalog store
  no_dos_listing size fault geometry sectors catalog =
      (dos_is_readable data_disk reserved).header_fault store (dos_directory data_disk reserved (unit_at store 272) (entries_in store sectors)) fault.0 fault.1
      (record { size = size; geometry = geometry; sectors = sectors; catalog = catalog; says = refl })

  pub dos_listing_text : (directory : Directory) → (dos_meaning data_disk reserved).Describes store directory → IsListingText store (catalog_text directory)
  dos_listing_text directory is =
      let described : DescribesDos data_disk reserved store directory = is in
      let vtoc = unit_at store 272 in
      let entries = entries_in store described.sectors in
      record {
        geometry = described.geometry;
        sectors = described.sectors;
        catalog = described.catalog;
        is = ap catalog_text described.says
            ∙ ap (λ (files : List (ListEntry Global)). lines_of (volume_number vtoc) files (free_count (dos_directory data_disk reserved vtoc entries))) (shown_numbered 0 entries)
            ∙ ap (lines_of (volume_number vtoc) (map (list_entry {A = Global}) entries)) (sym (free_count-dos data_disk reserved vtoc entries))
            ∙ ap (λ (text : Text). line (codes "DISK VOLUME " ++ decimal (volume_number vtoc)) ++ text ++ line (codes "FREE " ++ decimal (free_count_of vtoc)))
            (flat_map-map (λ file. line (file_line file)) list_entry entries);
      }
