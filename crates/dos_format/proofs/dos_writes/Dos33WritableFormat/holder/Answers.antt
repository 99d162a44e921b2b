use Rattle.std.proofs.Common.{◌∙◌, ap, arith, refl}
use Rattle.std.specs.Prelude.{slice_index}
use Rattle.std.proofs.lemmas.List.{get_or_default}
use Rattle.std.proofs.lemmas.Option.{unwrap_or-slice_get}
use Rattle.std.specs.Option.{unwrap_or}
use Rattle.a2_device.specs.declared.part.Part.{Part}
use Rattle.dos_catalog.specs.Listed.{entries_of_catalog}
use Rattle.vol_format.specs.Directory.{entry_of}
use Rattle.vol_format.specs.Standing.{no_part}
use Rattle.dos_format.specs.Dos.{dos_available, dos_directory}
use Rattle.dos_format.specs.DosHolders.{dos_slot}
use Rattle.dos_format.specs.DosVolume.{vtoc_of, catalog_of}
use Rattle.dos_format.proofs.Holders.{held_by_list, held_by_entry, entry_place, entry_slot, list_place}
use Rattle.dos_format.proofs.dos_writes.Dos33WritableFormat.holder.Goals as goal

pub returns-in-None-clause-inside : goal.returns-in-None-clause-inside
returns-in-None-clause-inside g c =
    let now = c.args.self.now in
    let volume = c.args.volume.now in
    entry_place now.data_disk now.reserved (vtoc_of volume) (entries_of_catalog (catalog_of volume)) volume.on_track c.args.parts.now c.args.k _ c.entry_at.result.place
    c.requires.part c.requires.files c.entry_at.ensures.place

pub returns-in-None-clause-slot : goal.returns-in-None-clause-slot
returns-in-None-clause-slot g c =
    let now = c.args.self.now in
    let volume = c.args.volume.now in
    entry_slot now.data_disk now.reserved (vtoc_of volume) (entries_of_catalog (catalog_of volume)) volume.on_track c.args.parts.now c.args.k _ c.entry_at.result
    c.requires.part c.requires.files c.entry_at.ensures.entry c.entry_at.ensures.slot

pub returns-in-None-clause-holds : goal.returns-in-None-clause-holds
returns-in-None-clause-holds g c = λ present store frame accepted stands.
    let now = c.args.self.now in
    let volume = c.args.volume.now in
    let same = get_or_default c.args.parts.now c.args.k _ no_part c.requires.part in
    held_by_entry now.data_disk now.reserved (dos_directory now.data_disk now.reserved (vtoc_of volume) (entries_of_catalog (catalog_of volume))) present store
    c.args.parts.now c.args.layout.now.at c.args.k c.requires.part frame accepted stands c.entry_at.result c.in-None.ensures.none c.entry_at.ensures.entry
    (c.entry_at.ensures.place ∙ ap (λ (p : Part). (entry_of (dos_directory now.data_disk now.reserved (vtoc_of volume) (entries_of_catalog (catalog_of volume))) p.file).place) same)
    (c.entry_at.ensures.slot ∙ ap (λ (p : Part). (entry_of (dos_directory now.data_disk now.reserved (vtoc_of volume) (entries_of_catalog (catalog_of volume))) p.file).slot) same)

pub returns-in-Some-clause-inside : goal.returns-in-Some-clause-inside
returns-in-Some-clause-inside g c =
    let now = c.args.self.now in
    list_place now.data_disk now.reserved c.args.layout.now.at c.in-Some.list c.unwrap_or.result c.args.layout.now.places c.at.ensures.layout c.requires.places
    (omega (arith, c.in-Some.ensures.some.before, c.requires.part, c.requires.size))
    (c.unwrap_or.ensures ∙ ap (λ o. unwrap_or o 0) c.available.ensures
    ∙ unwrap_or-slice_get (dos_available now.data_disk now.reserved) (slice_index c.at.result.now c.in-Some.list) 0
    ∙ ap (λ at. slice_index (dos_available now.data_disk now.reserved) (slice_index at c.in-Some.list)) c.at.ensures.value)

pub returns-in-Some-clause-holds : goal.returns-in-Some-clause-holds
returns-in-Some-clause-holds g c = λ present store frame accepted stands.
    let now = c.args.self.now in
    let volume = c.args.volume.now in
    let same = get_or_default c.args.parts.now c.args.k _ no_part c.requires.part in
    held_by_list now.data_disk now.reserved (dos_directory now.data_disk now.reserved (vtoc_of volume) (entries_of_catalog (catalog_of volume))) present store
    c.args.parts.now c.args.layout.now.at c.args.k c.requires.part frame accepted stands _ c.in-Some.list c.in-Some.ensures.some refl
    (c.unwrap_or.ensures ∙ ap (λ o. unwrap_or o 0) c.available.ensures
    ∙ unwrap_or-slice_get (dos_available now.data_disk now.reserved) (slice_index c.at.result.now c.in-Some.list) 0
    ∙ ap (λ at. slice_index (dos_available now.data_disk now.reserved) (slice_index at c.in-Some.list)) c.at.ensures.value)
    (c.slot_of.ensures.value ∙ ap (λ (p : Part). dos_slot p.kind p.number) same)
