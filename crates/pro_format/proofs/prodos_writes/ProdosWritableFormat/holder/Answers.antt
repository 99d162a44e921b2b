use Rattle.std.proofs.Common.{◌∙◌, ap, arith, refl}
use Rattle.std.specs.Prelude.{slice_index}
use Rattle.std.proofs.lemmas.List.{get_or_default}
use Rattle.std.proofs.lemmas.Option.{unwrap_or-slice_get}
use Rattle.std.specs.Option.{unwrap_or}
use Rattle.a2_device.specs.declared.part.Part.{Part}
use Rattle.pro_tree.specs.Content.{pro_slot}
use Rattle.vol_format.specs.Directory.{entry_of}
use Rattle.vol_format.specs.Standing.{no_part}
use Rattle.pro_format.specs.Pro.{available_in, directory_with}
use Rattle.pro_format.specs.ProVolume.{tree_of, map_in, system_of}
use Rattle.pro_format.proofs.Holders.{held_by_unit, held_by_entry, entry_place, entry_slot, unit_place}
use Rattle.pro_format.proofs.prodos_writes.ProdosWritableFormat.holder.Goals as goal

pub returns-in-None-clause-inside : goal.returns-in-None-clause-inside
returns-in-None-clause-inside g c =
    let v = c.args.volume.now in
    entry_place c.args.self.now (tree_of v) (system_of v) (map_in v).units v.fitted.sound c.args.parts.now c.args.k _ c.entry_at.result.place
    c.requires.part c.requires.files c.entry_at.ensures.place

pub returns-in-None-clause-slot : goal.returns-in-None-clause-slot
returns-in-None-clause-slot g c =
    let v = c.args.volume.now in
    entry_slot c.args.self.now (tree_of v) (system_of v) (map_in v).units v.fitted.sound c.args.parts.now c.args.k _ c.entry_at.result
    c.requires.part c.requires.files c.entry_at.ensures.entry c.entry_at.ensures.slot

pub returns-in-None-clause-holds : goal.returns-in-None-clause-holds
returns-in-None-clause-holds g c = λ present store frame accepted stands.
    let v = c.args.volume.now in
    let same = get_or_default c.args.parts.now c.args.k _ no_part c.requires.part in
    held_by_entry c.args.self.now (directory_with (system_of v) (tree_of v) (map_in v).units) present store
    c.args.parts.now c.args.layout.now.at c.args.k c.requires.part frame accepted stands c.entry_at.result c.in-None.ensures.none c.entry_at.ensures.entry
    (c.entry_at.ensures.place ∙ ap (λ (p : Part). (entry_of (directory_with (system_of v) (tree_of v) (map_in v).units) p.file).place) same)
    (c.entry_at.ensures.slot ∙ ap (λ (p : Part). (entry_of (directory_with (system_of v) (tree_of v) (map_in v).units) p.file).slot) same)

pub returns-in-Some-clause-inside : goal.returns-in-Some-clause-inside
returns-in-Some-clause-inside g c =
    let v = c.args.volume.now in
    unit_place c.args.self.now (tree_of v) (system_of v) (map_in v).units v.fitted.sound c.args.layout.now.at c.in-Some.above c.unwrap_or.result c.args.layout.now.places c.at.ensures.layout c.requires.places
    (omega (arith, c.in-Some.ensures.some.before, c.requires.part, c.requires.size))
    (c.unwrap_or.ensures ∙ ap (λ o. unwrap_or o 0) c.available.ensures
    ∙ unwrap_or-slice_get (available_in (system_of v)) (slice_index c.at.result.now c.in-Some.above) 0
    ∙ ap (λ at. slice_index (available_in (system_of v)) (slice_index at c.in-Some.above)) c.at.ensures.value)

pub returns-in-Some-clause-holds : goal.returns-in-Some-clause-holds
returns-in-Some-clause-holds g c = λ present store frame accepted stands.
    let v = c.args.volume.now in
    let same = get_or_default c.args.parts.now c.args.k _ no_part c.requires.part in
    held_by_unit c.args.self.now (directory_with (system_of v) (tree_of v) (map_in v).units) present store
    c.args.parts.now c.args.layout.now.at c.args.k c.requires.part frame accepted stands _ c.in-Some.above c.in-Some.ensures.some refl
    (c.unwrap_or.ensures ∙ ap (λ o. unwrap_or o 0) c.available.ensures
    ∙ unwrap_or-slice_get (available_in (system_of v)) (slice_index c.at.result.now c.in-Some.above) 0
    ∙ ap (λ at. slice_index (available_in (system_of v)) (slice_index at c.in-Some.above)) c.at.ensures.value)
    (c.slot.ensures.value ∙ ap (λ (p : Part). pro_slot p.kind p.number) same)
