use Rattle.std.proofs.Common.{◌≡◌, ◌<◌, ◌∙◌, List, ap, sym, subst, refl, arith, map, length, IsTrue}
use Rattle.std.specs.Prelude.{All}
use Rattle.std.proofs.lemmas.List.{map-append}
use Rattle.std.proofs.lemmas.List.Elements.{All-append}
use Rattle.a2_device.specs.Device.{DeviceState}
use Rattle.edit_formats.specs.declared.writes.Prepared.{Prepared}
use Rattle.edit_formats.specs.Prepared.{write_of}
use Rattle.edit_formats.proofs.Deletions.{whole_units}
use Rattle.file_edits.specs.Placing.{placed_extent}
use Rattle.file_edits.proofs.NewPlaces.{are_named}
use Rattle.file_edits.proofs.Savings.{made_edit}
use Rattle.file_edits.proofs.preparing.file_writes_at.Goals as goal

pub file_entry_writes-requires-clause-parts : goal.file_entry_writes-requires-clause-parts
file_entry_writes-requires-clause-parts g c =
    let file = c.args.placed.now.file in
    let savable = g.met.F.SavableFormat.savable c.args.format.now in
    omega (
      arith,
      ap length c.requires.places.parts,
      savable.few file.stored.now (savable.shorter file.attributes.now.eof (length file.stored.now) c.requires.enterable.short),
    )

pub file_entry_writes-requires-clause-some : goal.file_entry_writes-requires-clause-some
file_entry_writes-requires-clause-some g c =
    let file = c.args.placed.now.file in
    let savable = g.met.F.SavableFormat.savable c.args.format.now in
    omega (
      arith,
      ap length c.requires.places.parts,
      c.requires.places.count,
      savable.some file.stored.now (savable.shorter file.attributes.now.eof (length file.stored.now) c.requires.enterable.short),
    )

pub file_entry_writes-requires-clause-places : goal.file_entry_writes-requires-clause-places
file_entry_writes-requires-clause-places g c =
    let format = c.args.format.now in
    let meaning = g.F.Format.meaning format in
    let directory = g.F.Format.directory format c.args.volume.now in (
      directory.places,
      subst (All (meaning.CanName directory.places)) (sym c.requires.places.places)
          (are_named directory (length c.args.placed.now.parts.now) meaning (g.met.F.Format.rooted format c.args.volume.now)),
    )

pub returns-clause-fit : goal.returns-clause-fit
returns-clause-fit g c =
    let old = g.D.Device.state c.args.device.now in
    let IsInside : Prepared g.row.A.Denot → Type 0 = λ write. write.place < old.places in
    let IsWhole : Prepared g.row.A.Denot → Type 0 = λ write. length write.unit.items ≡ old.unit_size in
    let placing = c.in_ok-placing.ensures in
    let entering = c.in_ok-entering.ensures in
    record {
      inside = subst (All IsInside) (sym c.in_ok-joined.ensures.items)
          (All-append IsInside c.in_ok-placing.placing.items c.in_ok-entering.entering.items placing.fit.inside
          (subst (λ k. All (λ (write : Prepared g.row.A.Denot). write.place < k) c.in_ok-entering.entering.items) placing.device.same.places entering.fit.inside));
      sizes = subst (All IsWhole) (sym c.in_ok-joined.ensures.items)
          (All-append IsWhole c.in_ok-placing.placing.items c.in_ok-entering.entering.items placing.fit.sizes
          (subst (λ k. All (λ (write : Prepared g.row.A.Denot). length write.unit.items ≡ k) c.in_ok-entering.entering.items) placing.device.same.unit_size entering.fit.sizes));
    }

pub returns-clause-saves : goal.returns-clause-saves
returns-clause-saves g c = λ honest accepted target.
    let format = c.args.format.now in
    let meaning = g.F.Format.meaning format in
    let saves = g.F.SavableFormat.saves format in
    let directory = g.F.Format.directory format c.args.volume.now in
    let old = g.D.Device.state c.args.device.now in
    let placed = c.args.placed.now in
    let file = placed.file in
    let made = c.in_ok-placing.placing.items in
    let entering = c.in_ok-entering.entering.items in
    let placing = c.in_ok-placing.ensures in
    made_edit meaning (g.met.F.Format.readable format) (g.met.F.WritableFormat.movable format) (g.met.F.WritableFormat.writable format)
    saves (g.met.F.SavableFormat.savable format) directory old file.path.now placed.slot file.attributes.now file.stored.now file.units.now made
    honest (whole_units meaning old (g.met.D.Device.whole c.args.device.now honest) c.requires.fits.unit) accepted target c.requires.enterable.short c.requires.date
    placed.parts.now placed.places.now c.requires.places.parts c.requires.places.places c.requires.places.count placing.placed.start placing.placed.built placing.placed.marked
    (map write_of entering)
    (c.in_ok-entering.ensures.enters (subst IsTrue (sym placing.device.same.honest) honest)
    ∙ ap (λ (d : DeviceState). saves.entering d.store file.path.now placed.slot file.attributes.now (placed_extent placed)) (placing.device.kept honest refl))
    (map write_of c.in_ok-joined.field-0.items)
    (ap (λ (l : List (Prepared g.row.A.Denot)). map write_of l) c.in_ok-joined.ensures.items ∙ map-append write_of made entering)
    c.in_ok-joined.ensures.few
