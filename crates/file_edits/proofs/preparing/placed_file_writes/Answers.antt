use Rattle.std.proofs.Common.{◌<◌, false, sym, subst, refl, length}
use Rattle.std.specs.Prelude.{All}
use Rattle.edit_formats.specs.Markings.{AreMarked}
use Rattle.edit_formats.proofs.Deletions.{if_ok}
use Rattle.file_edits.specs.Fitting.{AreWritesFor}
use Rattle.file_edits.proofs.NewPlaces.{are_named, are_inside}
use Rattle.file_edits.proofs.PlacedWrites.{all_inside, all_sizes}
use Rattle.file_edits.proofs.preparing.placed_file_writes.Goals as goal

pub part_writes-requires-clause-places : goal.part_writes-requires-clause-places
part_writes-requires-clause-places g c =
    let format = c.args.format.now in
    let meaning = g.F.Format.meaning format in
    let directory = g.F.Format.directory format c.args.volume.now in (
      directory.places,
      subst (All (meaning.CanName directory.places)) (sym c.requires.places.places)
          (are_named directory (length c.args.placed.now.parts.now) meaning (g.met.F.Format.rooted format c.args.volume.now)),
    )

pub mark_all-requires-clause-places : goal.mark_all-requires-clause-places
mark_all-requires-clause-places g c =
    let format = c.args.format.now in
    let directory = g.F.Format.directory format c.args.volume.now in
    subst (All (λ place. place < directory.places)) (sym c.requires.places.places)
    (are_inside directory (length c.args.placed.now.parts.now) (g.F.Format.meaning format) (g.met.F.Format.rooted format c.args.volume.now))

pub returns-clause-fit : goal.returns-clause-fit
returns-clause-fit g c =
    let format = c.args.format.now in
    let meaning = g.F.Format.meaning format in
    let directory = g.F.Format.directory format c.args.volume.now in
    let placed = c.args.placed.now in
    let places = placed.places.now in
    let old = g.D.Device.state c.args.device.now in
    let start = c.in_ok-start.start.items in
    if_ok c.mark_all.result (λ writes. AreMarked meaning false directory places old start writes.items)
    (λ writes. AreWritesFor old writes.items)
    (λ writes all. record {
      inside = all_inside meaning (g.F.SavableFormat.saves format) directory c.unit.result placed.parts.now places placed.file.stored.now placed.file.units.now old start writes.items
          c.in_ok-start.ensures all old.places c.requires.volume c.requires.places.count
          (subst (All (λ place. place < directory.places)) (sym c.requires.places.places)
          (are_inside directory (length placed.parts.now) meaning (g.met.F.Format.rooted format c.args.volume.now)));
      sizes = all_sizes meaning (g.F.SavableFormat.saves format) directory c.unit.result placed.parts.now places placed.file.stored.now placed.file.units.now old start writes.items
          c.in_ok-start.ensures all old.unit_size c.unit.ensures refl;
    })
    c.mark_all.ensures.marked
