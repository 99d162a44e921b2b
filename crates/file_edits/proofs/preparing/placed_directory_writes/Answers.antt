use Rattle.std.proofs.Common.{◌≡◌, ◌<◌, ◌∙◌, ◌++◌, List, refl, ap, sym, subst, map, length, false, IsTrue}
use Rattle.std.specs.Prelude.{All}
use Rattle.std.proofs.lemmas.List.{map-append}
use Rattle.std.proofs.lemmas.List.Elements.{All-append}
use Rattle.a2_device.specs.Device.{DeviceState}
use Rattle.a2_device.specs.Reading.{then_reads}
use Rattle.vol_laws.specs.Writes.{Write}
use Rattle.edit_formats.specs.declared.writes.Prepared.{Prepared}
use Rattle.edit_formats.specs.Prepared.{write_of}
use Rattle.file_edits.specs.Making.{making, placing_writes}
use Rattle.file_edits.specs.NewDirectory.{entering}
use Rattle.file_edits.specs.Preparing.{read_directory}
use Rattle.file_edits.proofs.preparing.placed_directory_writes.Goals as goal

pub returns-clause-device : goal.returns-clause-device
returns-clause-device g c =
    then_reads false (g.D.Device.state c.args.device.now) (g.D.Device.state c.block_writes.new.device) (g.D.Device.state c.directory_entry_writes.new.device)
    c.in_ok-block.ensures.device c.in_ok-entry.ensures.device

pub returns-clause-fit : goal.returns-clause-fit
returns-clause-fit g c =
    let old = g.D.Device.state c.args.device.now in
    let IsInside : Prepared g.row.A.Denot → Type 0 = λ write. write.place < old.places in
    let IsWhole : Prepared g.row.A.Denot → Type 0 = λ write. length write.unit.items ≡ old.unit_size in
    let placing = c.in_ok-block.ensures in
    let entering = c.in_ok-entry.ensures in
    record {
      inside = subst (All IsInside) (sym c.in_ok-joined.ensures.items)
          (All-append IsInside c.in_ok-block.block.items c.in_ok-entry.entry.items placing.inside
          (subst (λ k. All (λ (write : Prepared g.row.A.Denot). write.place < k) c.in_ok-entry.entry.items) placing.device.same.places entering.inside));
      sizes = subst (All IsWhole) (sym c.in_ok-joined.ensures.items)
          (All-append IsWhole c.in_ok-block.block.items c.in_ok-entry.entry.items placing.sizes
          (subst (λ k. All (λ (write : Prepared g.row.A.Denot). length write.unit.items ≡ k) c.in_ok-entry.entry.items) placing.device.same.unit_size entering.sizes));
    }

pub returns-clause-made : goal.returns-clause-made
returns-clause-made g c = λ honest.
    let old = g.D.Device.state c.args.device.now in
    let placed = c.args.placed.now in
    let first = c.in_ok-block.block.items in
    let then = c.in_ok-entry.entry.items in
    let placing = c.in_ok-block.ensures in
    ap (λ (l : List (Prepared g.row.A.Denot)). map write_of l) c.in_ok-joined.ensures.items
    ∙ map-append write_of first then
    ∙ ap (λ (l : List Write). l ++ map write_of then) (placing.made honest)
    ∙ ap (λ (l : List Write). placing_writes (making c.args.format.now old.store placed.path.now placed.date) (read_directory c.args.volume.now) placed.slot placed.place ++ l)
    (c.in_ok-entry.ensures.enters (subst IsTrue (sym placing.device.same.honest) honest)
    ∙ ap (λ (d : DeviceState). entering d.store placed.path.now placed.slot placed.place placed.date) (placing.device.kept honest refl))
