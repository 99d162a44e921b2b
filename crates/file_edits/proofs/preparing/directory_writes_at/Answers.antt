use Rattle.std.proofs.Common.{◌≡◌, ◌<◌, Vec, ap, Err, map, length, subst}
use Rattle.edit_formats.specs.declared.writes.Prepared.{Prepared}
use Rattle.edit_formats.specs.Prepared.{write_of}
use Rattle.file_edits.specs.Making.{making, making_writes}
use Rattle.file_edits.specs.Made.{IsMaking}
use Rattle.file_edits.specs.Preparing.{read_directory}
use Rattle.file_edits.proofs.Refusals.{error_in, few_reads, few_refusal, if_ok_both}
use Rattle.file_edits.proofs.preparing.directory_writes_at.Goals as goal

pub placed_directory_writes-requires-clause-placed : goal.placed_directory_writes-requires-clause-placed
placed_directory_writes-requires-clause-placed g c = record {
  few = c.requires.fits.places.1;
  name = c.requires.name;
  slot = c.requires.slot.place;
  directory = c.requires.slot.directory;
  number = c.requires.slot.number;
  place = subst (λ n. c.in-Ok.place < n) c.requires.volume c.in-Ok.ensures.inside;
}

pub returns-in-Err-clause-device : goal.returns-in-Err-clause-device
returns-in-Err-clause-device g c = few_reads (Vec (Prepared g.row.A.Denot) g.row.A.Denot) c.in-Err.error c.in-Err.ensures.refused (g.D.Device.state c.args.device.now)

pub returns-in-Err-clause-refused : goal.returns-in-Err-clause-refused
returns-in-Err-clause-refused g c = few_refusal c.in-Err.error c.in-Err.ensures.refused

pub returns-in-Err-clause-full : goal.returns-in-Err-clause-full
returns-in-Err-clause-full g c = λ same. c.in-Err.ensures.full (ap Err (ap error_in same))

pub returns-in-Ok-clause-made : goal.returns-in-Ok-clause-made
returns-in-Ok-clause-made g c = λ honest accepted target.
    let store = (g.D.Device.state c.args.device.now).store in
    let made = making c.args.format.now store c.args.path.now c.args.date in
    let directory = read_directory c.args.volume.now in
    if_ok_both c.placed_directory_writes.result
    (λ writes. map write_of writes.items ≡ making_writes made directory c.args.slot c.in-Ok.place)
    (λ writes. length (map write_of writes.items) < 18446744073709551616)
    (λ writes. IsMaking made (map write_of writes.items))
    (λ writes are few. record {
      directory = directory;
      accepted = accepted;
      slot = c.args.slot;
      target = target;
      place = c.in-Ok.place;
      first = c.in-Ok.ensures.first;
      dated = c.measure_date.ensures;
      are = are;
      few = few;
    })
    (c.placed_directory_writes.ensures.made honest) c.placed_directory_writes.ensures.few
