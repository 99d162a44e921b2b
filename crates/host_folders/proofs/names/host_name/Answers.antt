-- The bytes of a name are ASCII.
use Rattle.host_folders.specs.HostNames.{entry_view}
use Rattle.host_folders.specs.Laws.{IsEntry, IsNumber}
use Rattle.host_folders.proofs.IsSafe.{host_utf8}
use Rattle.host_folders.proofs.names.host_name.Goals as goal

pub unwrap-requires : goal.unwrap-requires
unwrap-requires g c =
    let entry : IsEntry (entry_view c.args.stored.now) =
    record { bytes = c.parts_fit.ensures.bytes; kind = c.parts_fit.ensures.kind; aux = c.parts_fit.ensures.aux } in
    let number : IsNumber c.args.number = record { some = c.requires; fits = c.ranges.number.fits } in
    c.from_utf8.ensures.succeeds
    (host_utf8 c.args.naming (entry_view c.args.stored.now) c.args.number _ entry number c.in_ok-text.ensures)
