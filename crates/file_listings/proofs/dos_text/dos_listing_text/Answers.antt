use Rattle.std.proofs.Common.{◌∙◌, string_bytes, arith, ap}
use Rattle.std.specs.Prelude.{slice_index}
use Rattle.file_listings.proofs.Lines.{lines_ended}
use Rattle.file_listings.proofs.dos_text.dos_listing_text.Goals as goal

pub returns : goal.returns
returns g c =
    let number = c.first_byte-volume.ensures ∙ ap (λ bytes. slice_index bytes 0) c.as_bytes.ensures in
    lines_ended (slice_index c.args.listing.now.volume 0) c.first_byte-volume.result c.loop-file.file-index c.args.listing.now.free
    c.args.listing.now.entries.items c.deref-file-items.result.now (string_bytes c.loop-file.text) (string_bytes c.writeln-2.new.self)
    number c.deref-file-items.ensures.value c.loop-file.invariant (omega arith) c.in_ok-writeln-3.ensures.bytes
