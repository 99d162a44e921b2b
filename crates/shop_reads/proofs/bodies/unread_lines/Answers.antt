use Rattle.std.proofs.Common.{◌∙◌, Global, List, get_or, ℕ, ◌++◌, ap, string_bytes}
use Rattle.a2_device.specs.declared.part.Part.{Part}
use Rattle.a2_device.specs.declared.part.PartKind.TheVariants as kinds
use Rattle.file_listings.specs.DosText.{line}
use Rattle.file_formats.specs.declared.listing.ListEntry.{ListEntry}
use Rattle.shop_reads.specs.BodiesReply.{unread_line, unread_text}
use Rattle.shop_reads.proofs.Pictures.{lines_more}
use Rattle.shop_reads.proofs.bodies.unread_lines.Goals as goal

-- what stands for a part behind the last
abbrev past : Part
past = record { file = 0; kind = kinds.List; number = 0; place = 0 }

pub loop-part-preserved : goal.loop-part-preserved
loop-part-preserved g c =
    let parts = c.args.parts.now in
    let i = c.loop-part.part-index in
    let now = string_bytes c.loop-part.text in
    let path = c.as_bytes.ensures ∙ ap (λ (e : ListEntry Global). e.path) c.in_ok-entry.ensures in
    lines_more (unread_line c.args.form (g.F.FileFormat.files c.args.format.now) (g.F.Format.directory c.args.format.now c.args.volume.now)) parts past now
    (string_bytes c.writeln.new.self) i c.loop-part-test.true c.loop-part.invariant
    (c.in_ok-writeln.ensures.bytes ∙ ap (λ (p : List ℕ). now ++ line (unread_text c.args.form (get_or parts i past).place p)) path)
