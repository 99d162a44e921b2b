use Rattle.std.proofs.Common.{◌≡◌, string_bytes, take}
use Rattle.std.specs.Prelude.{flat_map}
use Rattle.shop_reads.specs.BodiesReply.{unread_line}
use Rattle.shop_reads.proofs.bodies.unread_lines.Given as goal

abbrev pub invariant-loop-part : goal.invariant-loop-part
invariant-loop-part g l =
    string_bytes l.text
    ≡ flat_map (unread_line l.form (g.F.FileFormat.files l.format) (g.F.Format.directory l.format l.volume)) (take l.part-index l.parts)
