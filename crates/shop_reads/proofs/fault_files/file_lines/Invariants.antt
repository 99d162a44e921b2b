use Rattle.std.proofs.Common.{◌≡◌, string_bytes, take}
use Rattle.std.specs.Prelude.{flat_map}
use Rattle.shop_reads.specs.FaultLines.{file_line, first_of}
use Rattle.shop_reads.proofs.fault_files.file_lines.Given as goal

abbrev pub invariant-loop-kind : goal.invariant-loop-kind
invariant-loop-kind g l =
    string_bytes l.text
    ≡ flat_map (λ kind. file_line l.form (g.F.FileFormat.files l.format) (g.F.Format.directory l.format l.volume) (first_of l.faults kind)) (take l.kind-index l.kind-items)
