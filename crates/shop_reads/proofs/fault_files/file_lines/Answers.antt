use Rattle.std.proofs.Common.{◌∙◌, ◌++◌, [], ap, get_or, sym, take}
use Rattle.std.specs.Prelude.{flat_map}
use Rattle.std.proofs.lemmas.List.{flat_map_more, take_more}
use Rattle.shop_reads.specs.FaultLines.{file_line, first_of, kinds}
use Rattle.shop_reads.specs.declared.fault_files.FaultKind.{FaultKind}
use Rattle.shop_reads.specs.declared.fault_files.FaultKind.TheVariants.{StorageType}
use Rattle.shop_reads.proofs.fault_files.file_lines.Goals as goal

pub loop-kind-preserved : goal.loop-kind-preserved
loop-kind-preserved g c =
    let lines = λ (kind : FaultKind). file_line c.args.form (g.F.FileFormat.files c.args.format.now) (g.F.Format.directory c.args.format.now c.args.volume.now) (first_of c.args.faults.now kind) in
    let number = c.loop-kind.kind-index in
    c.in_ok-add_line.ensures
    ∙ ap (λ text. text ++ lines (get_or kinds number StorageType)) c.loop-kind.invariant
    ∙ flat_map_more lines [] (take number kinds) (get_or kinds number StorageType)
    ∙ ap (flat_map lines) (sym (take_more kinds number StorageType c.loop-kind-test.true))
