use Rattle.std.proofs.Common.{◌∙◌, ap, List, ℕ}
use Rattle.std.specs.Prelude.{bit_or, slice_set, slice_index}
use Rattle.file_formats.proofs.DosEntries.{name_more}
use Rattle.edit_formats.proofs.dos_naming.dos_name.Goals as goal

pub loop-i-preserved : goal.loop-i-preserved
loop-i-preserved c =
    let i = c.loop-i.i in
    let name = c.args.name.now in
    ap (λ (stored : List ℕ). slice_set stored i (bit_or (slice_index name i) 0x80)) c.loop-i.invariant ∙ name_more name i c.loop-i-test.true c.requires
