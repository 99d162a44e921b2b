use Rattle.std.proofs.Common.{◌∙◌, ap, List, ℕ}
use Rattle.std.specs.Prelude.{bit_or, slice_set, slice_index}
use Rattle.file_formats.proofs.DosEntries.{name_more}
use Rattle.file_formats.proofs.dos.stored_name.Goals as goal

pub loop-i-preserved : goal.loop-i-preserved
loop-i-preserved c =
    let i = c.loop-i.i in
    let path = c.args.path.now in
    ap (λ (name : List ℕ). slice_set name i (bit_or (slice_index path i) 0x80)) c.loop-i.invariant ∙ name_more path i c.loop-i-test.true c.requires
