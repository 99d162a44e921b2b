use Rattle.std.proofs.Common.{◌∙◌, ap, List, ℕ}
use Rattle.std.specs.Prelude.{slice_set, slice_index}
use Rattle.std.specs.Char.{to_ascii_uppercase}
use Rattle.edit_formats.proofs.NameWrites.{name_more}
use Rattle.edit_formats.proofs.pro_naming.pro_name.Goals as goal

pub loop-i-preserved : goal.loop-i-preserved
loop-i-preserved c =
    let i = c.loop-i.i in
    let name = c.args.name.now in
    ap (slice_set c.loop-i.stored i) c.to_ascii_uppercase.ensures.value
    ∙ ap (λ (stored : List ℕ). slice_set stored i (to_ascii_uppercase (slice_index name i))) c.loop-i.invariant ∙ name_more name i c.loop-i-test.true c.requires
