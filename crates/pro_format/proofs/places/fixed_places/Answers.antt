use Rattle.std.proofs.Common.{◌∙◌, ap, ◌+◌, arith}
use Rattle.pro_dir.specs.Listed.{directory_of}
use Rattle.pro_dir.specs.Volume.{map_first}
use Rattle.pro_format.specs.Pro.{is_fixed, is_fixed_from}
use Rattle.pro_format.proofs.Tables.{pushed}
use Rattle.pro_format.proofs.places.fixed_places.Goals as goal

pub loop-place-preserved : goal.loop-place-preserved
loop-place-preserved g c =
    let now = c.loop-place in
    c.in_ok-push.ensures.items
    ∙ pushed (is_fixed c.args.reserved.now (directory_of c.args.directory.now)) now.table.items now.place c.is_fixed.result now.invariant
    (c.is_fixed.ensures
    ∙ ap (λ first. is_fixed_from first (first + c.div_ceil.result) c.args.reserved.now now.place) c.bitmap-first.ensures
    ∙ ap (λ count. is_fixed_from (map_first (directory_of c.args.directory.now).header) (map_first (directory_of c.args.directory.now).header + count) c.args.reserved.now now.place)
    (omega (arith, c.div_ceil.ensures, c.total.ensures)))
