use Rattle.std.proofs.Common.{◌≤◌, ◌+◌, refl, arith}
use Rattle.pro_dir.specs.Volume.{map_blocks}
use Rattle.pro_dir.proofs.volume.has_map.Goals as goal

pub returns : goal.returns
returns g c =
    let end : c.args.first + map_blocks c.args.places ≤ c.loop-place.place = omega (arith, c.div_ceil.ensures, c.loop-place-test.false) in
    (λ _ place from below. c.loop-place.invariant place from (omega (arith, below, end)), λ _. refl)
