use Rattle.std.proofs.Common.{◌∙◌, ◌<◌, ◌≢◌, length, arith, get_or-set_other, get_or-set_same, length-set, below_more}
use Rattle.std.proofs.lemmas.List.FromFn.{fill_by_all}
use Rattle.new_volumes.specs.DosUnits.{free_map, map_byte}
use Rattle.new_volumes.proofs.dos.free_map.Goals as goal

pub loop-at-preserved : goal.loop-at-preserved
loop-at-preserved c =
    let same = c.loop-at.invariant.0 in
    let lt : c.loop-at.at < length c.loop-at.map = omega (arith, same, c.loop-at-test.true) in (
      length-set c.loop-at.map c.loop-at.at c.map_byte.result ∙ same,
      below_more _ _
          (λ k h.
          let ne : k ≢ c.loop-at.at = omega (arith, h) in
          get_or-set_other c.loop-at.map c.loop-at.at k c.map_byte.result 0 ne ∙ c.loop-at.invariant.1 k h)
          (get_or-set_same c.loop-at.map c.loop-at.at c.map_byte.result 0 lt ∙ c.map_byte.ensures),
    )

pub returns : goal.returns
unfolding free_map
returns c =
    let past = c.loop-at-test.false in
    fill_by_all (map_byte c.args.data_disk) c.loop-at.map 140 0 c.loop-at.invariant.0 (λ k h. c.loop-at.invariant.1 k (omega (arith, past, h)))
