use Rattle.std.proofs.Common.{◌<◌, true, false, length, arith, sym, ◌∙◌}
use Rattle.std.proofs.lemmas.List.{get_or_read}
use Rattle.vol_check.specs.Walk.{lists}
use Rattle.vol_check.proofs.Admitting.{system_place, numbered_place, system_hinders, not_system}
use Rattle.vol_check.proofs.walk.hindrance.Goals as goal

pub returns-then-is_none : goal.returns-then-is_none
returns-then-is_none g c =
    let directory = g.F.Format.directory c.args.format.now c.args.volume.now in
    system_hinders directory c.args.part (lists c.args.walk.now) (system_place directory c.args.part.place c.index.result c.if-is_none.ensures c.index.ensures.none)

pub returns-then-index : goal.returns-then-index
returns-then-index g c =
    let directory = g.F.Format.directory c.args.format.now c.args.volume.now in
    let place = c.args.part.place in
    let outside = numbered_place (g.F.Format.meaning c.args.format.now) directory place c.index.result
    (g.met.F.Format.rooted c.args.format.now c.args.volume.now) c.if-is_none.ensures c.index.ensures.some in
    let within : place < length c.args.walk.now.visited.items = omega (arith, c.requires.place, c.requires.visited) in
    let met = sym (get_or_read c.args.walk.now.visited.items place c.index-2.result.now within c.index-2.ensures false) ∙ c.if-index.true in
    not_system directory c.args.part (lists c.args.walk.now) true outside met

pub returns : goal.returns
returns g c =
    let directory = g.F.Format.directory c.args.format.now c.args.volume.now in
    let place = c.args.part.place in
    let outside = numbered_place (g.F.Format.meaning c.args.format.now) directory place c.index.result
    (g.met.F.Format.rooted c.args.format.now c.args.volume.now) c.if-is_none.ensures c.index.ensures.some in
    let within : place < length c.args.walk.now.visited.items = omega (arith, c.requires.place, c.requires.visited) in
    let met = sym (get_or_read c.args.walk.now.visited.items place c.index-2.result.now within c.index-2.ensures false) ∙ c.if-index.false in
    not_system directory c.args.part (lists c.args.walk.now) false outside met
