use Rattle.shop_outputs.proofs.Putting.{held_of, none_left, placed_aside, placed_failed, placed_held, ready_of, unfailed}
use Rattle.shop_outputs.proofs.output.Output.take_place.Goals as goal

pub returns-in-Some-clause-placed : goal.returns-in-Some-clause-placed
returns-in-Some-clause-placed g c = λ honest held ready.
    placed_failed c.args.self held _ _ _ (c.discard.ensures honest (held_of g.H.Host.place c.args.self held _ ready))

pub returns-in-Aside-clause-placed : goal.returns-in-Aside-clause-placed
returns-in-Aside-clause-placed g c = λ honest held ready.
    let file = c.in-Aside.file in
    let (aside, disk) = ready_of g.H.Host.place c.args.self file held _ c.in-Aside.is ready in
    let none = unfailed c.args.self file _ c.in-Aside.is c.failure.ensures (none_left _ c.in_default.not-Some) in
    placed_aside c.args.self file held _ _ _ c.in-Aside.is none (c.take_place.ensures.taken honest aside held disk)

pub returns-in-Held-clause-placed : goal.returns-in-Held-clause-placed
returns-in-Held-clause-placed g c = λ honest held ready.
    placed_held c.args.self c.in-Held.file held _ _ _ c.in-Held.is (c.write_out.ensures.run honest)
