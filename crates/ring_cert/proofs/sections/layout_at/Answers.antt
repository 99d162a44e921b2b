use Rattle.std.proofs.Common.{◌≡◌, ◌<◌, length, arith}
use Rattle.ring_cert.proofs.Stops.{layout_stop_first, layout_stop_size, layout_stop_place, layout_found}
use Rattle.ring_cert.proofs.sections.layout_at.Goals as goal

pub returns-in_default-clause-stop : goal.returns-in_default-clause-stop
returns-in_default-clause-stop g c = layout_stop_first c.args.bytes.now c.in_default.ensures

pub returns-in_default-two_numbers_at-clause-stop : goal.returns-in_default-two_numbers_at-clause-stop
returns-in_default-two_numbers_at-clause-stop g c =
    layout_stop_size c.args.bytes.now c.in-Some.sized.now c.in-Some.ensures c.in_default-two_numbers_at.ensures.none

pub returns-then-len-parts-clause-stop : goal.returns-then-len-parts-clause-stop
returns-then-len-parts-clause-stop g c =
    let sizes = c.in-Some-two_numbers_at in
    let few : length c.in_ok-at.at.items < sizes.parts = omega (arith, c.if-len-parts.true, c.len.ensures, c.in_ok-at.at.ok.0) in
    layout_stop_place c.args.bytes.now c.in-Some.sized.now sizes.placed.now sizes.parts sizes.places c.in_ok-at.at.items c.in_ok-at.rest.now
    c.in-Some.ensures sizes.ensures.found sizes.ensures.small.0 sizes.ensures.small.1 c.in_ok-at.ensures.found c.in_ok-at.ensures.small few (c.in_ok-at.ensures.end few)

pub returns-clause-found : goal.returns-clause-found
returns-clause-found g c =
    let sizes = c.in-Some-two_numbers_at in
    let all : length c.in_ok-at.at.items ≡ sizes.parts = omega (arith, c.if-len-parts.false, c.len.ensures, c.in_ok-at.at.ok.0, c.in_ok-at.ensures.few) in
    layout_found c.args.bytes.now c.in-Some.sized.now sizes.placed.now sizes.parts sizes.places c.in_ok-at.at.items c.in_ok-at.rest.now
    c.in-Some.ensures sizes.ensures.found c.in_ok-at.ensures.found all
