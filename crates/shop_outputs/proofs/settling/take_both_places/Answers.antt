use Rattle.std.proofs.Common.{inl, inr, refl}
use Rattle.shop_outputs.proofs.Apart.{err_told, ok_told, places_refused, places_taken, places_without, ready_behind}
use Rattle.shop_outputs.proofs.Putting.{held_of}
use Rattle.shop_outputs.proofs.settling.take_both_places.Goals as goal

pub returns-then-is_err-clause-placed : goal.returns-then-is_err-clause-placed
returns-then-is_err-clause-placed g c = λ honest image said ready told apart.
    let first = c.take_place.ensures.placed honest said told in
    places_refused c.args.out image c.args.certificate said _ _ _ _ apart first.run
    (err_told _ _ c.is_err.ensures.value c.if-is_err.true first.stays)
    (c.discard.ensures first.run.honest (held_of g.H.Host.place c.args.out image _ ready))

pub returns-in-Ok-clause-placed : goal.returns-in-Ok-clause-placed
returns-in-Ok-clause-placed g c = λ honest image said ready told apart.
    let first = c.take_place.ensures.placed honest said told in
    let behind = ready_behind g.H.Host.place c.args.out c.args.certificate image said _ _ apart first.run ready in
    places_taken c.args.out image c.args.certificate said _ _ _ _ _ apart first.run
    (ok_told _ _ c.is_err.ensures.value c.if-is_err.false first.done) (c.in-Ok.ensures.placed first.run.honest image behind)

pub returns-in-Err-clause-placed : goal.returns-in-Err-clause-placed
returns-in-Err-clause-placed g c = λ honest image said ready told apart.
    let first = c.take_place.ensures.placed honest said told in
    let behind = ready_behind g.H.Host.place c.args.out c.args.certificate image said _ _ apart first.run ready in
    places_without c.args.out image c.args.certificate said _ _ _ _ _ apart
    (inr (c.is_empty-is_alone.ensures.0 c.if-is_alone.true)) first.run
    (ok_told _ _ c.is_err.ensures.value c.if-is_err.false first.done) (c.in-Err.ensures.placed first.run.honest image behind)

pub returns-in-Err-2-clause-placed : goal.returns-in-Err-2-clause-placed
returns-in-Err-2-clause-placed g c = λ honest image said ready told apart.
    let first = c.take_place.ensures.placed honest said told in
    let behind = ready_behind g.H.Host.place c.args.out c.args.certificate image said _ _ apart first.run ready in
    places_without c.args.out image c.args.certificate said _ _ _ _ _ apart (inl refl) first.run
    (ok_told _ _ c.is_err.ensures.value c.if-is_err.false first.done) (c.in-Err-2.ensures.placed first.run.honest image behind)
