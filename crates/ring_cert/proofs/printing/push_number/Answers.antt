use Rattle.std.proofs.Common.{arith, refl, ap, ◌∙◌, ◌++◌}
use Rattle.ring_cert.proofs.Written.{HasDigits-none, HasDigits-room, HasDigits-more, HasDigits-all}
use Rattle.ring_cert.proofs.printing.push_number.Goals as goal

pub loop-rest-init : goal.loop-rest-init
loop-rest-init g c = HasDigits-none c.args.number _ 10 (omega (arith, c.ranges.number.fits)) refl refl

pub overflow_sub-start : goal.overflow_sub-start
overflow_sub-start g c = HasDigits-room _ _ _ _ c.loop-rest.invariant

pub bounds-digits-start : goal.bounds-digits-start
bounds-digits-start g c = omega (arith, c.loop-rest.invariant.within, HasDigits-room _ _ _ _ c.loop-rest.invariant)

pub loop-rest-preserved : goal.loop-rest-preserved
loop-rest-preserved g c = HasDigits-more c.args.number c.loop-rest.digits c.loop-rest.start c.loop-rest.rest c.loop-rest.invariant c.loop-rest-test.true

pub overflow_sub-start-2 : goal.overflow_sub-start-2
overflow_sub-start-2 g c = HasDigits-room _ _ _ _ c.loop-rest.invariant

pub bounds-digits-start-2 : goal.bounds-digits-start-2
bounds-digits-start-2 g c = omega (arith, c.loop-rest.invariant.within, HasDigits-room _ _ _ _ c.loop-rest.invariant)

pub slice_bounds-extend_from_slice-count : goal.slice_bounds-extend_from_slice-count
slice_bounds-extend_from_slice-count g c = omega (arith, c.loop-rest.invariant.within)

pub returns : goal.returns
returns g c =
    c.in_ok-extend_from_slice.ensures.items
    ∙ ap (λ ds. c.args.text.now.items ++ ds) (HasDigits-all c.args.number c.loop-rest.digits c.loop-rest.start c.loop-rest.rest c.loop-rest.invariant c.loop-rest-test.false)
