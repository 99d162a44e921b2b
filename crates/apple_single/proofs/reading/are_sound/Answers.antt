use Rattle.std.proofs.Common.{refl}
use Rattle.apple_single.proofs.Exits.{never, refuted}
use Rattle.apple_single.proofs.Judging.{at_end, step, twice, unsound}
use Rattle.apple_single.proofs.reading.are_sound.Goals as goal

pub returns-then-not-is_sound : goal.returns-then-not-is_sound
returns-then-not-is_sound c = λ entries is. never (
    unsound _ _ _ _ _ c.loop-entry.invariant c.in-Some.ensures.some
    (refuted c.is_sound.result c.is_sound.ensures c.if-not-is_sound.true) entries is
    )

pub returns-then-has : goal.returns-then-has
returns-then-has c = λ entries is. never (
    twice _ _ _ _ _ c.loop-entry.invariant c.in-Some.ensures.some (c.has.ensures.found c.if-has.true) entries is
    )

pub loop-entry-preserved : goal.loop-entry-preserved
loop-entry-preserved c =
    step _ _ _ _ _ c.loop-entry.invariant c.in-Some.ensures.some (c.is_sound.ensures.0 c.if-not-is_sound.false)
    (c.has.ensures.none c.if-has.false)

pub returns : goal.returns
returns c = λ entries is.
    let are = at_end _ _ _ c.loop-entry.invariant c.in_default.ensures.none entries is in
    (λ yes'. are, λ _. refl)
