use Rattle.std.proofs.Common.{◌≡◌, ◌+◌, false, true, arith, sym, subst}
use Rattle.applesoft.specs.Reading.{line_at}
use Rattle.applesoft.specs.Tokens.{IsPlaced, IsRead}
use Rattle.applesoft.proofs.Split.{none_at, some_at}
use Rattle.applesoft.proofs.Texts.{SoFar, bad_line, not_tokenized, over_of, step_code, step_over}
use Rattle.applesoft.proofs.tokenizing.tokens.Goals as goal

pub returns-in_default-2-clause-refused : goal.returns-in_default-2-clause-refused
returns-in_default-2-clause-refused g c number same =
    not_tokenized _ _ _ _ _ _ c.loop-line.invariant _ _ c.in-Some.ensures.some c.in-Some.ensures.shorter
    (over_of c.in-Some.line.now _ _ false c.without_spaces.ensures c.is_empty.ensures c.if-not-is_empty.true)
    (none_at c.in_ok-placed.field-0 c.in_default-2.is c.in_ok-placed.ensures.none)

pub returns-in_default-2-clause-line : goal.returns-in_default-2-clause-line
returns-in_default-2-clause-line g c number same =
    let line : c.loop-line.number + 1 ≡ number = cc in (
      c.loop-line.number,
      omega (arith, line),
      bad_line _ _ _ _ _ _ c.loop-line.invariant _ _ c.in-Some.ensures.some c.in-Some.ensures.shorter
          (over_of c.in-Some.line.now _ _ false c.without_spaces.ensures c.is_empty.ensures c.if-not-is_empty.true)
          (none_at c.in_ok-placed.field-0 c.in_default-2.is c.in_ok-placed.ensures.none),
    )

pub loop-line-preserved-in_ok-push_line : goal.loop-line-preserved-in_ok-push_line
loop-line-preserved-in_ok-push_line g c =
    subst (λ n. SoFar c.args.text.now c.push_line.new.program.items c.in-Some.more.now (n + 1) c.from-then-not-is_empty.result (c.loop-line.number + 1)) (sym c.from.ensures)
    (subst (λ a. SoFar c.args.text.now c.push_line.new.program.items c.in-Some.more.now (c.in-Some-2.placed.line.number + 1) a (c.loop-line.number + 1))
    (sym c.from-then-not-is_empty.ensures)
    (subst (λ items. SoFar c.args.text.now items c.in-Some.more.now (c.in-Some-2.placed.line.number + 1) c.in-Some-2.placed.link (c.loop-line.number + 1))
    (sym c.in_ok-push_line.ensures)
    (step_code _ _ _ _ _ _ c.loop-line.invariant _ _ c.in-Some.ensures.some c.in-Some.ensures.shorter (line_at c.in-Some-2.placed.link c.in-Some-2.placed.line)
    (over_of c.in-Some.line.now _ _ false c.without_spaces.ensures c.is_empty.ensures c.if-not-is_empty.true)
    (some_at c.in_ok-placed.field-0 c.in-Some-2.placed c.in-Some-2.is (λ p. IsRead c.in-Some.line.now p.line.number p.line.body.items) c.in_ok-placed.ensures.read)
    (some_at c.in_ok-placed.field-0 c.in-Some-2.placed c.in-Some-2.is
    (λ p. IsPlaced c.loop-line.place.least c.loop-line.place.address (line_at p.link p.line)) c.in_ok-placed.ensures.placed))))

pub loop-line-preserved : goal.loop-line-preserved
loop-line-preserved g c =
    step_over _ _ _ _ _ _ c.loop-line.invariant _ _ c.in-Some.ensures.some c.in-Some.ensures.shorter
    (over_of c.in-Some.line.now _ _ true c.without_spaces.ensures c.is_empty.ensures c.if-not-is_empty.false)
