use Rattle.std.proofs.Common.{◌≡◌, arith, subst}
use Rattle.apple_text.specs.Taken.{IsBadLine}
use Rattle.apple_text.proofs.Runs.{run_behind_end, run_within}
use Rattle.apple_text.proofs.SoFar.{at_end, in_line, none_left, not_taken, some_left}
use Rattle.apple_text.proofs.Taking.{shorter}
use Rattle.apple_text.proofs.taken.bytes_of.Goals as goal

pub push_reserved-requires : goal.push_reserved-requires
push_reserved-requires g c = omega (arith, c.loop-byte.invariant.room, shorter _ _ _ c.in-Some.ensures.some.begins)

pub take_plain-rest-requires : goal.take_plain-rest-requires
take_plain-rest-requires g c = omega (arith, c.loop-byte.invariant.room, shorter _ _ _ c.in-Some.ensures.some.begins, c.push_reserved.ensures.len, c.push_reserved.ensures.capacity)

pub loop-byte-preserved-then-byte-eq-RETURN : goal.loop-byte-preserved-then-byte-eq-RETURN
loop-byte-preserved-then-byte-eq-RETURN g c = record {
  so_far =
      run_behind_end _ _ _ _ _ c.loop-byte.invariant.so_far _ _ c.in-Some.ensures.some _ c.push_reserved.ensures.items _ _ c.take_plain-rest.ensures.taken
      c.take_plain-rest.ensures.left c.if-byte-eq-RETURN.true;
  room = c.take_plain-rest.ensures.room;
}

pub loop-byte-preserved : goal.loop-byte-preserved
loop-byte-preserved g c = record {
  so_far =
      run_within _ _ _ _ _ c.loop-byte.invariant.so_far _ _ c.in-Some.ensures.some _ c.push_reserved.ensures.items _ _ c.take_plain-rest.ensures.taken
      c.take_plain-rest.ensures.left c.if-byte-eq-RETURN.false;
  room = c.take_plain-rest.ensures.room;
}

pub returns-then-is_empty-clause-taken : goal.returns-then-is_empty-clause-taken
returns-then-is_empty-clause-taken g c =
    at_end _ _ _ _ _ c.loop-byte.invariant.so_far (none_left _ _ c.is_empty.ensures c.if-is_empty.true)

pub returns-else-is_empty-clause-refused : goal.returns-else-is_empty-clause-refused
returns-else-is_empty-clause-refused g c number same =
    not_taken _ _ _ _ _ c.loop-byte.invariant.so_far (some_left _ _ c.is_empty.ensures c.if-is_empty.false) c.in_default.ensures.none

pub returns-else-is_empty-clause-line : goal.returns-else-is_empty-clause-line
returns-else-is_empty-clause-line g c number same =
    let line : c.loop-byte.line ≡ number = cc in
    subst (IsBadLine c.args.form c.args.text.now) line
    (in_line _ _ _ _ _ c.loop-byte.invariant.so_far (some_left _ _ c.is_empty.ensures c.if-is_empty.false) c.in_default.ensures.none)
