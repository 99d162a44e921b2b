use Rattle.std.proofs.Common.{List, ℕ, sym, subst}
use Rattle.host_folders.proofs.SoFar.{SoFar, at_end, next, none_left, not_said, some_left}
use Rattle.host_folders.proofs.said_stem.bytes_of.Goals as goal

pub loop-byte-preserved : goal.loop-byte-preserved
loop-byte-preserved g c =
    subst (λ (bytes : List ℕ). SoFar c.args.form c.args.text.now bytes c.in-Some.more.now)
    (sym c.in_ok-push.ensures.items)
    (next c.args.form c.args.text.now c.loop-byte.bytes.items c.loop-byte.rest.now c.in-Some.byte c.in-Some.more.now
    c.loop-byte.invariant c.in-Some.ensures.some)

pub returns-then-is_empty : goal.returns-then-is_empty
returns-then-is_empty g c =
    at_end c.args.form c.args.text.now c.loop-byte.bytes.items c.loop-byte.rest.now c.loop-byte.invariant
    (none_left _ _ c.is_empty.ensures c.if-is_empty.true)

pub returns-else-is_empty : goal.returns-else-is_empty
returns-else-is_empty g c =
    not_said c.args.form c.args.text.now c.loop-byte.bytes.items c.loop-byte.rest.now c.loop-byte.invariant
    (some_left _ _ c.is_empty.ensures c.if-is_empty.false) c.in_default.ensures.none
