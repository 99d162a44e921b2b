use Rattle.std.proofs.Common.{sym, ◌∙◌, arith}
use Rattle.std.proofs.lemmas.Option.{IfSome_then}
use Rattle.a2_nibble.proofs.SearchLemmas.{IfNone_then, HasMark-from, mark_from, no_mark}
use Rattle.a2_nibble.proofs.search.data_after.Goals as goal

pub returns-then-byte_at-clause-found : goal.returns-then-byte_at-clause-found
returns-then-byte_at-clause-found c =
    IfSome_then c.data_behind.result c.data_behind.ensures.found (λ d h.
    (omega (arith, h.0), HasMark-from c.args.nibbles.now c.args.start c.loop-place.place (omega arith) (omega arith) c.loop-place.invariant d h.0 h.1))

pub returns-then-byte_at-clause-none : goal.returns-then-byte_at-clause-none
returns-then-byte_at-clause-none c =
    IfNone_then c.data_behind.result c.data_behind.ensures.none (λ no d h.
    no (mark_from c.args.nibbles.now c.args.start c.loop-place.place (omega arith) (omega arith) c.loop-place.invariant
    (sym c.byte_at.ensures ∙ c.if-byte_at.true) d h))

pub returns-clause-none : goal.returns-clause-none
returns-clause-none c = no_mark c.args.nibbles.now c.args.start (λ k l. c.loop-place.invariant k (omega arith))
