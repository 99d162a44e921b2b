use Rattle.std.proofs.Common.{Some, None, ◌∙◌, arith, below_more}
use Rattle.a2_nibble.specs.Search.{FindsSector}
use Rattle.a2_nibble.proofs.AnswerLemmas.{one_answer, no_field_off_mark}
use Rattle.a2_nibble.proofs.search.find_sector.Goals as goal
use Rattle.a2_nibble.proofs.search.find_sector.Goals.{In-Some, After-loop-place, then-byte_at+in_default, else-byte_at}

pub loop-place-preserved : goal.loop-place-preserved
loop-place-preserved c = below_more _ _ c.loop-place.invariant
    (elim c.if-byte_at.branch [
      | then-byte_at+in_default w ↦ w.in_default.ensures.none
      | else-byte_at w ↦ no_field_off_mark c.args.nibbles.now c.args.track c.args.sector c.loop-place.place
          (λ e. w.if-byte_at.false (c.byte_at.ensures ∙ e))
    ])

found : (c : In-Some) → FindsSector c.args.nibbles.now c.args.track c.args.sector (Some c.in-Some.field)
found c = record {
  found = (
    omega arith,
    omega arith,
    record {
      place = c.loop-place.place;
      on_track = omega arith;
      counts = c.in-Some.ensures.found;
      least = c.loop-place.invariant;
    },
  );
  none = tt;
}

pub returns-in-Some-clause-only : goal.returns-in-Some-clause-only
returns-in-Some-clause-only c = λ answer h. one_answer _ _ _ answer (Some c.in-Some.field) h (found c)

none : (c : After-loop-place) → FindsSector c.args.nibbles.now c.args.track c.args.sector None
none c = record {
  found = tt;
  none = λ _ _ v d h. c.loop-place.invariant h.place (omega (arith, h.on_track)) v d h.counts;
}

pub returns-clause-finds : goal.returns-clause-finds
returns-clause-finds c = none c

pub returns-clause-only : goal.returns-clause-only
returns-clause-only c = λ answer h. one_answer _ _ _ answer None h (none c)
