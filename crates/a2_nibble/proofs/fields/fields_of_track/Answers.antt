use Rattle.std.proofs.Common.{◌≡◌, ◌<◌, ℕ, length, Option, Some, sym, ◌∙◌, ap, subst, arith}
use Rattle.std.specs.Prelude.{slice_get}
use Rattle.std.proofs.lemmas.Option.{slice_get_within}
use Rattle.a2_nibble.specs.declared.search.Field.{Field}
use Rattle.a2_nibble.specs.Search.{FindsBelow, FindsSector}
use Rattle.a2_nibble.proofs.AnswerLemmas.{one_answer, FindsBelow-more, FindsSector-from_below, no_field_off_mark}
use Rattle.a2_nibble.proofs.fields.fields_of_track.Goals as goal
use Rattle.a2_nibble.proofs.fields.fields_of_track.Goals.{After-loop-place, then-byte_at, else-byte_at}

pub loop-place-preserved : goal.loop-place-preserved
loop-place-preserved c = record {
  long = (elim c.if-byte_at.branch [ then-byte_at w ↦ omega (arith, ap length w.fields-is, w.keep_first.array_long) | else-byte_at w ↦ omega (arith, ap length w.fields-is) ]);
  below = λ s answer is. (elim c.if-byte_at.branch [
    | then-byte_at w ↦ w.keep_first.ensures s answer (ap (λ fields. slice_get fields s) (sym w.fields-is) ∙ is)
    | else-byte_at w ↦ FindsBelow-more c.args.nibbles.now c.args.track s c.loop-place.place
        (no_field_off_mark c.args.nibbles.now c.args.track s c.loop-place.place (λ e. w.if-byte_at.false (c.byte_at.ensures ∙ e)))
        answer (c.loop-place.invariant.below s answer (ap (λ fields. slice_get fields s) (sym w.fields-is) ∙ is))
  ]);
}

finds : (c : After-loop-place) (s : ℕ) (answer : Option Field) → slice_get c.loop-place.fields s ≡ Some answer →
    FindsSector c.args.nibbles.now c.args.track s answer
finds c s answer is =
    let inside : s < length c.loop-place.fields = slice_get_within c.loop-place.fields s answer is in
    let all : c.loop-place.place ≡ 6656 = omega arith in
    FindsSector-from_below c.args.nibbles.now c.args.track s (omega arith) (omega arith) answer
    (subst (λ till. FindsBelow c.args.nibbles.now c.args.track s till answer) all (c.loop-place.invariant.below s answer is))

pub returns-clause-finds : goal.returns-clause-finds
returns-clause-finds c = finds c

pub returns-clause-only : goal.returns-clause-only
returns-clause-only c = λ s answer other is h. one_answer _ _ _ other answer h (finds c s answer is)
