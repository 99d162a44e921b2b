use Rattle.std.proofs.Common.{◌≡◌, ◌≢◌, ℕ, ◌+◌, ◌<◌, length, get_or, ◌∙◌, arith, get_or-set_other, get_or-set_same, below_more}
use Rattle.std.proofs.lemmas.List.{length-set}
use Rattle.a2_nibble.specs.Written.{written_value}
use Rattle.a2_nibble.proofs.CopyLemmas.{copied_at}
use Rattle.a2_nibble.proofs.FieldLemmas.{value-written, written_value-small}
use Rattle.a2_nibble.proofs.codec.written_values.Goals as goal
use Rattle.a2_nibble.proofs.codec.written_values.Goals.{After-loop-i}

pub loop-i-preserved : goal.loop-i-preserved
loop-i-preserved c =
    let i = c.loop-i.i in
    let room : 86 + i < length c.loop-i.values = omega arith in
    record {
      long = length-set _ _ _ ∙ c.loop-i.invariant.long;
      groups = λ j l. let ne : j ≢ 86 + i = omega arith in rw get_or-set_other (c.loop-i.invariant.groups j l);
      done = below_more _ _
          (λ k h. let ne : 86 + k ≢ 86 + i = omega arith in rw get_or-set_other (c.loop-i.invariant.done k h))
          (rw get_or-set_same);
    }

written : (c : After-loop-i) → (k : ℕ) → k < 342 → get_or c.loop-i.values k 0 ≡ written_value c.args.content.now k
written c = value-written c.args.content.now (omega arith) (λ i. omega (arith, c.fits-content i)) c.loop-i.values
    (λ j l. c.loop-i.invariant.groups j l
    ∙ copied_at _ _ _ _ c.copy_to.ensures j j (omega arith) (omega arith)
    ∙ c.low_groups-groups.ensures j l)
    (λ i l. c.loop-i.invariant.done i (omega arith))

pub returns-clause-value : goal.returns-clause-value
returns-clause-value c = written c

pub returns-clause-fits : goal.returns-clause-fits
returns-clause-fits c = λ k l. omega (arith, written c k l, written_value-small c.args.content.now (omega arith) (λ i. omega (arith, c.fits-content i)) k)
