use Rattle.std.proofs.Common.{◌*◌, sym, subst, arith, ⊎_elim}
use Rattle.std.proofs.lemmas.Bool.{cases_lt}
use Rattle.a2_nibble.specs.Field.{value_at, IsByte}
use Rattle.a2_nibble.proofs.FieldLemmas.{value_at-small, IsByte-along}
use Rattle.a2_nibble.proofs.codec.decode_sector.Goals as goal

pub put_third-requires-clause-values : goal.put_third-requires-clause-values
put_third-requires-clause-values c =
    λ k l. omega (arith, c.values_of-values.ensures k l, value_at-small c.args.field.now c.requires.in_table k (omega arith))

pub loop-third-preserved : goal.loop-third-preserved
loop-third-preserved c = record {
  long = omega arith;
  done = λ i l inside. ⊎_elim
      (λ before. subst (IsByte (value_at c.args.field.now) i) (sym (c.put_third.ensures.others i before)) (c.loop-third.invariant.done i before inside))
      (λ here. IsByte-along _ (value_at c.args.field.now) i _ inside c.values_of-values.ensures (c.put_third.ensures.bytes i here (omega arith) inside))
      (cases_lt i (86 * c.loop-third.third));
}

pub returns : goal.returns
returns c = record {
  long = c.loop-third.invariant.long;
  byte_at = λ i l. c.loop-third.invariant.done i (omega arith) l;
}
