use Rattle.std.proofs.Common.{◌≢◌, ◌+◌, ◌-◌, ◌*◌, ◌/◌, ◌%◌, ◌^◌, ◌<◌, length, get_or, refl, ◌∙◌, arith, get_or-set_other}
use Rattle.std.proofs.lemmas.List.{length-set}
use Rattle.a2_nibble.specs.Field.{IsByte}
use Rattle.a2_nibble.proofs.FieldLemmas.{IsByte-from_third, IsByte-set}
use Rattle.a2_nibble.proofs.codec.put_third.Goals as goal

pub loop-i-preserved : goal.loop-i-preserved
loop-i-preserved c =
    let values = c.args.values.now in
    let i = c.loop-i.i in
    let start = 86 * c.args.third in
    let group = get_or values (i - start) 0 in
    let pair = group / 2 ^ (2 * c.args.third) % 4 in
    let byte : IsByte (λ n. get_or values n 0) i (get_or values (86 + i) 0 * 4 + c.swapped.result) = IsByte-from_third values c.args.third i _ pair (omega arith) (omega arith) (omega arith)
    (omega (arith, c.requires.values (86 + i) (omega arith))) refl (omega (arith, c.swapped.ensures.value)) in
    let room : i < length c.loop-i.content = omega arith in
    record {
      long = length-set _ _ _ ∙ c.loop-i.invariant.long;
      done = IsByte-set (λ n. get_or values n 0) c.loop-i.content start i _ room c.loop-i.invariant.done byte;
      others = λ k l. let ne : k ≢ i = omega arith in rw get_or-set_other (c.loop-i.invariant.others k l);
    }
