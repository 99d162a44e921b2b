use Rattle.std.proofs.Common.{◌≢◌, ◌<◌, length, ◌∙◌, arith, get_or-set_other, get_or-set_same, below_more}
use Rattle.std.proofs.lemmas.List.{length-set, get_or-replicate}
use Rattle.a2_nibble.proofs.CopyLemmas.{padded_at}
use Rattle.a2_nibble.proofs.FieldLemmas.{group-padded}
use Rattle.a2_nibble.proofs.codec.low_groups.Goals as goal

pub loop-j-preserved : goal.loop-j-preserved
loop-j-preserved c =
    let content = c.args.content.now in
    let bytes = c.copy_to.new.to in
    let j = c.loop-j.j in
    let room : j < length c.loop-j.groups = omega arith in
    let same = padded_at content _ bytes 258 (λ k l. get_or-replicate 258 k 0 0 l) c.copy_to.ensures in
    record {
      long = length-set _ _ _ ∙ c.loop-j.invariant.long;
      done = below_more _ _
          (λ i h. let ne : i ≢ j = omega arith in rw get_or-set_other (c.loop-j.invariant.done i h))
          (rw get_or-set_same (group-padded content bytes j _ _ _ same (omega arith) c.swapped.ensures.value
          c.swapped-in-loop-j.ensures.value c.swapped-in-loop-j-2.ensures.value));
    }
