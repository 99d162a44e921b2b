use Rattle.std.proofs.Common.{◌≡◌, ◌≢◌, ◌<◌, length, set, ap, ◌∙◌, arith, get_or-set_other, get_or-set_same}
use Rattle.std.specs.Int.Bits.{xor_lt}
use Rattle.std.proofs.lemmas.List.{length-set}
use Rattle.a2_nibble.proofs.FieldLemmas.{IsEncoded-from, before_value}
use Rattle.a2_nibble.specs.Field.{IsEncoded}
use Rattle.a2_nibble.proofs.OneLemmas.{one_encoding}
use Rattle.a2_nibble.proofs.codec.encode_sector.Goals as goal
use Rattle.a2_nibble.proofs.codec.encode_sector.Goals.{After-disk_byte-2}

pub disk_byte-requires : goal.disk_byte-requires
disk_byte-requires c = xor_lt 6 _ _ (c.written_values-values.ensures.fits c.loop-k.k (omega arith)) c.loop-k.invariant.small

encoded : (c : After-disk_byte-2) → IsEncoded c.args.content.now (set c.loop-k.field 342 c.disk_byte-2.result)
encoded c =
    let field = c.loop-k.field in
    let room : 342 < length field = omega arith in
    let end : c.loop-k.k ≡ 342 = omega arith in
    IsEncoded-from c.args.content.now (omega arith) (λ i. omega (arith, c.fits-content i)) (set field 342 c.disk_byte-2.result)
    (length-set _ _ _ ∙ c.loop-k.invariant.long)
    (λ j h. let ne : j ≢ 342 = omega arith in rw get_or-set_other (c.loop-k.invariant.done j (omega arith)))
    (rw get_or-set_same (c.disk_byte-2.ensures ∙ c.loop-k.invariant.before ∙ ap (before_value c.args.content.now) end))

pub returns-clause-encoded : goal.returns-clause-encoded
returns-clause-encoded c = encoded c

pub returns-clause-only : goal.returns-clause-only
returns-clause-only c = λ bytes h. one_encoding c.args.content.now bytes _ h (encoded c)
