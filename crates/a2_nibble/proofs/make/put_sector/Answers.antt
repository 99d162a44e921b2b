use Rattle.std.proofs.Common.{◌≡◌, ◌+◌, inl, sym, ◌∙◌, subst, length, arith}
use Rattle.a2_nibble.specs.Field.{IsEncoded}
use Rattle.a2_nibble.specs.Track.{field_at}
use Rattle.a2_nibble.proofs.RingLemmas.{field_at-from}
use Rattle.a2_nibble.proofs.make.put_sector.Goals as goal

pub returns-clause-encoded : goal.returns-clause-encoded
returns-clause-encoded c =
    let field = c.encode_sector.result in
    let long : length field ≡ 343 = c.encode_sector.ensures.encoded.long in
    let same : field ≡ field_at c.put-5.new.nibbles (c.args.place + 23) = field_at-from _ field _ long (λ k l.
    sym (c.put-5.ensures.others (c.args.place + 23 + k) (omega arith) (inl (omega arith))
    ∙ c.put-4.ensures.written k (omega arith))) in
    subst (IsEncoded c.args.content.now) same c.encode_sector.ensures.encoded
