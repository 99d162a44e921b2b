use Rattle.std.proofs.Common.{◌<◌, length, get_or, arith, rules}
use Rattle.std.specs.Int.{IsInRange}
use Rattle.ring_cert.proofs.Spelling.{AreDigits-more}
use Rattle.ring_cert.proofs.words.digits_at.Goals as goal

pub loop-len-preserved : goal.loop-len-preserved
loop-len-preserved c =
    let within : c.loop-len.len < length c.args.bytes.now = omega arith in
    let digit : IsInRange 48 57 (get_or c.args.bytes.now c.loop-len.len 0) = search rules in
    record {
      within = omega arith;
      digits = AreDigits-more c.args.bytes.now c.loop-len.len c.loop-len.invariant.digits within digit;
    }
