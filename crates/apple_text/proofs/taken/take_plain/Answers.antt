use Rattle.std.proofs.Common.{arith}
use Rattle.std.proofs.lemmas.List.Sums.{prefix_len-le-length}
use Rattle.apple_text.specs.Reading.{is_plain}
use Rattle.apple_text.proofs.taken.take_plain.Goals as goal

pub split_at-requires : goal.split_at-requires
split_at-requires g c = omega (arith, c.plain_len.ensures, prefix_len-le-length is_plain c.args.text.now)
