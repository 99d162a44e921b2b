use Rattle.std.proofs.Common.{arith}
use Rattle.std.proofs.lemmas.List.Sums.{prefix_len-le-length}
use Rattle.integer_basic.specs.Items.{is_letter_or_digit}
use Rattle.integer_basic.proofs.items.Item.of_name.Goals as goal

pub split_at-requires : goal.split_at-requires
split_at-requires c = omega (arith, c.length_of_name.ensures, prefix_len-le-length is_letter_or_digit c.args.bytes.now)
