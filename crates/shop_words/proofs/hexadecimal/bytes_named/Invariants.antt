use Rattle.std.proofs.Common.{◌*◌}
use Rattle.shop_words.proofs.HexWords.{ReadTo}
use Rattle.shop_words.proofs.hexadecimal.bytes_named.Given as goal

abbrev pub invariant-loop-at : goal.invariant-loop-at
invariant-loop-at l = ReadTo l.digits l.bytes.items (2 * l.at)
