use Rattle.std.proofs.Common.{◌≡◌, map, take}
use Rattle.apple_text.specs.Shown.{low}
use Rattle.shop_reads.proofs.wanted_forms.low_bytes.Given as goal

abbrev pub invariant-loop-byte : goal.invariant-loop-byte
invariant-loop-byte l = l.codes.items ≡ map low (take l.byte-index l.bytes)
