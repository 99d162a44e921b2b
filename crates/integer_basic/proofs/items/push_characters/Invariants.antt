use Rattle.std.proofs.Common.{◌≡◌, ◌++◌, take}
use Rattle.integer_basic.specs.Items.{characters}
use Rattle.integer_basic.proofs.items.push_characters.Given as goal

abbrev pub invariant-loop-byte : goal.invariant-loop-byte
invariant-loop-byte g l = l.text.items ≡ l.initial.text.items ++ characters (take l.byte-index l.bytes)
