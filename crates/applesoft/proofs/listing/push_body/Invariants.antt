use Rattle.std.proofs.Common.{◌≡◌, ◌++◌, take}
use Rattle.std.specs.Prelude.{flat_map}
use Rattle.applesoft.specs.Program.{byte_text}
use Rattle.applesoft.proofs.listing.push_body.Given as goal

abbrev pub invariant-loop-byte : goal.invariant-loop-byte
invariant-loop-byte g l = l.text.items ≡ l.initial.text.items ++ flat_map byte_text (take l.byte-index l.body)
