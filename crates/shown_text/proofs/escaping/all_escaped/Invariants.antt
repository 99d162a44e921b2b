use Rattle.std.proofs.Common.{◌≡◌, map, string_bytes, take}
use Rattle.shown_text.specs.Escaping.{escaped}
use Rattle.shown_text.proofs.escaping.all_escaped.Given as goal

abbrev pub invariant-loop-word : goal.invariant-loop-word
invariant-loop-word l = map string_bytes l.shown.items ≡ map escaped (map string_bytes (take l.word-index l.words))
