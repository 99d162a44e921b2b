use Rattle.std.proofs.Common.{◌≡◌, string_bytes}
use Rattle.std.specs.Prelude.{flat_map}
use Rattle.shown_text.specs.Escaping.{shown_character}
use Rattle.shown_text.proofs.escaping.escaped.Given as goal

abbrev pub invariant-loop-character : goal.invariant-loop-character
invariant-loop-character l = string_bytes l.shown ≡ flat_map shown_character l.yielded
