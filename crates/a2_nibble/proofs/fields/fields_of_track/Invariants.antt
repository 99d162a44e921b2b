use Rattle.std.proofs.Common.{◌≡◌, ℕ, length, Option, Some}
use Rattle.std.specs.Prelude.{slice_get}
use Rattle.a2_nibble.specs.declared.search.Field.{Field}
use Rattle.a2_nibble.specs.Search.{FindsBelow}
use Rattle.a2_nibble.proofs.fields.fields_of_track.Given as goal

abbrev pub invariant-loop-place : goal.invariant-loop-place
invariant-loop-place l = record {
  long : length l.fields ≡ 16;
  below : (sector : ℕ) (answer : Option Field) → slice_get l.fields sector ≡ Some answer → FindsBelow l.nibbles l.track sector l.place answer;
}
