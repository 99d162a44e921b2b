use Rattle.std.proofs.Common.{◌≡◌, None, drop}
use Rattle.edit_formats.specs.Markings.{nearest}
use Rattle.edit_formats.proofs.marking.next_unit.Given as goal

abbrev pub invariant-loop-place : goal.invariant-loop-place
invariant-loop-place g l =
    nearest (g.F.Format.directory l.format l.volume) l.from l.best (drop l.place-index l.places)
    ≡ nearest (g.F.Format.directory l.format l.volume) l.from None l.places
