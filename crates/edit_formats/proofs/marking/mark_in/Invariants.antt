use Rattle.std.proofs.Common.{◌≡◌, drop, map}
use Rattle.vol_laws.specs.Marked.{with_marks}
use Rattle.vol_laws.specs.Markings.{mark_as}
use Rattle.edit_formats.specs.Markings.{marked_in}
use Rattle.edit_formats.proofs.marking.mark_in.Given as goal

abbrev pub invariant-loop-place : goal.invariant-loop-place
invariant-loop-place g l =
    with_marks (g.F.Format.meaning l.format) l.unit (map (mark_as l.free) (marked_in (g.F.Format.directory l.format l.volume) l.at (drop l.place-index l.places)))
    ≡ with_marks (g.F.Format.meaning l.format) l.fn.unit (map (mark_as l.free) (marked_in (g.F.Format.directory l.format l.volume) l.at l.places))
