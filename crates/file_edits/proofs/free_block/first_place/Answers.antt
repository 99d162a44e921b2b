use Rattle.std.proofs.Common.{◌∙◌, ap, sym, Err}
use Rattle.file_edits.proofs.Refusals.{error_in, first_inside, none_left, one_place}
use Rattle.file_edits.proofs.free_block.first_place.Goals as goal

pub returns-in-Ok-clause-first : goal.returns-in-Ok-clause-first
returns-in-Ok-clause-first g c =
    sym c.in-Ok.ensures.places ∙ one_place c.in-Ok.places.items c.index-place.result.now c.in-Ok.ensures.count c.index-place.ensures

pub returns-in-Ok-clause-inside : goal.returns-in-Ok-clause-inside
returns-in-Ok-clause-inside g c =
    let directory = g.F.Format.directory c.args.format.now c.args.volume.now in
    first_inside directory (g.F.Format.meaning c.args.format.now) (g.met.F.Format.rooted c.args.format.now c.args.volume.now) c.index-place.result.now
    (sym c.in-Ok.ensures.places ∙ one_place c.in-Ok.places.items c.index-place.result.now c.in-Ok.ensures.count c.index-place.ensures)

pub returns-in-Err-clause-full : goal.returns-in-Err-clause-full
returns-in-Err-clause-full g c = λ same.
    none_left (g.F.Format.directory c.args.format.now c.args.volume.now) (c.in-Err.ensures.full (ap Err (ap error_in same)))
