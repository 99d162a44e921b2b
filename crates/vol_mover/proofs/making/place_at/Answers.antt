use Rattle.std.proofs.Common.{◌≡◌, ap, ◌∙◌}
use Rattle.std.specs.Prelude.{unwrap_or}
use Rattle.std.proofs.lemmas.Option.{unwrap_or-slice_get}
use Rattle.vol_mover.specs.Tasks.{place_of}
use Rattle.vol_mover.proofs.Moving.{place_below}
use Rattle.vol_mover.proofs.making.place_at.Goals as goal

pub returns-clause-below : goal.returns-clause-below
returns-clause-below g c =
    let directory = g.F.Format.directory c.args.format.now c.args.volume.now in
    let is : c.unwrap_or.result ≡ place_of directory c.args.number =
    c.unwrap_or.ensures ∙ (ap (λ place. unwrap_or place 0) c.available.ensures ∙ unwrap_or-slice_get directory.available c.args.number 0) in
    rw is (place_below (g.F.Format.meaning c.args.format.now) directory (g.met.F.Format.rooted c.args.format.now c.args.volume.now) c.args.number c.requires)
