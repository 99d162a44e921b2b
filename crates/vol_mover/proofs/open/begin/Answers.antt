use Rattle.std.proofs.Common.{◌∙◌, sym, subst}
use Rattle.vol_mover.specs.Opening.{told_in}
use Rattle.vol_mover.proofs.Few.{few_lost}
use Rattle.vol_mover.specs.Begun.{IsBegun}
use Rattle.vol_mover.proofs.Begins.{begun}
use Rattle.vol_mover.proofs.open.begin.Goals as goal

pub started-requires : goal.started-requires
started-requires g c =
    let opening = c.in-Ok.opening in
    let format = c.args.format.now in
    let directory = g.F.Format.directory format opening.volume in
    few_lost (g.F.Format.meaning format) directory (told_in directory opening) (g.met.F.Format.rooted format opening.volume) c.in-Ok.ensures.told

pub returns-in-Ok-room-clause-begun : goal.returns-in-Ok-room-clause-begun
returns-in-Ok-room-clause-begun g c =
    let opening = c.in-Ok.opening in
    let format = c.args.format.now in
    let directory = g.F.Format.directory format opening.volume in
    let made = c.in-Ok-room.ensures in
    let read = c.in-Ok.ensures in
    subst (IsBegun (g.F.Format.meaning format) c.args.options (g.D.Device.state c.args.device)) (sym c.started.ensures.session)
    (begun (g.F.Format.meaning format) c.args.options (g.D.Device.state c.args.device) (g.D.Device.state c.read.new.device) directory (g.met.F.Format.rooted format opening.volume)
    (told_in directory opening) read.told made.layout opening.plan read.plan c.in-Ok-room.agenda c.in-Ok-room.unit.items c.requires.fits.places c.requires.fits.unit read.device read.places
    (made.unit ∙ c.unit.ensures) made.agenda made.moves made.order made.few read.accepted read.parts read.lost made.writes read.allowed)
