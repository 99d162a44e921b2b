use Rattle.std.proofs.Common.{ℕ, []}
use Rattle.std.proofs.lemmas.Result.{err_from_is_err_and}
use Rattle.pro_format.specs.Pro.{pro_meaning}
use Rattle.image_readings.proofs.Stopped.{walk_stops}
use Rattle.image_readings.proofs.volume.count_blocks.Goals as goal

pub returns-in_err-directory-clause-refused : goal.returns-in_err-directory-clause-refused
returns-in_err-directory-clause-refused g c =
    let given = err_from_is_err_and c.from_residual.result c.from_residual.ensures.1 in
    rw (given.1, given.2) (walk_stops ℕ (pro_meaning []) (g.D.Device.state c.args.device.now) (g.D.Device.state c.walk.new.device) c.in_err-directory.field-0.0 c.requires.honest c.requires.never
    c.in_err-directory.ensures.device (λ fault is. (c.in_err-directory.ensures.refused c.requires.honest fault is).0))
