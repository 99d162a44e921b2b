use Rattle.std.proofs.Common.{◌≡◌, ◌≢◌, length, arith, inr, refl}
use Rattle.vol_format.specs.Directory.{entries}
use Rattle.new_volumes.proofs.EmptyOnes.{empty_of, has_lost}
use Rattle.new_volumes.proofs.empty.require_empty.Goals as goal

pub returns-in-Err-Device-clause-refused : goal.returns-in-Err-Device-clause-refused
returns-in-Err-Device-clause-refused g c =
    let told = rw c.in-Err-Device.field-0-is at c.in-Err-Device.ensures in
    let met = told.device.met c.requires.honest refl in
    absurd (c.requires.readable met.0 _ met.1)

pub returns-then-not-is_empty-clause-refused : goal.returns-then-not-is_empty-clause-refused
returns-then-not-is_empty-clause-refused g c =
    let honest = c.requires.honest in
    let lost = c.in-Ok.checked.lost.items in
    let some : length lost ≢ 0 = grind (arith, c.is_empty.ensures, c.lost.ensures, c.if-not-is_empty.true) in
    inr (refl, has_lost _ _ _ lost (c.in-Ok.ensures.accepted honest) (c.in-Ok.ensures.lost honest) (g.met.F.Format.readable c.args.format.now) some)

pub returns-clause-empty : goal.returns-clause-empty
returns-clause-empty g c =
    let honest = c.requires.honest in
    let lost = c.in-Ok.checked.lost.items in
    let few : length lost ≡ 0 = grind (arith, c.is_empty.ensures, c.lost.ensures, c.if-not-is_empty.false) in
    let none : entries (g.F.Format.directory c.args.format.now c.in-Ok.checked.volume) ≡ 0 = grind (arith, c.if-entries-ne0.false, c.entries.ensures, c.volume.ensures) in
    empty_of _ _ _ lost (c.in-Ok.ensures.accepted honest) (c.in-Ok.ensures.lost honest) none few
