use Rattle.std.proofs.Common.{◌≡◌, length, arith}
use Rattle.a2_image.specs.Image.{CanLend}
use Rattle.a2_image.proofs.ImageLemmas.{length_of_disk}
use Rattle.a2_image.proofs.image.Image.lent_range.Goals as goal

pub returns-clause-within : goal.returns-clause-within
returns-clause-within g c =
    let can : CanLend c.args.self.now c.args.track c.args.sector = c.can_lend.ensures.lends.0 c.if-not-can_lend.false in
    let whole : length c.args.self.now.bytes ≡ 143360 = length_of_disk c.args.self.now.order c.args.self.now.bytes can.plain c.order.ensures.long can.disk in
    omega (arith, whole, c.stored_number-start.ensures.within)
