use Rattle.std.proofs.Common.{◌∙◌, ◌*◌, ◌+◌, Some, ap, length, set, sym}
use Rattle.a2_image.proofs.LentSectors.{lent_is_one, lent_long, some_byte_lent}
use Rattle.a2_media.proofs.units.write_lent.Goals as goal

pub returns-clause-written : goal.returns-clause-written
returns-clause-written g c = λ _.
    let image = c.args.image.now in
    let lent = c.sector_mut-lent in
    let can = some_byte_lent image c.args.track c.args.sector lent.result.now lent.ensures.none (sym c.is_empty.ensures ∙ c.if-is_empty.false) in
    let left = c.copy_from_slice.ensures.after in
    lent_is_one image c.args.track c.args.sector c.copy_from_slice.new.self c.order-order.ensures.long c.order-order.ensures.holds can (ap length left ∙ c.requires)
    ∙ ap (λ content. set image.sectors (16 * c.args.track + c.args.sector) (Some content)) left

pub returns-clause-long : goal.returns-clause-long
returns-clause-long g c =
    let image = c.args.image.now in
    let lent = c.sector_mut-lent in
    let can = some_byte_lent image c.args.track c.args.sector lent.result.now lent.ensures.none (sym c.is_empty.ensures ∙ c.if-is_empty.false) in
    lent_long image c.args.track c.args.sector c.copy_from_slice.new.self c.order-order.ensures.long can
