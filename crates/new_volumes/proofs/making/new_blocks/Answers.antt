use Rattle.std.proofs.Common.{◌∙◌, subst, sym}
use Rattle.std.proofs.lemmas.Result.{err_from_is_err_and}
use Rattle.new_volumes.specs.NewImage.{RefusesNew}
use Rattle.new_volumes.specs.Wanted.{NewPro}
use Rattle.new_volumes.proofs.Made.{all_made, all_refused, disk_blocks, enough, not_copied, not_empty}
use Rattle.new_volumes.proofs.Units.{blocks_stand, count_of}
use Rattle.new_volumes.proofs.making.new_blocks.Goals as goal

pub returns-in_err-bytes-clause-refused : goal.returns-in_err-bytes-clause-refused
returns-in_err-bytes-clause-refused c =
    let stands = c.has_blocks.ensures.0 c.if-not-has_blocks.false in
    let good = c.takes_boot.ensures.0 c.if-not-takes_boot.false in
    let given = err_from_is_err_and c.from_residual.result c.from_residual.ensures.1 in
    rw given.1
    (subst (RefusesNew (NewPro c.args.blocks c.args.name.now c.args.date.0) c.args.order _) (sym given.2)
    (not_copied (NewPro c.args.blocks c.args.name.now c.args.date.0) c.args.order _ stands good _ c.in_err-bytes.ensures.refused))

pub empty_blocks-requires-clause-blocks : goal.empty_blocks-requires-clause-blocks
empty_blocks-requires-clause-blocks c = enough c.args.order c.args.blocks (c.has_blocks.ensures.0 c.if-not-has_blocks.false)

pub returns-in_err-image-clause-refused : goal.returns-in_err-image-clause-refused
returns-in_err-image-clause-refused c =
    let stands = c.has_blocks.ensures.0 c.if-not-has_blocks.false in
    let good = c.takes_boot.ensures.0 c.if-not-takes_boot.false in
    let given = err_from_is_err_and c.from_residual-in_err-image.result c.from_residual-in_err-image.ensures.1 in
    rw given.1
    (subst (RefusesNew (NewPro c.args.blocks c.args.name.now c.args.date.0) c.args.order _) (sym given.2)
    (not_empty (NewPro c.args.blocks c.args.name.now c.args.date.0) c.args.order _ stands good _ c.in_ok-bytes.bytes.items c.in_ok-bytes.ensures.made
    c.in_err-image.ensures.refused))

pub in_order-requires-clause-disk : goal.in_order-requires-clause-disk
in_order-requires-clause-disk c = λ other.
    let stands = c.has_blocks.ensures.0 c.if-not-has_blocks.false in
    let is = c.in_ok-image.ensures.image in
    count_of c.in_ok-bytes.bytes.items c.args.blocks c.in_ok-image.image is c.in_ok-bytes.ensures.made.long
    ∙ disk_blocks c.args.order c.args.blocks stands (λ prodos. other (prodos ∙ sym is.in_order))

pub returns-clause-made : goal.returns-clause-made
returns-clause-made c =
    let stands = c.has_blocks.ensures.0 c.if-not-has_blocks.false in
    let good = c.takes_boot.ensures.0 c.if-not-takes_boot.false in
    let told = c.in_ok-image.ensures in
    let plain = c.in_ok-bytes.ensures.made in
    all_made (NewPro c.args.blocks c.args.name.now c.args.date.0) c.args.order _ stands good c.args.volume c.in_ok-bytes.bytes.items c.in_ok-image.image _ c.in_order.result
    plain (λ never. absurd (cc)) (blocks_stand c.in_ok-bytes.bytes.items c.args.blocks c.in_ok-image.image told.image plain.long) told.empty c.in_order.ensures.made

pub returns-clause-refused : goal.returns-clause-refused
returns-clause-refused c =
    let stands = c.has_blocks.ensures.0 c.if-not-has_blocks.false in
    let good = c.takes_boot.ensures.0 c.if-not-takes_boot.false in
    all_refused (NewPro c.args.blocks c.args.name.now c.args.date.0) c.args.order _ stands good c.in_order.result c.in_order.ensures.refused
