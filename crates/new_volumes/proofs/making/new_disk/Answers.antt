use Rattle.std.proofs.Common.{subst, sym}
use Rattle.std.proofs.lemmas.Result.{err_from_is_err_and}
use Rattle.new_volumes.specs.NewImage.{RefusesNew}
use Rattle.new_volumes.specs.Wanted.{NewDos}
use Rattle.new_volumes.proofs.Made.{all_made, all_refused, not_copied, not_empty}
use Rattle.new_volumes.proofs.Units.{sectors_stand}
use Rattle.new_volumes.proofs.making.new_disk.Goals as goal

pub returns-in_err-bytes-clause-refused : goal.returns-in_err-bytes-clause-refused
returns-in_err-bytes-clause-refused c =
    let good = c.takes_boot.ensures.0 c.if-not-takes_boot.false in
    let given = err_from_is_err_and c.from_residual.result c.from_residual.ensures.1 in
    rw given.1
    (subst (RefusesNew (NewDos c.args.number c.args.data_disk) c.args.order _) (sym given.2)
    (not_copied (NewDos c.args.number c.args.data_disk) c.args.order _ tt good _ c.in_err-bytes.ensures.refused))

pub returns-in_err-image-clause-refused : goal.returns-in_err-image-clause-refused
returns-in_err-image-clause-refused c =
    let good = c.takes_boot.ensures.0 c.if-not-takes_boot.false in
    let given = err_from_is_err_and c.from_residual-in_err-image.result c.from_residual-in_err-image.ensures.1 in
    rw given.1
    (subst (RefusesNew (NewDos c.args.number c.args.data_disk) c.args.order _) (sym given.2)
    (not_empty (NewDos c.args.number c.args.data_disk) c.args.order _ tt good _ c.in_ok-bytes.bytes.items c.in_ok-bytes.ensures.made c.in_err-image.ensures.refused))

pub returns-clause-made : goal.returns-clause-made
returns-clause-made c =
    let good = c.takes_boot.ensures.0 c.if-not-takes_boot.false in
    let told = c.in_ok-image.ensures in
    all_made (NewDos c.args.number c.args.data_disk) c.args.order _ tt good c.args.volume c.in_ok-bytes.bytes.items c.in_ok-image.image _ c.in_order.result
    c.in_ok-bytes.ensures.made (λ _. told.disk) (sectors_stand c.in_ok-bytes.bytes.items c.in_ok-image.image told.image) told.empty c.in_order.ensures.made

pub returns-clause-refused : goal.returns-clause-refused
returns-clause-refused c =
    let good = c.takes_boot.ensures.0 c.if-not-takes_boot.false in
    all_refused (NewDos c.args.number c.args.data_disk) c.args.order _ tt good c.in_order.result c.in_order.ensures.refused
