use Rattle.std.proofs.Common.{inl, inr, subst}
use Rattle.vol_layout.specs.declared.form.PlaceForm.{PlaceForm}
use Rattle.shop_reads.specs.CompareReply.{IsCompared}
use Rattle.shop_reads.proofs.Compared.{compared_told, other_honest}
use Rattle.shop_reads.proofs.compare.compare_reply.Goals as goal

pub returns-in-Ok-compare_volumes-clause-told : goal.returns-in-Ok-compare_volumes-clause-told
returns-in-Ok-compare_volumes-clause-told g c = λ honest lack.
    let files = g.F.FileFormat.files c.args.format.now in
    let meaning = g.F.Format.meaning c.args.format.now in
    let old = g.D.Device.state c.args.device.now in
    let now = g.D.Device.state c.compare_volumes.new.first in
    subst (λ (form : PlaceForm). IsCompared c.args.options c.args.order c.args.other.items form files meaning old c.comparison_reply.result) c.form-form.ensures
    (compared_told c.args.options c.args.order c.args.other.items c.form-form.result files meaning old now _ _ c.comparison_reply.result _ c.file_system_of.ensures c.in-Ok.ensures.device honest lack
    (inl (
      c.in-Ok-compare_volumes.comparison,
      c.in-Ok-compare_volumes.ensures.compared honest (other_honest _ c.args.order c.args.other.items _ c.in-Ok.ensures.device),
      c.comparison_reply.ensures,
    )))

pub returns-clause-told : goal.returns-clause-told
returns-clause-told g c = λ honest lack.
    let files = g.F.FileFormat.files c.args.format.now in
    let meaning = g.F.Format.meaning c.args.format.now in
    let old = g.D.Device.state c.args.device.now in
    let now = g.D.Device.state c.compare_volumes.new.first in
    subst (λ (form : PlaceForm). IsCompared c.args.options c.args.order c.args.other.items form files meaning old c.error_reply.result) c.form-form.ensures
    (compared_told c.args.options c.args.order c.args.other.items c.form-form.result files meaning old now _ _ c.error_reply.result _ c.file_system_of.ensures c.in-Ok.ensures.device honest lack
    (inr (
      c.in-Err-compare_volumes.error,
      c.in-Err-compare_volumes.ensures.refused honest (other_honest _ c.args.order c.args.other.items _ c.in-Ok.ensures.device),
      c.error_reply.ensures,
    )))
