use Rattle.std.proofs.Common.{arith, false, refl, sym, subst}
use Rattle.std.specs.Prelude.{IsTrue}
use Rattle.std.proofs.lemmas.Grind.{common_steps}
use Rattle.a2_device.specs.Device.{OnlyReads}
use Rattle.a2_device.specs.Reading.{then_reads}
use Rattle.a2_device.specs.Stop.{is_device_stop, same_stop}
use Rattle.file_cmds.proofs.Texts.{part_fails, part_read}
use Rattle.file_cmds.proofs.text.text_of.Goals as goal

pub returns-in_err-next-clause-device : goal.returns-in_err-next-clause-device
returns-in_err-next-clause-device g c =
    let start = g.D.Device.state c.args.device.now in
    let mid = g.D.Device.state c.loop-part.device in
    let new = g.D.Device.state c.add_part.new.device in
    let last = same_stop c.from_residual-in_err-next.result c.in_err-next.field-0.0 c.from_residual-in_err-next.ensures.1 in
    then_reads (is_device_stop c.from_residual-in_err-next.result) start mid new c.loop-part.invariant.device
    (subst (λ failed. OnlyReads failed mid new) (sym last) c.in_err-next.ensures.device)

pub loop-part-preserved : goal.loop-part-preserved
loop-part-preserved g c =
    let start = g.D.Device.state c.args.device.now in
    let mid = g.D.Device.state c.loop-part.device in
    let new = g.D.Device.state c.add_part.new.device in
    let so_far = c.loop-part.invariant in
    record {
      device = then_reads false start mid new so_far.device c.in_ok-next.ensures.device;
      zeros = so_far.zeros;
      unit = grind (arith, common_steps);
      text = λ honest.
          part_read start mid c.args.parts.now c.loop-part.part-index _ c.loop-part.next c.in_ok-next.next c.loop-part.text.items c.add_part.new.text.items
          (so_far.device.kept honest refl) c.loop-part-test.true (so_far.text honest) c.in_ok-next.ensures.next
          (c.in_ok-next.ensures.text (subst IsTrue (sym so_far.device.same.honest) honest));
    }

pub returns-in_err-next-clause-failed : goal.returns-in_err-next-clause-failed
returns-in_err-next-clause-failed g c = λ honest failed.
    let start = g.D.Device.state c.args.device.now in
    let mid = g.D.Device.state c.loop-part.device in
    let so_far = c.loop-part.invariant in
    let last = same_stop c.from_residual-in_err-next.result c.in_err-next.field-0.0 c.from_residual-in_err-next.ensures.1 in
    part_fails start mid (g.D.Device.state c.add_part.new.device) c.args.parts.now c.loop-part.part-index _
    (so_far.device.kept honest refl) c.loop-part-test.true
    (c.in_err-next.ensures.failed (subst IsTrue (sym so_far.device.same.honest) honest) (subst IsTrue last failed))
