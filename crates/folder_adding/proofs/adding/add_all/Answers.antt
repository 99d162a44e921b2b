use Rattle.std.proofs.Common.{arith}
use Rattle.std.proofs.lemmas.List.{length-map}
use Rattle.folder_adding.specs.Items.{batch_view, item_view}
use Rattle.folder_adding.proofs.Steps.{accepted_on, all_alike, all_quiet, all_stored, counted_at, none_added, stopped_at, went_on}
use Rattle.folder_adding.proofs.adding.add_all.Goals as goal

pub returns-in-Err-clause-refused : goal.returns-in-Err-clause-refused
returns-in-Err-clause-refused g c =
    stopped_at g.H.HostFiles.may_fail (batch_view c.args.batch.now) (g.H.HostFiles.holds c.args.files.now) (g.H.HostFiles.holds c.loop-number.files) (g.F.SavableFormat.saves c.args.format.now)
    (g.F.Format.meaning c.args.format.now) c.loop-number.number (g.D.Device.state c.args.device.now) (g.D.Device.state c.loop-number.device) c.loop-number.invariant.0
    (omega (arith, length-map c.args.batch.now.items.now item_view)) (g.D.Device.state c.add_item.new.device) c.in-Err.told.file c.in-Err.told.reply c.in-Err.ensures.refused

pub returns-in-Err-clause-counted : goal.returns-in-Err-clause-counted
returns-in-Err-clause-counted g c =
    counted_at g.H.HostFiles.may_fail (batch_view c.args.batch.now) (g.H.HostFiles.holds c.args.files.now) (g.H.HostFiles.holds c.loop-number.files) (g.F.SavableFormat.saves c.args.format.now)
    (g.F.Format.meaning c.args.format.now) c.loop-number.number (g.D.Device.state c.args.device.now) (g.D.Device.state c.loop-number.device) c.loop-number.invariant.0
    (omega (arith, length-map c.args.batch.now.items.now item_view)) (g.D.Device.state c.add_item.new.device) c.in-Err.told.file c.in-Err.told.reply c.in-Err.ensures.refused

pub loop-number-init : goal.loop-number-init
loop-number-init g c = (
  none_added (batch_view c.args.batch.now) (g.H.HostFiles.holds c.args.files.now) (g.F.SavableFormat.saves c.args.format.now) (g.F.Format.meaning c.args.format.now)
      (g.D.Device.state c.args.device.now),
  c.requires.accepted,
)

pub loop-number-preserved : goal.loop-number-preserved
loop-number-preserved g c = (
  went_on g.H.HostFiles.may_fail (batch_view c.args.batch.now) (g.H.HostFiles.holds c.args.files.now) (g.H.HostFiles.holds c.loop-number.files) (g.F.SavableFormat.saves c.args.format.now)
      (g.F.Format.meaning c.args.format.now) c.loop-number.number (g.D.Device.state c.args.device.now) (g.D.Device.state c.loop-number.device) c.loop-number.invariant.0
      (omega (arith, length-map c.args.batch.now.items.now item_view)) (g.D.Device.state c.add_item.new.device) (g.H.HostFiles.holds c.add_item.new.files)
      c.add_item.ensures.files c.add_item.ensures.same c.in_default.ensures.added,
  λ known honest.
      accepted_on g.H.HostFiles.may_fail (batch_view c.args.batch.now) (g.H.HostFiles.holds c.args.files.now) (g.H.HostFiles.holds c.loop-number.files) (g.F.SavableFormat.saves c.args.format.now)
      (g.F.Format.meaning c.args.format.now) c.loop-number.number (g.D.Device.state c.args.device.now) (g.D.Device.state c.loop-number.device) c.loop-number.invariant.0
      (omega (arith, length-map c.args.batch.now.items.now item_view)) (g.D.Device.state c.add_item.new.device) c.in_default.ensures.added honest,
)

pub returns-clause-quiet : goal.returns-clause-quiet
returns-clause-quiet g c =
    all_quiet g.H.HostFiles.may_fail (batch_view c.args.batch.now) (g.H.HostFiles.holds c.args.files.now) (g.H.HostFiles.holds c.loop-number.files) (g.F.SavableFormat.saves c.args.format.now)
    (g.F.Format.meaning c.args.format.now) c.loop-number.number (g.D.Device.state c.args.device.now) (g.D.Device.state c.loop-number.device) c.loop-number.invariant.0
    (omega (arith, length-map c.args.batch.now.items.now item_view))

pub returns-clause-added : goal.returns-clause-added
returns-clause-added g c =
    all_stored g.H.HostFiles.may_fail (batch_view c.args.batch.now) (g.H.HostFiles.holds c.args.files.now) (g.H.HostFiles.holds c.loop-number.files) (g.F.SavableFormat.saves c.args.format.now)
    (g.F.Format.meaning c.args.format.now) c.loop-number.number (g.D.Device.state c.args.device.now) (g.D.Device.state c.loop-number.device) c.loop-number.invariant.0
    (omega (arith, length-map c.args.batch.now.items.now item_view))

pub returns-clause-alike : goal.returns-clause-alike
returns-clause-alike g c =
    all_alike g.H.HostFiles.may_fail (batch_view c.args.batch.now) (g.H.HostFiles.holds c.args.files.now) (g.H.HostFiles.holds c.loop-number.files) (g.F.SavableFormat.saves c.args.format.now)
    (g.F.Format.meaning c.args.format.now) c.loop-number.number (g.D.Device.state c.args.device.now) (g.D.Device.state c.loop-number.device) c.loop-number.invariant.0
    (omega (arith, length-map c.args.batch.now.items.now item_view))
