use Rattle.std.proofs.Common.{◌≡◌, ◌++◌, refl, sym, subst, arith, false}
use Rattle.std.specs.Prelude.{All, IsTrue}
use Rattle.std.proofs.lemmas.Result.{err_from_is_err_and}
use Rattle.a2_device.specs.Device.{DeviceState}
use Rattle.a2_device.specs.Reading.{then_reads}
use Rattle.a2_device.specs.declared.fault.Fault.{Fault}
use Rattle.a2_device.specs.declared.fault.WalkError.TheVariants.{Fault as AFault}
use Rattle.pro_dir.specs.Tree.{IsCutOff}
use Rattle.pro_dir.specs.Walk.{IsTable, IsListing, all_waiting, waiting_in}
use Rattle.pro_dir.specs.Within.{IsInSlot, IsKeptWithin, IsWaitingWithin}
use Rattle.pro_dir.proofs.Within.{last_within, taken_up}
use Rattle.pro_dir.proofs.Listing.{next_listed}
use Rattle.pro_dir.proofs.Following.{refused_so}
use Rattle.pro_dir.proofs.tree.Tree.list_all.Goals as goal

pub list-requires-clause-waiting : goal.list-requires-clause-waiting
list-requires-clause-waiting g c =
    let start = g.D.Device.state c.args.device.now in
    let now = c.loop-slots.self in
    let before = c.loop-slots.invariant in
    let split = last_within start.places now.pending.items c.pop.new.self.items c.in-Some.slots c.in-Some.ensures.items before.waiting in
    subst (λ n. IsWaitingWithin n c.in-Some.slots) (sym before.device.same.places) split.1

pub loop-slots-preserved : goal.loop-slots-preserved
loop-slots-preserved g c =
    let start = g.D.Device.state c.args.device.now in
    let mid = g.D.Device.state c.loop-slots.device in
    let now = c.loop-slots.self in
    let before = c.loop-slots.invariant in
    let next = c.in_ok-list.ensures in
    let same_places = before.device.same.places in
    let split = last_within start.places now.pending.items c.pop.new.self.items c.in-Some.slots c.in-Some.ensures.items before.waiting in
    record {
      device = then_reads false start mid (g.D.Device.state c.list.new.device) before.device next.device;
      table = subst (λ n. IsTable n c.list.new.self.met.items c.list.new.self.blocks.items) same_places next.table;
      waiting = subst (λ n. All (IsWaitingWithin n) c.list.new.self.pending.items) same_places
          (next.waiting (subst (λ n. All (IsWaitingWithin n) c.pop.new.self.items) (sym same_places) split.0));
      within = λ first. subst (λ n. All (IsInSlot n) c.list.new.self.entries.items) same_places
          (next.within (subst (λ n. All (IsInSlot n) now.entries.items) (sym same_places) (before.within first)));
      kept = λ first. subst (λ n. All (IsKeptWithin n) c.list.new.self.free.items) same_places
          (next.kept (subst (λ n. All (IsKeptWithin n) now.free.items) (sym same_places) (before.kept first)));
      few = omega (arith, before.few, next.few, taken_up now.pending.items c.pop.new.self.items c.in-Some.slots c.in-Some.ensures.items);
      listed = λ honest first.
          let still : IsTrue mid.honest = subst IsTrue (sym before.device.same.honest) honest in
          let same : mid ≡ start = before.device.kept honest refl in
          let so = next_listed start.store now.blocks.items now.entries.items now.pending.items c.pop.new.self.items c.in-Some.slots now.free.items (before.listed honest first) c.in-Some.ensures.items in
          subst (λ (d : DeviceState). IsListing d.store c.list.new.self.blocks.items c.list.new.self.entries.items (all_waiting d.store c.list.new.self.pending.items) c.list.new.self.free.items) same
          (next.listed still (subst (λ (d : DeviceState). IsListing d.store now.blocks.items now.entries.items (waiting_in d.store c.in-Some.slots ++ all_waiting d.store c.pop.new.self.items) now.free.items) (sym same) so));
    }

pub returns-in_err-list-clause-refused : goal.returns-in_err-list-clause-refused
returns-in_err-list-clause-refused g c = λ honest first.
    let start = g.D.Device.state c.args.device.now in
    let mid = g.D.Device.state c.loop-slots.device in
    let now = c.loop-slots.self in
    let before = c.loop-slots.invariant in
    let still : IsTrue mid.honest = subst IsTrue (sym before.device.same.honest) honest in
    let same : mid ≡ start = before.device.kept honest refl in
    let so = next_listed start.store now.blocks.items now.entries.items now.pending.items c.pop.new.self.items c.in-Some.slots now.free.items (before.listed honest first) c.in-Some.ensures.items in
    let told = c.in_err-list.ensures.refused still
    (subst (λ (d : DeviceState). IsListing d.store now.blocks.items now.entries.items (waiting_in d.store c.in-Some.slots ++ all_waiting d.store c.pop.new.self.items) now.free.items) (sym same) so) in
    refused_so c.from_residual.result c.in_err-list.field-0.0 (λ e. (fault : Fault) → e ≡ AFault fault → IsCutOff start.store fault) c.from_residual.ensures.1
    (λ fault is. subst (λ (d : DeviceState). IsCutOff d.store fault) same (told fault is))

pub returns-in_err-list-clause-device : goal.returns-in_err-list-clause-device
returns-in_err-list-clause-device g c =
    let given = err_from_is_err_and c.from_residual.result c.from_residual.ensures.1 in
    rw (given.1, given.2) (then_reads _ (g.D.Device.state c.args.device.now) (g.D.Device.state c.loop-slots.device) (g.D.Device.state c.list.new.device) c.loop-slots.invariant.device c.in_err-list.ensures.device)
