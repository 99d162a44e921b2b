use Rattle.std.proofs.Common.{◌≡◌, ◌≤◌, ◌+◌, ◌*◌, ℕ, false, [], length, refl, sym, ◌∙◌, subst, arith}
use Rattle.std.specs.Prelude.{All, IsTrue}
use Rattle.std.proofs.lemmas.Result.{err_from_is_err_and}
use Rattle.a2_device.specs.Device.{DeviceState}
use Rattle.a2_device.specs.Reading.{then_reads}
use Rattle.pro_dir.specs.Walk.{IsListing, IsTable, all_waiting, work}
use Rattle.pro_dir.specs.Within.{IsInSlot, IsKeptWithin, IsWaitingWithin}
use Rattle.pro_dir.proofs.tree.Tree.walk.Goals as goal

pub returns-in_err-list_all-clause-device : goal.returns-in_err-list_all-clause-device
returns-in_err-list_all-clause-device g c =
    let given = err_from_is_err_and c.from_residual-in_err-list_all.result c.from_residual-in_err-list_all.ensures.1 in
    rw (given.1, given.2) (then_reads _ (g.D.Device.state c.args.device.now) (g.D.Device.state c.open_volume.new.device) (g.D.Device.state c.list_all.new.device) c.in_ok-tree.ensures.device c.in_err-list_all.ensures.device)

pub list_all-requires-clause-size : goal.list_all-requires-clause-size
list_all-requires-clause-size g c = c.in_ok-tree.ensures.device.same.unit_size ∙ c.requires.size

pub list_all-requires-clause-table : goal.list_all-requires-clause-table
list_all-requires-clause-table g c =
    let told = c.in_ok-tree.ensures in
    subst (λ n. IsTable n c.in_ok-tree.tree.met.items c.in_ok-tree.tree.blocks.items) (sym told.device.same.places) told.table

pub list_all-requires-clause-waiting : goal.list_all-requires-clause-waiting
list_all-requires-clause-waiting g c =
    let told = c.in_ok-tree.ensures in
    subst (λ n. All (IsWaitingWithin n) c.in_ok-tree.tree.pending.items) (sym told.device.same.places) told.waiting

pub returns-clause-device : goal.returns-clause-device
returns-clause-device g c =
    then_reads false (g.D.Device.state c.args.device.now) (g.D.Device.state c.open_volume.new.device) (g.D.Device.state c.list_all.new.device)
    c.in_ok-tree.ensures.device c.in_ok-list_all.ensures.device

pub returns-clause-table : goal.returns-clause-table
returns-clause-table g c =
    let new = c.list_all.new.self in
    subst (λ n. IsTable n new.met.items new.blocks.items) c.in_ok-tree.ensures.device.same.places c.in_ok-list_all.ensures.table

pub returns-clause-within : goal.returns-clause-within
returns-clause-within g c =
    let same = c.in_ok-tree.ensures.device.same.places in
    subst (λ n. All (IsInSlot n) c.list_all.new.self.entries.items) same
    (c.in_ok-list_all.ensures.within (subst (λ n. All (IsInSlot n) c.in_ok-tree.tree.entries.items) (sym same) c.in_ok-tree.ensures.within))

pub returns-clause-kept : goal.returns-clause-kept
returns-clause-kept g c =
    let same = c.in_ok-tree.ensures.device.same.places in
    subst (λ n. All (IsKeptWithin n) c.list_all.new.self.free.items) same
    (c.in_ok-list_all.ensures.kept (subst (λ n. All (IsKeptWithin n) c.in_ok-tree.tree.free.items) (sym same) c.in_ok-tree.ensures.kept))

not_more : (listed begun left most : ℕ) → listed ≤ begun + left → begun + left ≤ most → listed ≤ most
not_more listed begun left most few within = omega arith

pub returns-clause-few : goal.returns-clause-few
returns-clause-few g c =
    let tree = c.in_ok-tree.tree in
    not_more (length c.list_all.new.self.entries.items) (length tree.entries.items) (work tree.met.items tree.pending.items) (14 * (g.D.Device.state c.args.device.now).places)
    c.in_ok-list_all.ensures.few c.in_ok-tree.ensures.few

pub returns-clause-listed : goal.returns-clause-listed
returns-clause-listed g c = λ honest key.
    let start = g.D.Device.state c.args.device.now in
    let mid = g.D.Device.state c.open_volume.new.device in
    let tree = c.in_ok-tree.tree in
    let new = c.list_all.new.self in
    let only = c.in_ok-tree.ensures.device in
    let same : mid ≡ start = only.kept honest refl in
    let still : IsTrue mid.honest = subst IsTrue (sym only.same.honest) honest in
    let begun = subst (λ (d : DeviceState). IsListing d.store tree.blocks.items tree.entries.items (all_waiting d.store tree.pending.items) tree.free.items) (sym same)
    (c.in_ok-tree.ensures.listed honest key) in
    subst (λ (d : DeviceState). IsListing d.store new.blocks.items new.entries.items [] new.free.items) same (c.in_ok-list_all.ensures.listed still begun)
