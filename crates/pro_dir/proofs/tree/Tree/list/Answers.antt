use Rattle.std.proofs.Common.{◌≡◌, ◌++◌, ◌∷◌, [], ◌+◌, ℕ, Bool, sym, ◌∙◌, ap, subst, Vec, false}
use Rattle.std.specs.Prelude.{All, IfErr, IfSome, IsTrue, None, OnOk, is_err}
use Rattle.a2_device.specs.Device.{DeviceState, OnlyReads}
use Rattle.a2_device.specs.Reading.{then_reads}
use Rattle.a2_device.proofs.Results.{at_ok, on_ok_both}
use Rattle.a2_device.specs.declared.fault.Fault.{Fault}
use Rattle.a2_device.specs.declared.fault.WalkError.TheVariants.{Fault as AFault}
use Rattle.pro_dir.specs.declared.entry.Entry.{Entry}
use Rattle.pro_dir.specs.declared.reading.FreeSlot.{FreeSlot}
use Rattle.pro_dir.specs.declared.waiting.Waiting.{Waiting}
use Rattle.pro_dir.specs.Tree.{IsCutOff}
use Rattle.pro_dir.specs.Walk.{FewListed, IsListing, IsStop, IsTable, all_waiting}
use Rattle.pro_dir.specs.Within.{IsInSlot, IsKeptWithin, IsWaitingWithin}
use Rattle.pro_dir.proofs.Within.{behind_within, few_work, less_work, listed_within, less_done, few_done}
use Rattle.pro_dir.proofs.Listing.{all_listed, listed_until, same_listing}
use Rattle.pro_dir.proofs.tree.Tree.list.Goals as goal

pub returns-in_default-clause-within : goal.returns-in_default-clause-within
returns-in_default-clause-within g c = λ first. c.in_ok-entry.ensures.within (g.D.Device.state c.args.device.now).places c.requires.waiting first

pub returns-in_default-clause-listed : goal.returns-in_default-clause-listed
returns-in_default-clause-listed g c = λ honest so.
    let store = (g.D.Device.state c.args.device.now).store in
    let old = c.args.self.now in
    let new = c.list_files.new.self in
    let files = c.in_ok-entry.ensures in
    let went : is_err c.read.result ≡ false = sym c.is_err.ensures.value ∙ c.if-is_err.false in
    let none : c.in_ok-entry.field-0 ≡ None = c.in_default.is in
    let done = all_listed store old.blocks.items old.entries.items new.entries.items old.pending.items old.free.items c.args.slots c.read.new.unit c.in_ok-entry.field-0
    (at_ok c.read.result went (c.read.ensures.read honest)) (files.listed store) so none in
    subst (λ (v : Vec ℕ _). IsListing store v.items new.entries.items (all_waiting store new.pending.items) new.free.items) (sym files.same.0)
    (subst (λ (v : Vec Waiting _). IsListing store old.blocks.items new.entries.items (all_waiting store v.items) new.free.items) (sym files.same.2)
    (subst (λ (v : Vec FreeSlot _). IsListing store old.blocks.items new.entries.items (all_waiting store old.pending.items) v.items) (sym files.same.3) done))

pub returns-clause-device : goal.returns-clause-device
returns-clause-device g c =
    let went : is_err c.read.result ≡ false = sym c.is_err.ensures.value ∙ c.if-is_err.false in
    let start = g.D.Device.state c.args.device.now in
    let mid = g.D.Device.state c.read.new.self in
    then_reads _ start mid (g.D.Device.state c.list_directory.new.device) (subst (λ failed. OnlyReads failed start mid) went c.read.ensures.device) c.list_directory.ensures.device

pub returns-clause-within : goal.returns-clause-within
returns-clause-within g c = λ all.
    let places = (g.D.Device.state c.args.device.now).places in
    let files = c.in_ok-entry.ensures in
    let waits = c.wait_behind.new.self in
    let new = c.list_directory.new.self in
    let entry = c.in-Some.entry in
    let inside = subst (λ found. IfSome found (IsInSlot places)) c.in-Some.is (files.inside places c.requires.waiting) in
    let before = subst (λ (v : Vec Entry _). All (IsInSlot places) v.items) (sym c.in_ok-wait_behind.ensures.same.2) (files.within places c.requires.waiting all) in
    on_ok_both c.list_directory.result c.list_directory.ensures.entries c.list_directory.ensures.entries
    (λ listed again. listed_within places waits.entries.items new.entries.items entry listed before inside)

pub returns-clause-waiting : goal.returns-clause-waiting
returns-clause-waiting g c = λ all.
    let start = g.D.Device.state c.args.device.now in
    let old = c.args.self.now in
    let waits = c.wait_behind.new.self in
    let entry = c.in-Some.entry in
    let same = c.read.ensures.device.same.places in
    let slots : Waiting = record c.args.slots { slot = entry.slot + 1 } in
    let waiting = c.in_ok-wait_behind.ensures.pending ∙ ap (λ (v : Vec Waiting _). v.items ++ slots ∷ []) c.in_ok-entry.ensures.same.2 in
    let stop = subst (λ found. IfSome found (IsStop c.args.slots c.read.new.unit)) c.in-Some.is c.in_ok-entry.ensures.stopped in
    let before = behind_within start.places old.pending.items waits.pending.items c.args.slots entry.slot stop.slot c.requires.waiting waiting all in
    subst (λ n. OnOk c.list_directory.result (All (IsWaitingWithin n) c.list_directory.new.self.pending.items)) same
    (c.list_directory.ensures.waiting (subst (λ n. All (IsWaitingWithin n) waits.pending.items) (sym same) before))

pub returns-clause-listed : goal.returns-clause-listed
returns-clause-listed g c = λ honest so.
    let start = g.D.Device.state c.args.device.now in
    let mid = g.D.Device.state c.read.new.self in
    let old = c.args.self.now in
    let longer = c.list_files.new.self in
    let waits = c.wait_behind.new.self in
    let files = c.in_ok-entry.ensures in
    let behind = c.in_ok-wait_behind.ensures in
    let entry = c.in-Some.entry in
    let went : is_err c.read.result ≡ false = sym c.is_err.ensures.value ∙ c.if-is_err.false in
    let same : mid ≡ start = c.read.ensures.device.kept honest went in
    let still : IsTrue mid.honest = subst IsTrue (sym c.read.ensures.device.same.honest) honest in
    let slots : Waiting = record c.args.slots { slot = entry.slot + 1 } in
    let waiting = behind.pending ∙ ap (λ (v : Vec Waiting _). v.items ++ slots ∷ []) files.same.2 in
    let until = listed_until start.store old.blocks.items old.entries.items longer.entries.items old.pending.items old.free.items c.args.slots c.read.new.unit c.in_ok-entry.field-0
    (at_ok c.read.result went (c.read.ensures.read honest)) (files.listed start.store) so entry waits.pending.items c.in-Some.is waiting in
    let next = same_listing start.store old.blocks.items waits.blocks.items longer.entries.items waits.entries.items (entry ∷ all_waiting start.store waits.pending.items)
    old.free.items waits.free.items (ap (λ (v : Vec ℕ _). v.items) (behind.same.0 ∙ files.same.0)) (ap (λ (v : Vec Entry _). v.items) behind.same.2)
    (ap (λ (v : Vec FreeSlot _). v.items) (behind.same.3 ∙ files.same.3)) until in
    let given = subst (λ (d : DeviceState). IsListing d.store waits.blocks.items waits.entries.items (entry ∷ all_waiting d.store waits.pending.items) waits.free.items) (sym same) next in
    let new = c.list_directory.new.self in
    subst (λ (d : DeviceState). OnOk c.list_directory.result (IsListing d.store new.blocks.items new.entries.items (all_waiting d.store new.pending.items) new.free.items)) same
    (c.list_directory.ensures.listed still given)

pub returns-clause-refused : goal.returns-clause-refused
returns-clause-refused g c = λ honest so.
    let start = g.D.Device.state c.args.device.now in
    let mid = g.D.Device.state c.read.new.self in
    let old = c.args.self.now in
    let longer = c.list_files.new.self in
    let waits = c.wait_behind.new.self in
    let files = c.in_ok-entry.ensures in
    let behind = c.in_ok-wait_behind.ensures in
    let entry = c.in-Some.entry in
    let went : is_err c.read.result ≡ false = sym c.is_err.ensures.value ∙ c.if-is_err.false in
    let same : mid ≡ start = c.read.ensures.device.kept honest went in
    let still : IsTrue mid.honest = subst IsTrue (sym c.read.ensures.device.same.honest) honest in
    let slots : Waiting = record c.args.slots { slot = entry.slot + 1 } in
    let waiting = behind.pending ∙ ap (λ (v : Vec Waiting _). v.items ++ slots ∷ []) files.same.2 in
    let until = listed_until start.store old.blocks.items old.entries.items longer.entries.items old.pending.items old.free.items c.args.slots c.read.new.unit c.in_ok-entry.field-0
    (at_ok c.read.result went (c.read.ensures.read honest)) (files.listed start.store) so entry waits.pending.items c.in-Some.is waiting in
    let next = same_listing start.store old.blocks.items waits.blocks.items longer.entries.items waits.entries.items (entry ∷ all_waiting start.store waits.pending.items)
    old.free.items waits.free.items (ap (λ (v : Vec ℕ _). v.items) (behind.same.0 ∙ files.same.0)) (ap (λ (v : Vec Entry _). v.items) behind.same.2)
    (ap (λ (v : Vec FreeSlot _). v.items) (behind.same.3 ∙ files.same.3)) until in
    let given = subst (λ (d : DeviceState). IsListing d.store waits.blocks.items waits.entries.items (entry ∷ all_waiting d.store waits.pending.items) waits.free.items) (sym same) next in
    subst (λ (d : DeviceState). IfErr c.list_directory.result (λ e. (fault : Fault) → e ≡ AFault fault → IsCutOff d.store fault)) same
    (c.list_directory.ensures.refused still given)

pub list_directory-requires-clause-size : goal.list_directory-requires-clause-size
list_directory-requires-clause-size g c = c.read.ensures.device.same.unit_size ∙ c.requires.size

pub list_directory-requires-clause-table : goal.list_directory-requires-clause-table
list_directory-requires-clause-table g c =
    let mid = g.D.Device.state c.read.new.self in
    let files = c.in_ok-entry.ensures in
    let behind = c.in_ok-wait_behind.ensures in
    subst (λ (v : Vec ℕ _). IsTable mid.places c.wait_behind.new.self.met.items v.items) (sym (behind.same.0 ∙ files.same.0))
    (subst (λ (v : Vec Bool _). IsTable mid.places v.items c.args.self.now.blocks.items) (sym (behind.same.1 ∙ files.same.1))
    (subst (λ n. IsTable n c.args.self.now.met.items c.args.self.now.blocks.items) (sym c.read.ensures.device.same.places) c.requires.table))

pub returns-clause-table : goal.returns-clause-table
returns-clause-table g c =
    let new = c.list_directory.new.self in
    subst (λ n. OnOk c.list_directory.result (IsTable n new.met.items new.blocks.items)) c.read.ensures.device.same.places c.list_directory.ensures.table

pub returns-clause-work : goal.returns-clause-work
returns-clause-work g c =
    let old = c.args.self.now in
    let waits = c.wait_behind.new.self in
    let new = c.list_directory.new.self in
    let entry = c.in-Some.entry in
    let files = c.in_ok-entry.ensures in
    let behind = c.in_ok-wait_behind.ensures in
    let slots : Waiting = record c.args.slots { slot = entry.slot + 1 } in
    let waiting = behind.pending ∙ ap (λ (v : Vec Waiting _). v.items ++ slots ∷ []) files.same.2 in
    let met = ap (λ (v : Vec Bool _). v.items) (behind.same.1 ∙ files.same.1) in
    let stop = subst (λ found. IfSome found (IsStop c.args.slots c.read.new.unit)) c.in-Some.is files.stopped in
    let told = c.list_directory.ensures.work in
    on_ok_both c.list_directory.result told told (λ fewer _. less_work old.met.items waits.met.items new.met.items old.pending.items waits.pending.items new.pending.items
    c.args.slots entry.slot stop.slot_from stop.slot met waiting fewer)

pub returns-clause-few : goal.returns-clause-few
returns-clause-few g c =
    let old = c.args.self.now in
    let longer = c.list_files.new.self in
    let waits = c.wait_behind.new.self in
    let new = c.list_directory.new.self in
    let entry = c.in-Some.entry in
    let files = c.in_ok-entry.ensures in
    let behind = c.in_ok-wait_behind.ensures in
    let slots : Waiting = record c.args.slots { slot = entry.slot + 1 } in
    let waiting = behind.pending ∙ ap (λ (v : Vec Waiting _). v.items ++ slots ∷ []) files.same.2 in
    let met = ap (λ (v : Vec Bool _). v.items) (behind.same.1 ∙ files.same.1) in
    let stop = subst (λ found. IfSome found (IsStop c.args.slots c.read.new.unit)) c.in-Some.is files.stopped in
    let few = subst (FewListed c.args.slots old.entries.items longer.entries.items) c.in-Some.is files.few in
    let kept = ap (λ (v : Vec Entry _). v.items ++ entry ∷ []) behind.same.2 in
    on_ok_both c.list_directory.result c.list_directory.ensures.work c.list_directory.ensures.entries
    (λ fewer listed. few_work old.met.items waits.met.items new.met.items old.pending.items waits.pending.items new.pending.items
    c.args.slots entry.slot old.entries.items longer.entries.items new.entries.items entry stop.slot_from stop.slot met waiting fewer few (listed ∙ kept))

pub returns-clause-kept : goal.returns-clause-kept
returns-clause-kept g c = λ all.
    let start = g.D.Device.state c.args.device.now in
    let mid = g.D.Device.state c.read.new.self in
    let new = c.list_directory.new.self in
    let same = c.read.ensures.device.same.places in
    let before = subst (λ n. All (IsKeptWithin n) c.args.self.now.free.items) (sym same) all in
    let given = subst (λ (v : Vec FreeSlot _). All (IsKeptWithin mid.places) v.items) (sym (c.in_ok-wait_behind.ensures.same.3 ∙ c.in_ok-entry.ensures.same.3)) before in
    subst (λ n. OnOk c.list_directory.result (All (IsKeptWithin n) new.free.items)) same (c.list_directory.ensures.kept given)

pub list_files-requires : goal.list_files-requires
list_files-requires g c = c.requires.waiting.slot

pub wait_behind-requires : goal.wait_behind-requires
wait_behind-requires g c = (subst (λ found. IfSome found (IsStop c.args.slots c.read.new.unit)) c.in-Some.is c.in_ok-entry.ensures.stopped).slot

pub list_directory-requires-clause-directory : goal.list_directory-requires-clause-directory
list_directory-requires-clause-directory g c =
    (subst (λ found. IfSome found (IsStop c.args.slots c.read.new.unit)) c.in-Some.is c.in_ok-entry.ensures.stopped).directory

pub returns-in_default-clause-device : goal.returns-in_default-clause-device
returns-in_default-clause-device g c =
    let went : is_err c.read.result ≡ false = sym c.is_err.ensures.value ∙ c.if-is_err.false in
    subst (λ failed. OnlyReads failed (g.D.Device.state c.args.device.now) (g.D.Device.state c.read.new.self)) went c.read.ensures.device

pub returns-in_default-clause-table : goal.returns-in_default-clause-table
returns-in_default-clause-table g c =
    let places = (g.D.Device.state c.args.device.now).places in
    let same = c.in_ok-entry.ensures.same in
    subst (λ (v : Vec ℕ _). IsTable places c.list_files.new.self.met.items v.items) (sym same.0)
    (subst (λ (v : Vec Bool _). IsTable places v.items c.args.self.now.blocks.items) (sym same.1) c.requires.table)

pub returns-in_default-clause-work : goal.returns-in_default-clause-work
returns-in_default-clause-work g c =
    let old = c.args.self.now in
    let new = c.list_files.new.self in
    let same = c.in_ok-entry.ensures.same in
    less_done old.met.items new.met.items old.pending.items new.pending.items c.args.slots c.requires.waiting.slot
    (ap (λ (v : Vec Bool _). v.items) same.1) (ap (λ (v : Vec Waiting _). v.items) same.2)

pub returns-in_default-clause-few : goal.returns-in_default-clause-few
returns-in_default-clause-few g c =
    let old = c.args.self.now in
    let new = c.list_files.new.self in
    let files = c.in_ok-entry.ensures in
    let none : c.in_ok-entry.field-0 ≡ None = c.in_default.is in
    few_done old.met.items new.met.items old.pending.items new.pending.items c.args.slots old.entries.items new.entries.items c.requires.waiting.slot
    (ap (λ (v : Vec Bool _). v.items) files.same.1) (ap (λ (v : Vec Waiting _). v.items) files.same.2)
    (subst (FewListed c.args.slots old.entries.items new.entries.items) none files.few)

pub returns-in_default-clause-waiting : goal.returns-in_default-clause-waiting
returns-in_default-clause-waiting g c = λ all.
    subst (λ (v : Vec Waiting _). All (IsWaitingWithin (g.D.Device.state c.args.device.now).places) v.items) (sym c.in_ok-entry.ensures.same.2) all

pub returns-in_default-clause-kept : goal.returns-in_default-clause-kept
returns-in_default-clause-kept g c = λ all.
    subst (λ (v : Vec FreeSlot _). All (IsKeptWithin (g.D.Device.state c.args.device.now).places) v.items) (sym c.in_ok-entry.ensures.same.3) all
