use Rattle.std.proofs.Common.{◌≡◌, ◌++◌, ◌+◌, ◌*◌, ◌≤◌, Bool, List, [], ℕ, sym, ◌∙◌, ap, subst, arith, Vec, length, replicate, false, ◌<◌}
use Rattle.std.specs.Prelude.{All, IfSome, map, reverse}
use Rattle.std.proofs.lemmas.List.{length-replicate}
use Rattle.std.proofs.lemmas.List.Elements.{All-nil}
use Rattle.a2_device.specs.Device.{unit_at}
use Rattle.a2_device.specs.declared.fault.Fault.{Fault}
use Rattle.a2_device.specs.declared.fault.Fault.TheVariants.{DirLink}
use Rattle.a2_device.specs.declared.fault.WalkError.TheVariants.{Fault as AFault}
use Rattle.pro_dir.specs.declared.entry.Entry.{Entry}
use Rattle.pro_dir.specs.declared.reading.FreeSlot.{FreeSlot}
use Rattle.pro_dir.specs.Tree.{HasBadLink, HasKind, HasSizes}
use Rattle.pro_dir.specs.declared.waiting.Waiting.{Waiting}
use Rattle.pro_dir.specs.Walk.{IsReadOut, kept_slots, whole_block, work, IsTable}
use Rattle.pro_dir.specs.Within.{IsFreeWithin, IsInSlot, IsKeptWithin, IsReadWithin, IsWaitingWithin}
use Rattle.pro_dir.proofs.Within.{blocks_within, first_work, kept_within, none_read}
use Rattle.pro_dir.proofs.Table.{and_more, one_more, tabled_none, tabled_on, unmet_none}
use Rattle.pro_dir.proofs.Following.{volume_opened, refused_so}
use Rattle.pro_dir.proofs.Listing.{volume_listed}
use Rattle.std.proofs.lemmas.Result.{err_from_is_err_and}
use Rattle.pro_dir.proofs.tree.Tree.open_volume.Goals as goal

pub follow-requires-clause-table : goal.follow-requires-clause-table
follow-requires-clause-table g c =
    let start = g.D.Device.state c.args.device.now in
    let tree = c.in_ok-tree.tree in
    let lists = c.in_ok-tree.ensures.lists in
    let take = c.in_ok-take.ensures in
    let met = subst (λ n. tree.met.items ≡ replicate n false) c.places.ensures c.in_ok-tree.ensures.met in
    tabled_on start.places tree.met.items c.take.new.self.met.items tree.blocks.items c.take.new.self.blocks.items 2 (omega arith) c.requires.places (unmet_none start.places tree.met.items 2 met)
    (tabled_none start.places tree.met.items tree.blocks.items met lists.0) take.met take.blocks

pub returns-in_err-follow-clause-refused : goal.returns-in_err-follow-clause-refused
returns-in_err-follow-clause-refused g c = λ honest key.
    let store = (g.D.Device.state c.args.device.now).store in
    let whole = g.met.D.Device.whole c.args.device.now honest in
    let first = volume_opened store c.new-reading.result.key c.take.new.reading.key c.in_ok-tree.tree.blocks.items c.take.new.self.blocks.items c.new-reading.result.free c.take.new.reading.free c.args.unit.now key (omega (arith, c.requires.places, whole.all)) c.new-reading.ensures.key
    c.in_ok-take.ensures.key c.new-reading.ensures.free c.in_ok-tree.ensures.lists.0 c.in_ok-take.ensures.blocks c.in_ok-take.ensures.first in
    let named : c.take.new.reading.key ≡ 2 = c.in_ok-take.ensures.key ∙ c.new-reading.ensures.key in
    refused_so c.from_residual-in_err-follow.result c.in_err-follow.field-0.0 (λ e. (fault : Fault) → e ≡ AFault fault → (holder : ℕ) × (fault ≡ DirLink holder) × HasBadLink store [] 2 holder)
    c.from_residual-in_err-follow.ensures.1
    (λ fault is. let bad = c.in_err-follow.ensures.refused honest [] first fault is in (bad.0, bad.1, subst (λ k. HasBadLink store [] k bad.0) named bad.2))

pub returns-clause-listed : goal.returns-clause-listed
returns-clause-listed g c = λ honest key.
    let store = (g.D.Device.state c.args.device.now).store in
    let whole = g.met.D.Device.whole c.args.device.now honest in
    let tree = c.in_ok-tree.tree in
    let lists = c.in_ok-tree.ensures.lists in
    let take = c.in_ok-take.ensures in
    let follow = c.in_ok-follow.ensures in
    let wait = c.in_ok-wait.ensures in
    let new = c.wait.new.self in
    let reading = c.follow.new.reading in
    let first = volume_opened store c.new-reading.result.key c.take.new.reading.key c.in_ok-tree.tree.blocks.items c.take.new.self.blocks.items c.new-reading.result.free c.take.new.reading.free c.args.unit.now key (omega (arith, c.requires.places, whole.all)) c.new-reading.ensures.key
    c.in_ok-take.ensures.key c.new-reading.ensures.free c.in_ok-tree.ensures.lists.0 c.in_ok-take.ensures.blocks c.in_ok-take.ensures.first in
    let named : c.take.new.reading.key ≡ 2 = take.key ∙ c.new-reading.ensures.key in
    let there : (P : List ℕ → Type 0) → P c.args.unit.now → P (unit_at store 2) = λ P p. subst P key.here p in
    let blocks : new.blocks.items ≡ c.follow.new.self.blocks.items = ap (λ (v : Vec ℕ _). v.items) wait.same.0 in
    let out = subst (λ bs. IsReadOut store 2 [] bs reading.free) (sym blocks)
    (subst (λ k. IsReadOut store k [] c.follow.new.self.blocks.items reading.free) named (follow.found honest [] first)) in
    let entries : new.entries.items ≡ [] =
    ap (λ (v : Vec Entry _). v.items) wait.same.2 ∙ ap (λ (v : Vec Entry _). v.items) follow.same.0 ∙ ap (λ (v : Vec Entry _). v.items) take.same.0 ∙ lists.1 in
    let pending : c.follow.new.self.pending.items ≡ [] = ap (λ (v : Vec Waiting _). v.items) follow.same.1 ∙ ap (λ (v : Vec Waiting _). v.items) take.same.1 ∙ lists.2 in
    let free : c.follow.new.self.free.items ≡ [] = ap (λ (v : Vec FreeSlot _). v.items) follow.same.2 ∙ ap (λ (v : Vec FreeSlot _). v.items) take.same.2 ∙ lists.3 in
    let kept : new.free.items ≡ c.follow.new.self.free.items ++ kept_slots 2 reading.free =
    wait.free ∙ ap (λ (k : ℕ). c.follow.new.self.free.items ++ kept_slots k reading.free) (follow.key ∙ named) in
    let pending_is : new.pending.items ≡ c.follow.new.self.pending.items ++ reverse (map (whole_block 2) new.blocks.items) =
    wait.pending ∙ ap (λ (k : ℕ). c.follow.new.self.pending.items ++ reverse (map (whole_block k) c.follow.new.self.blocks.items)) (follow.key ∙ named)
    ∙ ap (λ (bs : List ℕ). c.follow.new.self.pending.items ++ reverse (map (whole_block 2) bs)) (sym blocks) in
    volume_listed store new.blocks.items new.entries.items c.follow.new.self.pending.items new.pending.items c.follow.new.self.free.items new.free.items reading.free
    (there (HasKind 15) key.kind_is) (there HasSizes key.sizes) out entries pending free pending_is kept

pub returns-clause-within : goal.returns-clause-within
returns-clause-within g c =
    let places = (g.D.Device.state c.args.device.now).places in
    let entries : c.wait.new.self.entries.items ≡ [] =
    ap (λ (v : Vec Entry _). v.items) c.in_ok-wait.ensures.same.2 ∙ ap (λ (v : Vec Entry _). v.items) c.in_ok-follow.ensures.same.0
    ∙ ap (λ (v : Vec Entry _). v.items) c.in_ok-take.ensures.same.0 ∙ c.in_ok-tree.ensures.lists.1 in
    subst (All (IsInSlot places)) (sym entries) (All-nil (IsInSlot places))

pub returns-clause-waiting : goal.returns-clause-waiting
returns-clause-waiting g c =
    let places = (g.D.Device.state c.args.device.now).places in
    let read = c.follow.new.self in
    let take = c.in_ok-take.ensures in
    let follow = c.in_ok-follow.ensures in
    let pending : read.pending.items ≡ [] = ap (λ (v : Vec Waiting _). v.items) follow.same.1 ∙ ap (λ (v : Vec Waiting _). v.items) take.same.1 ∙ c.in_ok-tree.ensures.lists.2 in
    let key : c.follow.new.reading.key ≡ 2 = follow.key ∙ take.key ∙ c.new-reading.ensures.key in
    blocks_within places read.met.items read.blocks.items c.follow.new.reading.key 0 read.pending.items c.wait.new.self.pending.items follow.table
    (omega (arith, c.requires.places, key)) c.in_ok-wait.ensures.pending (subst (All (IsWaitingWithin places)) (sym pending) (All-nil (IsWaitingWithin places)))

pub returns-clause-few : goal.returns-clause-few
returns-clause-few g c =
    let places = (g.D.Device.state c.args.device.now).places in
    let tree = c.in_ok-tree.tree in
    let taken = c.take.new.self in
    let read = c.follow.new.self in
    let new = c.wait.new.self in
    let lists = c.in_ok-tree.ensures.lists in
    let take = c.in_ok-take.ensures in
    let follow = c.in_ok-follow.ensures in
    let wait = c.in_ok-wait.ensures in
    let met = subst (λ n. tree.met.items ≡ replicate n false) c.places.ensures c.in_ok-tree.ensures.met in
    let size : length tree.met.items ≡ places = ap length met ∙ length-replicate places false in
    let entries : new.entries.items ≡ [] =
    ap (λ (v : Vec Entry _). v.items) wait.same.2 ∙ ap (λ (v : Vec Entry _). v.items) follow.same.0 ∙ ap (λ (v : Vec Entry _). v.items) take.same.0 ∙ lists.1 in
    let pending : read.pending.items ≡ [] = ap (λ (v : Vec Waiting _). v.items) follow.same.1 ∙ ap (λ (v : Vec Waiting _). v.items) take.same.1 ∙ lists.2 in
    let more = and_more tree.met.items taken.met.items read.met.items tree.blocks.items taken.blocks.items read.blocks.items
    (one_more places tree.met.items taken.met.items tree.blocks.items taken.blocks.items 2 size c.requires.places (unmet_none places tree.met.items 2 met) take.met take.blocks) follow.more in
    subst (λ ms. length new.entries.items + work ms new.pending.items ≤ 14 * places) (sym (ap (λ (v : Vec Bool _). v.items) wait.same.1))
    (first_work places tree.met.items read.met.items tree.blocks.items read.blocks.items read.pending.items new.pending.items new.entries.items c.follow.new.reading.key
    met lists.0 more pending wait.pending entries)

pub returns-clause-kept : goal.returns-clause-kept
returns-clause-kept g c =
    let places = (g.D.Device.state c.args.device.now).places in
    let reading = c.follow.new.reading in
    let lists = c.in_ok-tree.ensures.lists in
    let take = c.in_ok-take.ensures in
    let follow = c.in_ok-follow.ensures in
    let free : c.follow.new.self.free.items ≡ [] = ap (λ (v : Vec FreeSlot _). v.items) follow.same.2 ∙ ap (λ (v : Vec FreeSlot _). v.items) take.same.2 ∙ lists.3 in
    let fresh = c.new-reading.ensures in
    let none_yet = none_read places c.new-reading.result.key c.new-reading.result.free (omega (arith, c.requires.places, fresh.key)) fresh.free in
    let first = subst (λ key. IsReadWithin places key c.take.new.reading.free) (sym take.key) (take.within places c.requires.places none_yet) in
    let slot = subst (λ key. IfSome reading.free (IsFreeWithin places key)) (sym follow.key) (follow.within first).free in
    kept_within places reading.key c.follow.new.self.free.items c.wait.new.self.free.items reading.free c.in_ok-wait.ensures.free slot
    (subst (All (IsKeptWithin places)) (sym free) (All-nil (IsKeptWithin places)))

marks_fit : (places told : ℕ) (met : List Bool) → met ≡ replicate told false → told ≡ places → 2 < places → 2 < length met
marks_fit places told met is all many = omega (arith, ap length is, length-replicate {A = Bool})

pub take-requires : goal.take-requires
take-requires g c =
    marks_fit (g.D.Device.state c.args.device.now).places c.places.result c.in_ok-tree.tree.met.items c.in_ok-tree.ensures.met c.places.ensures c.requires.places

pub follow-requires-clause-size : goal.follow-requires-clause-size
follow-requires-clause-size g c = c.requires.size

pub returns-in_err-follow-clause-device : goal.returns-in_err-follow-clause-device
returns-in_err-follow-clause-device g c =
    let given = err_from_is_err_and c.from_residual-in_err-follow.result c.from_residual-in_err-follow.ensures.1 in
    rw (given.1, given.2) c.in_err-follow.ensures.device

pub returns-clause-device : goal.returns-clause-device
returns-clause-device g c = c.in_ok-follow.ensures.device

pub returns-clause-table : goal.returns-clause-table
returns-clause-table g c =
    let places = (g.D.Device.state c.args.device.now).places in
    let new = c.wait.new.self in
    subst (λ (v : Vec ℕ _). IsTable places new.met.items v.items) (sym c.in_ok-wait.ensures.same.0)
    (subst (λ (v : Vec Bool _). IsTable places v.items c.follow.new.self.blocks.items) (sym c.in_ok-wait.ensures.same.1) c.in_ok-follow.ensures.table)
