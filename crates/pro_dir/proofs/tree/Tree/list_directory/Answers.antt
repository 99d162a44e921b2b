use Rattle.std.proofs.Common.{◌≡◌, ◌++◌, [], ◌∷◌, ◌≤◌, ℕ, Bool, List, sym, ◌∙◌, ap, subst, arith, Vec, length, drop, map}
use Rattle.std.specs.Prelude.{reverse}
use Rattle.pro_dir.specs.declared.entry.Entry.{Entry}
use Rattle.pro_dir.specs.declared.reading.FreeSlot.{FreeSlot}
use Rattle.pro_dir.specs.declared.waiting.Waiting.{Waiting}
use Rattle.pro_dir.specs.Entry.{key_of}
use Rattle.pro_dir.specs.Walk.{HasMetMore, IsReadOut, IsTable, kept_slots, whole_block, work}
use Rattle.pro_dir.proofs.Within.{blocks_within, kept_within, same_work}
use Rattle.pro_dir.proofs.Listing.{directory_listed}
use Rattle.pro_dir.proofs.tree.Tree.list_directory.Goals as goal

pub returns-clause-work : goal.returns-clause-work
returns-clause-work g c =
    let old = c.args.self.now in
    let opened = c.open.new.self in
    let new = c.wait.new.self in
    let reading = c.in_ok-reading.reading in
    let add = c.in_ok-add.ensures in
    let read = c.in_ok-reading.ensures in
    let wait = c.in_ok-wait.ensures in
    let met : c.add.new.self.met.items ≡ old.met.items = ap (λ (v : Vec Bool _). v.items) add.same.1 in
    let blocks : c.add.new.self.blocks.items ≡ old.blocks.items = ap (λ (v : Vec ℕ _). v.items) add.same.0 in
    let pending : opened.pending.items ≡ old.pending.items = ap (λ (v : Vec Waiting _). v.items) (read.same.1 ∙ add.same.2) in
    let more = subst (λ (ms : List Bool). HasMetMore ms opened.met.items old.blocks.items opened.blocks.items) met
    (subst (λ (bs : List ℕ). HasMetMore c.add.new.self.met.items opened.met.items bs opened.blocks.items) blocks read.more) in
    let waiting = wait.pending ∙ ap (λ (ws : List Waiting). ws ++ reverse (map (whole_block reading.key) (drop c.len-first.result opened.blocks.items))) pending in
    subst (λ (m : List Bool). work m new.pending.items ≤ work old.met.items old.pending.items) (sym (ap (λ (v : Vec Bool _). v.items) wait.same.1))
    (same_work old.met.items opened.met.items old.blocks.items opened.blocks.items reading.key c.len-first.result old.pending.items new.pending.items
    (omega (arith, c.len-first.ensures, c.add.new.self.blocks.ok.0, ap length blocks)) more waiting)

pub returns-clause-listed : goal.returns-clause-listed
returns-clause-listed g c = λ honest so.
    let start = g.D.Device.state c.args.device.now in
    let old = c.args.self.now in
    let opened = c.open.new.self in
    let new = c.wait.new.self in
    let reading = c.in_ok-reading.reading in
    let add = c.in_ok-add.ensures in
    let read = c.in_ok-reading.ensures in
    let wait = c.in_ok-wait.ensures in
    let found = read.found honest in
    let added : c.add.new.self.blocks.items ≡ old.blocks.items = ap (λ (v : Vec ℕ _). v.items) add.same.0 in
    let blocks : new.blocks.items ≡ opened.blocks.items = ap (λ (v : Vec ℕ _). v.items) wait.same.0 in
    let table = subst (λ bs. IsTable start.places opened.met.items bs) (sym blocks) read.table in
    let out = subst (λ bs. IsReadOut start.store (key_of c.args.entry) bs new.blocks.items reading.free) added
    (subst (λ bs. IsReadOut start.store (key_of c.args.entry) c.add.new.self.blocks.items bs reading.free) (sym blocks) found.0) in
    let entries : new.entries.items ≡ old.entries.items ++ c.args.entry ∷ [] =
    ap (λ (v : Vec Entry _). v.items) wait.same.2 ∙ ap (λ (v : Vec Entry _). v.items) read.same.0 ∙ add.entries in
    let pending : new.pending.items ≡ old.pending.items ++ reverse (map (whole_block (key_of c.args.entry)) (drop c.len-first.result new.blocks.items)) =
    wait.pending ∙ ap (λ (v : Vec Waiting _). v.items ++ reverse (map (whole_block reading.key) (drop c.len-first.result opened.blocks.items))) (read.same.1 ∙ add.same.2)
    ∙ ap (λ (key : ℕ). old.pending.items ++ reverse (map (whole_block key) (drop c.len-first.result opened.blocks.items))) read.key
    ∙ ap (λ (bs : List ℕ). old.pending.items ++ reverse (map (whole_block (key_of c.args.entry)) (drop c.len-first.result bs))) (sym blocks) in
    let free : new.free.items ≡ old.free.items ++ kept_slots (key_of c.args.entry) reading.free =
    wait.free ∙ ap (λ (v : Vec FreeSlot _). v.items ++ kept_slots reading.key reading.free) (read.same.2 ∙ add.same.3)
    ∙ ap (λ (key : ℕ). old.free.items ++ kept_slots key reading.free) read.key in
    directory_listed start.store start.places opened.met.items old.blocks.items new.blocks.items old.entries.items new.entries.items old.pending.items new.pending.items
    c.args.entry old.free.items new.free.items reading.free c.len-first.result so c.requires.directory table out found.1 found.2 entries (omega (arith, c.len-first.ensures, c.add.new.self.blocks.ok.0, ap length added)) pending free

pub returns-clause-entries : goal.returns-clause-entries
returns-clause-entries g c =
    ap (λ (v : Vec Entry _). v.items) c.in_ok-wait.ensures.same.2 ∙ ap (λ (v : Vec Entry _). v.items) c.in_ok-reading.ensures.same.0 ∙ c.in_ok-add.ensures.entries

pub returns-clause-waiting : goal.returns-clause-waiting
returns-clause-waiting g c = λ old.
    let opened = c.open.new.self in
    let reading = c.in_ok-reading.reading in
    let read = c.in_ok-reading.ensures in
    let pending : c.wait.new.self.pending.items ≡ c.args.self.now.pending.items ++ reverse (map (whole_block reading.key) (drop c.len-first.result opened.blocks.items)) =
    c.in_ok-wait.ensures.pending
    ∙ ap (λ (v : Vec Waiting _). v.items ++ reverse (map (whole_block reading.key) (drop c.len-first.result opened.blocks.items))) (read.same.1 ∙ c.in_ok-add.ensures.same.2) in
    blocks_within (g.D.Device.state c.args.device.now).places opened.met.items opened.blocks.items reading.key c.len-first.result c.args.self.now.pending.items c.wait.new.self.pending.items
    read.table read.within.named pending old

pub returns-clause-kept : goal.returns-clause-kept
returns-clause-kept g c = λ old.
    let reading = c.in_ok-reading.reading in
    let opened = c.in_ok-reading.ensures in
    let free : c.wait.new.self.free.items ≡ c.args.self.now.free.items ++ kept_slots reading.key reading.free =
    c.in_ok-wait.ensures.free ∙ ap (λ (v : Vec FreeSlot _). v.items ++ kept_slots reading.key reading.free) (opened.same.2 ∙ c.in_ok-add.ensures.same.3) in
    kept_within (g.D.Device.state c.args.device.now).places reading.key c.args.self.now.free.items c.wait.new.self.free.items reading.free free opened.within.free old
