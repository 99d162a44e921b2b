use Rattle.std.proofs.Common.{◌≡◌, ◌<◌, List, ℕ, true, false, refl, sym, ◌∙◌, subst, arith, inr}
use Rattle.std.specs.Prelude.{IsTrue}
use Rattle.a2_device.specs.Reading.{then_reads, unread}
use Rattle.std.proofs.lemmas.Result.{err_from_is_err_and}
use Rattle.a2_device.specs.Device.{DeviceState, unit_at}
use Rattle.a2_device.specs.declared.fault.Fault.{Fault}
use Rattle.a2_device.specs.declared.fault.Fault.TheVariants.{DirLink, Geometry}
use Rattle.a2_device.specs.declared.fault.WalkError.TheVariants.{Fault as AFault}
use Rattle.pro_dir.specs.Entry.{key_of}
use Rattle.pro_dir.specs.Tree.{CanLink, HasBadLink, HasKind, HasSizes, SubdirectoryFaultAt}
use Rattle.pro_dir.specs.Walk.{IsTable, IsFollowing, IsReadOut}
use Rattle.pro_dir.specs.Within.{IsReadWithin}
use Rattle.pro_dir.proofs.Table.{and_more, one_more, tabled_on}
use Rattle.pro_dir.proofs.Within.{none_read}
use Rattle.pro_dir.proofs.Following.{no_key, no_kind, no_sizes, opened, refused_so}
use Rattle.pro_dir.proofs.tree.Tree.open.Goals as goal
use Rattle.pro_dir.proofs.tree.Tree.open.Goals.{Else-not-has_sizes}

pub follow-requires-clause-table : goal.follow-requires-clause-table
follow-requires-clause-table g c =
    let start = g.D.Device.state c.args.device.now in
    let read = c.in_ok-read.ensures in
    let new = c.if-not-is_new.ensures.0 refl in
    subst (λ n. IsTable n c.read.new.self.met.items c.read.new.self.blocks.items) (sym read.device.same.places)
    (tabled_on start.places c.args.self.now.met.items c.read.new.self.met.items c.args.self.now.blocks.items c.read.new.self.blocks.items c.key_block-key.result
    new.0 (omega (arith, new.1, c.places.ensures)) new.2 c.requires.table read.met read.blocks)

pub returns-clause-more : goal.returns-clause-more
returns-clause-more g c =
    let start = g.D.Device.state c.args.device.now in
    let old = c.args.self.now in
    let keyed = c.read.new.self in
    let read = c.in_ok-read.ensures in
    let new = c.if-not-is_new.ensures.0 refl in
    and_more old.met.items keyed.met.items c.follow.new.self.met.items old.blocks.items keyed.blocks.items c.follow.new.self.blocks.items
    (one_more start.places old.met.items keyed.met.items old.blocks.items keyed.blocks.items c.key_block-key.result c.requires.table.size (omega (arith, new.1, c.places.ensures)) new.2 read.met read.blocks)
    c.in_ok-follow.ensures.more

-- the key block is read, and has the header of a subdirectory
key_read : (g : _) (c : Else-not-has_sizes g) → IsTrue (g.D.Device.state c.args.device.now).honest
    → let store = (g.D.Device.state c.args.device.now).store in
    CanLink store (key_of c.args.entry.now) × HasKind 14 (unit_at store (key_of c.args.entry.now)) × HasSizes (unit_at store (key_of c.args.entry.now))
    × IsFollowing store c.read.new.reading.key c.args.self.now.blocks.items c.read.new.self.blocks.items c.read.new.reading.free c.read.new.reading.key c.read.new.unit
key_read g c = λ honest.
    let start = g.D.Device.state c.args.device.now in
    let read = c.in_ok-read.ensures in
    let new = c.if-not-is_new.ensures.0 refl in
    let whole = g.met.D.Device.whole c.args.device.now honest in
    let key : c.key_block-key.result ≡ key_of c.args.entry.now = c.key_block-key.ensures in
    let can : CanLink start.store c.key_block-key.result = (new.0, omega (arith, new.1, c.places.ensures, whole.all)) in
    let here = read.unit honest in
    let first = opened start.store c.key_block-key.result c.new-reading.result.key c.read.new.reading.key c.args.self.now.blocks.items c.read.new.self.blocks.items
    c.new-reading.result.free c.read.new.reading.free c.read.new.unit c.new-reading.ensures.key read.key c.new-reading.ensures.free
    read.blocks read.first here can in
    let there : (P : List ℕ → Type 0) → P c.read.new.unit → P (unit_at start.store (key_of c.args.entry.now)) =
    λ P p. subst (λ (k : ℕ). P (unit_at start.store k)) key (subst P here p) in
    (subst (CanLink start.store) key can, there (HasKind 14) (c.if-not-has_kind.ensures.0 refl), there HasSizes (c.if-not-has_sizes.ensures.0 refl), first)

pub returns-in_err-follow-clause-refused : goal.returns-in_err-follow-clause-refused
returns-in_err-follow-clause-refused g c = λ honest.
    let start = g.D.Device.state c.args.device.now in
    let mid = g.D.Device.state c.read.new.device in
    let read = c.in_ok-read.ensures in
    let same : mid ≡ start = read.device.kept honest refl in
    let still : IsTrue mid.honest = subst IsTrue (sym read.device.same.honest) honest in
    let before = c.args.self.now.blocks.items in
    let stored = c.read.new.reading.key in
    let key : stored ≡ key_of c.args.entry.now = read.key ∙ c.new-reading.ensures.key ∙ c.key_block-key.ensures in
    let first = key_read g c.before.before.before.before.before.before.before.before honest in
    let refused = c.in_err-follow.ensures.refused still before
    (subst (λ (d : DeviceState). IsFollowing d.store stored before c.read.new.self.blocks.items c.read.new.reading.free stored c.read.new.unit) (sym same) first.3) in
    let told : (fault : Fault) → c.in_err-follow.field-0.0 ≡ AFault fault → SubdirectoryFaultAt start.store before c.args.entry.now.place (key_of c.args.entry.now) fault = λ fault is.
    let bad = refused fault is in
    let link = subst (λ k. HasBadLink start.store before k bad.0) key (subst (λ (d : DeviceState). HasBadLink d.store before stored bad.0) same bad.2) in
    subst (SubdirectoryFaultAt start.store before c.args.entry.now.place (key_of c.args.entry.now)) (sym bad.1) (inr (first.0, first.1, first.2, link)) in
    refused_so c.from_residual-in_err-follow.result c.in_err-follow.field-0.0
    (λ e. (fault : Fault) → e ≡ AFault fault → SubdirectoryFaultAt start.store before c.args.entry.now.place (key_of c.args.entry.now) fault) c.from_residual-in_err-follow.ensures.1 told

pub returns-clause-found : goal.returns-clause-found
returns-clause-found g c = λ honest.
    let start = g.D.Device.state c.args.device.now in
    let mid = g.D.Device.state c.read.new.device in
    let read = c.in_ok-read.ensures in
    let same : mid ≡ start = read.device.kept honest refl in
    let still : IsTrue mid.honest = subst IsTrue (sym read.device.same.honest) honest in
    let before = c.args.self.now.blocks.items in
    let stored = c.read.new.reading.key in
    let key : stored ≡ key_of c.args.entry.now = read.key ∙ c.new-reading.ensures.key ∙ c.key_block-key.ensures in
    let first = key_read g c.before.before.before.before.before.before.before honest in
    let found = c.in_ok-follow.ensures.found still before
    (subst (λ (d : DeviceState). IsFollowing d.store stored before c.read.new.self.blocks.items c.read.new.reading.free stored c.read.new.unit) (sym same) first.3) in (
      subst (λ k. IsReadOut start.store k before c.follow.new.self.blocks.items c.follow.new.reading.free) key
          (subst (λ (d : DeviceState). IsReadOut d.store stored before c.follow.new.self.blocks.items c.follow.new.reading.free) same found),
      first.1,
      first.2,
    )

pub returns-in_err-follow-clause-device : goal.returns-in_err-follow-clause-device
returns-in_err-follow-clause-device g c =
    let given = err_from_is_err_and c.from_residual-in_err-follow.result c.from_residual-in_err-follow.ensures.1 in
    rw (given.1, given.2) (then_reads _ (g.D.Device.state c.args.device.now) (g.D.Device.state c.read.new.device) (g.D.Device.state c.follow.new.device) c.in_ok-read.ensures.device c.in_err-follow.ensures.device)

pub returns-clause-within : goal.returns-clause-within
returns-clause-within g c =
    let start = g.D.Device.state c.args.device.now in
    let read = c.in_ok-read.ensures in
    let follow = c.in_ok-follow.ensures in
    let fresh = c.new-reading.ensures in
    let new = c.if-not-is_new.ensures.0 refl in
    let below : c.key_block-key.result < start.places = omega (arith, new.1, c.places.ensures) in
    let none = none_read start.places c.new-reading.result.key c.new-reading.result.free (omega (arith, below, fresh.key)) fresh.free in
    let first = subst (λ key. IsReadWithin start.places key c.read.new.reading.free) (sym read.key) (read.within start.places below none) in
    let rest = follow.within (subst (λ n. IsReadWithin n c.read.new.reading.key c.read.new.reading.free) (sym read.device.same.places) first) in
    subst (λ n. IsReadWithin n c.follow.new.reading.key c.follow.new.reading.free) read.device.same.places
    (subst (λ key. IsReadWithin (g.D.Device.state c.read.new.device).places key c.follow.new.reading.free) (sym follow.key) rest)

pub returns-then-not-is_new : goal.returns-then-not-is_new
returns-then-not-is_new g c = record {
  device = unread (g.D.Device.state c.args.device.now);
  table = tt;
  more = tt;
  within = tt;
  key = tt;
  found = λ _. tt;
  refused = λ honest fault told.
      let start = g.D.Device.state c.args.device.now in
      let whole = g.met.D.Device.whole c.args.device.now honest in
      let old = c.args.self.now in
      let holder = c.args.entry.now.place in
      let is : DirLink holder ≡ fault = cc in
      subst (SubdirectoryFaultAt start.store old.blocks.items holder (key_of c.args.entry.now)) is
      (no_key start.store start.places old.met.items old.blocks.items holder (key_of c.args.entry.now) c.key_block-key.result whole.all c.requires.table c.key_block-key.ensures
      (λ new. let no_way : false ≡ true = c.if-not-is_new.ensures.1 (new.0, omega (arith, new.1, c.places.ensures), new.2) in cc));
  same = (refl, refl, refl);
}

pub returns-then-not-has_kind : goal.returns-then-not-has_kind
returns-then-not-has_kind g c = record {
  device = c.in_ok-read.ensures.device;
  table = tt;
  more = tt;
  within = tt;
  key = tt;
  found = λ _. tt;
  refused = λ honest fault told.
      let start = g.D.Device.state c.args.device.now in
      let holder = c.args.entry.now.place in
      let is : DirLink holder ≡ fault = cc in
      subst (SubdirectoryFaultAt start.store c.args.self.now.blocks.items holder (key_of c.args.entry.now)) is
      (no_kind start.store c.args.self.now.blocks.items holder (key_of c.args.entry.now) c.key_block-key.result c.read.new.unit c.key_block-key.ensures (c.in_ok-read.ensures.unit honest)
      (λ kind. let no_way : false ≡ true = c.if-not-has_kind.ensures.1 kind in cc));
  same = c.in_ok-read.ensures.same;
}

pub returns-then-not-has_sizes : goal.returns-then-not-has_sizes
returns-then-not-has_sizes g c = record {
  device = c.in_ok-read.ensures.device;
  table = tt;
  more = tt;
  within = tt;
  key = tt;
  found = λ _. tt;
  refused = λ honest fault told.
      let start = g.D.Device.state c.args.device.now in
      let whole = g.met.D.Device.whole c.args.device.now honest in
      let new = c.if-not-is_new.ensures.0 refl in
      let key = c.key_block-key.result in
      let is : Geometry key ≡ fault = cc in
      subst (SubdirectoryFaultAt start.store c.args.self.now.blocks.items c.args.entry.now.place (key_of c.args.entry.now)) is
      (no_sizes start.store c.args.self.now.blocks.items c.args.entry.now.place (key_of c.args.entry.now) key c.read.new.unit c.key_block-key.ensures (c.in_ok-read.ensures.unit honest)
      (new.0, omega (arith, new.1, c.places.ensures, whole.all)) (c.if-not-has_kind.ensures.0 refl)
      (λ sizes. let no_way : false ≡ true = c.if-not-has_sizes.ensures.1 sizes in cc));
  same = c.in_ok-read.ensures.same;
}

pub returns-in_err-read : goal.returns-in_err-read
returns-in_err-read g c =
    let given = err_from_is_err_and c.from_residual.result c.from_residual.ensures.1 in
    rw (given.1, given.2) (record {
      device = c.in_err-read.ensures.device;
      table = tt;
      more = tt;
      within = tt;
      key = tt;
      found = λ _. tt;
      refused = λ _ fault is. absurd (c.in_err-read.ensures.no_fault fault is);
      same = c.in_err-read.ensures.same;
    })
