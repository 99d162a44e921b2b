use Rattle.std.proofs.Common.{◌≡◌, ◌<◌, ℕ, List, [], refl, sym, ◌∙◌, subst, true, false, inl, inr, length, arith}
use Rattle.std.specs.Prelude.{IsTrue, is_err, All, ◌*◌, ◌≤◌}
use Rattle.std.proofs.lemmas.Result.{err_from_is_err_and}
use Rattle.a2_device.specs.Device.{DeviceState, OnlyReads}
use Rattle.a2_device.specs.declared.fault.Fault.{Fault}
use Rattle.a2_device.specs.declared.fault.Fault.TheVariants.{Geometry, MapPointer}
use Rattle.a2_device.specs.declared.fault.WalkError.TheVariants.{Fault as AFault, Memory}
use Rattle.a2_device.specs.Reading.{then_reads}
use Rattle.a2_device.proofs.Results.{at_ok}
use Rattle.pro_dir.specs.declared.entry.Entry.{Entry}
use Rattle.pro_dir.specs.Parents.{KnowsDirectories}
use Rattle.pro_dir.specs.Tree.{TreeFaultAt}
use Rattle.pro_dir.specs.Volume.{Directory, Describes, VolumeFaultAt}
use Rattle.pro_dir.specs.lemmas.VolumeLaws.{no_directory}
use Rattle.pro_dir.specs.Walk.{IsListing, IsTable, IsVolumeKey}
use Rattle.pro_dir.specs.Within.{IsInSlot, IsKeptWithin, IsWithin}
use Rattle.pro_dir.proofs.Described.{volume_key, has_geometry, no_geometry, bad_map, described}
use Rattle.pro_dir.proofs.Following.{refused_so}
use Rattle.pro_dir.proofs.Within.{kept_for_within, volume_within}
use Rattle.pro_dir.proofs.volume.VolumeDir.walk.Goals as goal

some_places : (places same : ℕ) → same ≡ places → 16 ≤ places → 2 < same
some_places places same is many = omega arith

few_entries : (places told entries : ℕ) → told ≡ places → told < 65536 → entries ≤ 14 * places → entries < 4294967296
few_entries places told entries is low few = omega arith

pub walk-requires-clause-size : goal.walk-requires-clause-size
walk-requires-clause-size g c = c.read.ensures.device.same.unit_size ∙ c.requires.unit

pub walk-requires-clause-places : goal.walk-requires-clause-places
walk-requires-clause-places g c =
    some_places (g.D.Device.state c.args.device.now).places (g.D.Device.state c.read.new.self).places c.read.ensures.device.same.places c.requires.places

pub has_map-requires-clause-table : goal.has_map-requires-clause-table
has_map-requires-clause-table g c =
    subst (λ n. IsTable n c.in_ok-tree.tree.met.items c.in_ok-tree.tree.blocks.items) (sym c.places-places.ensures) c.in_ok-tree.ensures.table

pub directories_of-requires : goal.directories_of-requires
directories_of-requires g c =
    few_entries (g.D.Device.state c.read.new.self).places c.places-places.result (length c.as_slice.result.now)
    c.places-places.ensures (c.if-not-has_geometry.ensures.low refl)
    (subst (λ (entries : List Entry). length entries ≤ 14 * (g.D.Device.state c.read.new.self).places) (sym c.as_slice.ensures.value) c.in_ok-tree.ensures.few)

pub invariant_of-result : goal.invariant_of-result
invariant_of-result g c = record {
  related = subst (λ (entries : List Entry). KnowsDirectories entries c.in_ok-directories.directories.items) c.as_slice.ensures.value c.in_ok-directories.ensures;
  few = few_entries (g.D.Device.state c.read.new.self).places c.places-places.result (length c.in_ok-tree.tree.entries.items)
      c.places-places.ensures (c.if-not-has_geometry.ensures.low refl) c.in_ok-tree.ensures.few;
}

pub returns-then-not-has_map-clause-device : goal.returns-then-not-has_map-clause-device
returns-then-not-has_map-clause-device g c =
    let went : is_err c.read.result ≡ false = sym c.is_err.ensures.value ∙ c.if-is_err.false in
    let first = subst (λ failed. OnlyReads failed (g.D.Device.state c.args.device.now) (g.D.Device.state c.read.new.self)) went c.read.ensures.device in
    then_reads false (g.D.Device.state c.args.device.now) (g.D.Device.state c.read.new.self) (g.D.Device.state c.walk.new.device) first c.in_ok-tree.ensures.device

pub returns-in_err-directories-clause-device : goal.returns-in_err-directories-clause-device
returns-in_err-directories-clause-device g c =
    let went : is_err c.read.result ≡ false = sym c.is_err.ensures.value ∙ c.if-is_err.false in
    let first = subst (λ failed. OnlyReads failed (g.D.Device.state c.args.device.now) (g.D.Device.state c.read.new.self)) went c.read.ensures.device in
    let given = err_from_is_err_and c.from_residual-in_err-directories.result c.from_residual-in_err-directories.ensures.1 in
    rw (given.1, given.2) (then_reads false (g.D.Device.state c.args.device.now) (g.D.Device.state c.read.new.self) (g.D.Device.state c.walk.new.device) first c.in_ok-tree.ensures.device)

pub returns-in_err-directories-clause-refused : goal.returns-in_err-directories-clause-refused
returns-in_err-directories-clause-refused g c = λ honest.
    let store = (g.D.Device.state c.args.device.now).store in
    refused_so c.from_residual-in_err-directories.result Memory (λ e. (fault : Fault) → e ≡ AFault fault → VolumeFaultAt store fault × ((directory : Directory) → ¬ Describes store directory))
    c.from_residual-in_err-directories.ensures.1 (λ fault is. absurd (cc))

pub returns-clause-device : goal.returns-clause-device
returns-clause-device g c =
    let went : is_err c.read.result ≡ false = sym c.is_err.ensures.value ∙ c.if-is_err.false in
    let first = subst (λ failed. OnlyReads failed (g.D.Device.state c.args.device.now) (g.D.Device.state c.read.new.self)) went c.read.ensures.device in
    then_reads false (g.D.Device.state c.args.device.now) (g.D.Device.state c.read.new.self) (g.D.Device.state c.walk.new.device) first c.in_ok-tree.ensures.device

pub returns-in_err-tree-clause-refused : goal.returns-in_err-tree-clause-refused
returns-in_err-tree-clause-refused g c = λ honest.
    let start = g.D.Device.state c.args.device.now in
    let mid = g.D.Device.state c.read.new.self in
    let only = c.read.ensures.device in
    let whole = g.met.D.Device.whole c.args.device.now honest in
    let went : is_err c.read.result ≡ false = sym c.is_err.ensures.value ∙ c.if-is_err.false in
    let same : mid ≡ start = only.kept honest went in
    let still : IsTrue mid.honest = subst IsTrue (sym only.same.honest) honest in
    let has = c.if-not-has_geometry.ensures.value.0 refl in
    let places : c.places-places.result ≡ length start.store = c.places-places.ensures ∙ only.same.places ∙ sym whole.all in
    let key = volume_key start.store c.read.new.unit (at_ok c.read.result went (c.read.ensures.read honest)) has.0 has.1 in
    let mid_key = subst (λ (d : DeviceState). IsVolumeKey d.store c.read.new.unit) (sym same) key in
    let told : (fault : Fault) → c.in_err-tree.field-0.0 ≡ AFault fault → VolumeFaultAt start.store fault × ((directory : Directory) → ¬ Describes start.store directory) = λ fault is.
    let tree : TreeFaultAt start.store fault = subst (λ (d : DeviceState). TreeFaultAt d.store fault) same (c.in_err-tree.ensures.refused still mid_key fault is) in
    let bad = inr (inl (has_geometry start.store c.read.new.unit c.of-header.result.bytes c.places-places.result key c.of-header.ensures.bytes has.2 places, tree)) in
    (bad, λ directory. no_directory start.store fault directory bad) in
    refused_so c.from_residual.result c.in_err-tree.field-0.0 _ c.from_residual.ensures.1 told

pub returns-then-not-has_map-clause-refused : goal.returns-then-not-has_map-clause-refused
returns-then-not-has_map-clause-refused g c = λ honest fault told.
    let start = g.D.Device.state c.args.device.now in
    let mid = g.D.Device.state c.read.new.self in
    let only = c.read.ensures.device in
    let whole = g.met.D.Device.whole c.args.device.now honest in
    let went : is_err c.read.result ≡ false = sym c.is_err.ensures.value ∙ c.if-is_err.false in
    let same : mid ≡ start = only.kept honest went in
    let still : IsTrue mid.honest = subst IsTrue (sym only.same.honest) honest in
    let has = c.if-not-has_geometry.ensures.value.0 refl in
    let places : c.places-places.result ≡ length start.store = c.places-places.ensures ∙ only.same.places ∙ sym whole.all in
    let key = volume_key start.store c.read.new.unit (at_ok c.read.result went (c.read.ensures.read honest)) has.0 has.1 in
    let mid_key = subst (λ (d : DeviceState). IsVolumeKey d.store c.read.new.unit) (sym same) key in
    let tree = c.in_ok-tree.tree in
    let listing = subst (λ (d : DeviceState). IsListing d.store tree.blocks.items tree.entries.items [] tree.free.items) same (c.in_ok-tree.ensures.listed still mid_key) in
    let table = subst (λ n. IsTable n tree.met.items tree.blocks.items) (sym c.places-places.ensures) c.in_ok-tree.ensures.table in
    let map = bad_map start.store c.places-places.result c.bitmap.result c.read.new.unit c.of-header.result.bytes tree.met.items tree.blocks.items tree.entries.items tree.free.items
    places key c.of-header.ensures.bytes c.bitmap.ensures.value table listing (λ new. let no_way : false ≡ true = c.if-not-has_map.ensures.1 new in cc) in
    let is : fault ≡ MapPointer 2 = cc in
    let bad = inr (inr (is, has_geometry start.store c.read.new.unit c.of-header.result.bytes c.places-places.result key c.of-header.ensures.bytes has.2 places, map)) in
    (bad, λ directory. no_directory start.store fault directory bad)

pub returns-clause-described : goal.returns-clause-described
returns-clause-described g c = λ honest.
    let start = g.D.Device.state c.args.device.now in
    let mid = g.D.Device.state c.read.new.self in
    let only = c.read.ensures.device in
    let whole = g.met.D.Device.whole c.args.device.now honest in
    let went : is_err c.read.result ≡ false = sym c.is_err.ensures.value ∙ c.if-is_err.false in
    let same : mid ≡ start = only.kept honest went in
    let still : IsTrue mid.honest = subst IsTrue (sym only.same.honest) honest in
    let has = c.if-not-has_geometry.ensures.value.0 refl in
    let places : c.places-places.result ≡ length start.store = c.places-places.ensures ∙ only.same.places ∙ sym whole.all in
    let key = volume_key start.store c.read.new.unit (at_ok c.read.result went (c.read.ensures.read honest)) has.0 has.1 in
    let mid_key = subst (λ (d : DeviceState). IsVolumeKey d.store c.read.new.unit) (sym same) key in
    let tree = c.in_ok-tree.tree in
    let listing = subst (λ (d : DeviceState). IsListing d.store tree.blocks.items tree.entries.items [] tree.free.items) same (c.in_ok-tree.ensures.listed still mid_key) in
    let table = subst (λ n. IsTable n tree.met.items tree.blocks.items) (sym c.places-places.ensures) c.in_ok-tree.ensures.table in
    described start.store c.places-places.result c.bitmap.result c.read.new.unit c.of-header.result.bytes tree.met.items tree.blocks.items tree.entries.items tree.free.items
    places key c.of-header.ensures.bytes has.2 c.bitmap.ensures.value table listing (c.if-not-has_map.ensures.0 refl)

pub returns-then-not-has_geometry-clause-refused : goal.returns-then-not-has_geometry-clause-refused
returns-then-not-has_geometry-clause-refused g c = λ honest fault told.
    let start = g.D.Device.state c.args.device.now in
    let only = c.read.ensures.device in
    let whole = g.met.D.Device.whole c.args.device.now honest in
    let went : is_err c.read.result ≡ false = sym c.is_err.ensures.value ∙ c.if-is_err.false in
    let places : c.places-places.result ≡ length start.store = c.places-places.ensures ∙ only.same.places ∙ sym whole.all in
    let none = no_geometry start.store c.read.new.unit c.of-header.result.bytes c.places-places.result (at_ok c.read.result went (c.read.ensures.read honest)) c.of-header.ensures.bytes places
    (λ has. let no_way : false ≡ true = c.if-not-has_geometry.ensures.value.1 has in cc) in
    let is : fault ≡ Geometry 2 = cc in
    let bad = inl (is, none) in
    (bad, λ directory. no_directory start.store fault directory bad)

pub returns-clause-free : goal.returns-clause-free
returns-clause-free g c = λ honest key_block own is run.
    let start = g.D.Device.state c.args.device.now in
    let mid = g.D.Device.state c.read.new.self in
    let only = c.read.ensures.device in
    let whole = g.met.D.Device.whole c.args.device.now honest in
    let went : is_err c.read.result ≡ false = sym c.is_err.ensures.value ∙ c.if-is_err.false in
    let same : mid ≡ start = only.kept honest went in
    let still : IsTrue mid.honest = subst IsTrue (sym only.same.honest) honest in
    let has = c.if-not-has_geometry.ensures.value.0 refl in
    let places : c.places-places.result ≡ length start.store = c.places-places.ensures ∙ only.same.places ∙ sym whole.all in
    let key = volume_key start.store c.read.new.unit (at_ok c.read.result went (c.read.ensures.read honest)) has.0 has.1 in
    let mid_key = subst (λ (d : DeviceState). IsVolumeKey d.store c.read.new.unit) (sym same) key in
    let tree = c.in_ok-tree.tree in
    let listing = subst (λ (d : DeviceState). IsListing d.store tree.blocks.items tree.entries.items [] tree.free.items) same (c.in_ok-tree.ensures.listed still mid_key) in
    listing.keeps.first key_block own is run

pub returns-in_err-tree-clause-device : goal.returns-in_err-tree-clause-device
returns-in_err-tree-clause-device g c =
    let went : is_err c.read.result ≡ false = sym c.is_err.ensures.value ∙ c.if-is_err.false in
    let first = subst (λ failed. OnlyReads failed (g.D.Device.state c.args.device.now) (g.D.Device.state c.read.new.self)) went c.read.ensures.device in
    let given = err_from_is_err_and c.from_residual.result c.from_residual.ensures.1 in
    rw (given.1, given.2) (then_reads _ (g.D.Device.state c.args.device.now) (g.D.Device.state c.read.new.self) (g.D.Device.state c.walk.new.device) first c.in_err-tree.ensures.device)

pub returns-clause-within : goal.returns-clause-within
returns-clause-within g c =
    let start = g.D.Device.state c.args.device.now in
    let all : c.places-places.result ≡ start.places = c.places-places.ensures ∙ c.read.ensures.device.same.places in
    let has = c.if-not-has_geometry.ensures.value.0 refl in
    let tree = c.in_ok-tree.tree in
    let told = c.in_ok-tree.ensures in
    let back = sym c.places-places.ensures in
    subst (λ n. IsWithin n (record { header = c.of-header.result.bytes; blocks = tree.blocks.items; entries = tree.entries.items })) all
    (volume_within c.places-places.result c.bitmap.result c.of-header.result.bytes tree.met.items tree.blocks.items tree.entries.items c.of-header.ensures.size has.2
    (c.if-not-has_geometry.ensures.low refl) (subst (λ n. IsTable n tree.met.items tree.blocks.items) back told.table) (subst (λ n. All (IsInSlot n) tree.entries.items) back told.within)
    (subst (λ n. length tree.entries.items ≤ 14 * n) back told.few) c.bitmap.ensures.value (c.if-not-has_map.ensures.0 refl))

pub returns-clause-slots : goal.returns-clause-slots
returns-clause-slots g c =
    let tree = c.in_ok-tree.tree in
    kept_for_within (g.D.Device.state c.args.device.now).places tree.free.items (subst (λ n. All (IsKeptWithin n) tree.free.items) c.read.ensures.device.same.places c.in_ok-tree.ensures.kept)
