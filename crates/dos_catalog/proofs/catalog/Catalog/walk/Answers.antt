use Rattle.std.proofs.Common.{◌≡◌, ◌<◌, ◌+◌, List, ℕ, refl, sym, ◌∙◌, subst, arith, true, false, length, set, length-set}
use Rattle.std.specs.Prelude.{IsTrue}
use Rattle.std.proofs.lemmas.Result.{err_from_is_err_and}
use Rattle.a2_device.specs.Device.{DeviceState, unit_at}
use Rattle.a2_device.specs.declared.fault.Fault.TheVariants.{CatalogLink}
use Rattle.dos_catalog.specs.Catalog.{HasBadLink, IsCatalog, CatalogFaultAt}
use Rattle.dos_catalog.specs.lemmas.Chain.{no_catalog}
use Rattle.dos_catalog.specs.Walk.{IsTable}
use Rattle.dos_catalog.proofs.Sectors.{marked, tabled, walked_on, bad_link, free_on}
use Rattle.a2_device.specs.Reading.{then_reads}
use Rattle.dos_catalog.proofs.OnTrack.{so_far, free_slot_on}
use Rattle.dos_catalog.proofs.catalog.Catalog.walk.Goals as goal

pub returns-in_default-clause-refused : goal.returns-in_default-clause-refused
returns-in_default-clause-refused g c = λ honest is fault same.
    let store = (g.D.Device.state c.args.device.now).store in
    let now = c.loop-unit in
    let bad : HasBadLink store now.holder =
    bad_link store now.met now.catalog.sectors.items now.catalog.entries.items now.holder now.unit now.invariant.table (now.invariant.walking honest is)
    (λ none. absurd (omega (arith, c.loop-unit-test.true, none))) c.in_default.ensures.none in
    let is_fault : CatalogLink now.holder ≡ fault = cc in
    subst (λ f. CatalogFaultAt store f × ((sectors : List ℕ) → ¬ IsCatalog store sectors)) is_fault (bad, λ sectors. no_catalog store now.holder sectors bad)

pub returns-in_err-read-clause-device : goal.returns-in_err-read-clause-device
returns-in_err-read-clause-device g c =
    let given = err_from_is_err_and c.from_residual.result c.from_residual.ensures.1 in
    rw (given.1, given.2) (then_reads _ (g.D.Device.state c.args.device.now) (g.D.Device.state c.loop-unit.device) (g.D.Device.state c.read.new.device)
    c.loop-unit.invariant.device c.in_err-read.ensures.device)

pub loop-unit-smaller : goal.loop-unit-smaller
loop-unit-smaller g c =
    let within : c.in-Some.sector < length c.loop-unit.met = omega (arith, c.in-Some.ensures.some.2, c.loop-unit.invariant.size) in
    omega (arith, marked c.loop-unit.met c.in-Some.sector within c.in-Some.ensures.some.3)

pub loop-unit-preserved : goal.loop-unit-preserved
loop-unit-preserved g c =
    let start = g.D.Device.state c.args.device.now in
    let now = c.loop-unit in
    let next = 272 + c.in-Some.sector in
    let link = c.in-Some.ensures.some in
    let within : c.in-Some.sector < length now.met = omega (arith, link.2, now.invariant.size) in
    record {
      device = then_reads false start (g.D.Device.state now.device) (g.D.Device.state c.read.new.device) now.invariant.device c.in_ok-read.ensures.device;
      size = length-set now.met c.in-Some.sector true ∙ now.invariant.size;
      found = so_far now.met (set now.met c.in-Some.sector true) now.catalog.entries.items c.read.new.self.entries.items next c.read.new.unit
          (omega (arith, link.0, link.1), omega (arith, link.2)) (marked now.met c.in-Some.sector within link.3) c.in_ok-read.ensures.entries now.invariant.found;
      free_found = free_slot_on now.catalog.free c.read.new.self.free next c.read.new.unit (omega (arith, link.0, link.1), omega (arith, link.2)) c.in_ok-read.ensures.free now.invariant.free_found;
      table = subst (IsTable (set now.met c.in-Some.sector true)) (sym c.in_ok-read.ensures.sectors)
          (tabled now.met now.catalog.sectors.items c.in-Some.sector within link.3 now.invariant.table);
      walking = λ honest is.
          let still = subst IsTrue (sym now.invariant.device.same.honest) honest in
          let same = now.invariant.device.kept honest refl in
          let unit : c.read.new.unit ≡ unit_at start.store next = subst (λ (d : DeviceState). c.read.new.unit ≡ unit_at d.store next) same (c.in_ok-read.ensures.unit still) in
          walked_on start.store now.catalog.sectors.items c.read.new.self.sectors.items now.catalog.entries.items c.read.new.self.entries.items now.holder now.unit c.read.new.unit next
          (now.invariant.walking honest is) link.0 link.1 c.in_ok-read.ensures.sectors c.in_ok-read.ensures.entries unit;
      free = λ honest is.
          let still = subst IsTrue (sym now.invariant.device.same.honest) honest in
          let same = now.invariant.device.kept honest refl in
          let unit : c.read.new.unit ≡ unit_at start.store next = subst (λ (d : DeviceState). c.read.new.unit ≡ unit_at d.store next) same (c.in_ok-read.ensures.unit still) in
          free_on start.store now.catalog.sectors.items c.read.new.self.sectors.items next c.read.new.unit now.catalog.free c.read.new.self.free
          (now.invariant.free honest is) c.in_ok-read.ensures.sectors c.in_ok-read.ensures.free unit;
    }
