use Rattle.std.proofs.Common.{◌≡◌, ◌+◌, ◌<◌, ◌≤◌, [], List, ℕ, true, false, refl, sym, ◌∙◌, ap, subst, arith, length, length-set, take}
use Rattle.std.specs.Prelude.{IsTrue, is_err}
use Rattle.a2_device.specs.Device.{DeviceState, OnlyReads, unit_at}
use Rattle.a2_device.specs.Reading.{then_reads}
use Rattle.a2_device.proofs.Results.{at_ok}
use Rattle.pro_bitmap.specs.Bitmap.{units_in}
use Rattle.pro_bitmap.proofs.Units.{taken, sized, all_taken}
use Rattle.pro_bitmap.proofs.bitmap.Bitmap.read.Goals as goal

pub overflow_add-first : goal.overflow_add-first
overflow_add-first g c =
    record { fits = omega (arith, c.requires.blocks, c.units_of-count.ensures, c.loop-number-test.true, c.places-places.ensures, c.places-places.type_inv) }

pub returns-then-is_err-clause-device : goal.returns-then-is_err-clause-device
returns-then-is_err-clause-device g c =
    let failed : is_err c.read.result ≡ true = sym c.is_err.ensures.value ∙ c.if-is_err.true in
    then_reads true (g.D.Device.state c.args.device.now) (g.D.Device.state c.loop-number.device) (g.D.Device.state c.read.new.self) c.loop-number.invariant.device
    (subst (λ failed. OnlyReads failed (g.D.Device.state c.loop-number.device) (g.D.Device.state c.read.new.self)) failed c.read.ensures.device)

pub loop-number-preserved : goal.loop-number-preserved
loop-number-preserved g c =
    let start = g.D.Device.state c.args.device.now in
    let now = c.loop-number in
    let kept = now.invariant.device in
    let went : is_err c.read.result ≡ false = sym c.is_err.ensures.value ∙ c.if-is_err.false in
    let within : now.number < length now.units.items = omega (arith, c.loop-number-test.true, now.invariant.all) in
    record {
      device = then_reads false start (g.D.Device.state now.device) (g.D.Device.state c.read.new.self) kept
          (subst (λ failed. OnlyReads failed (g.D.Device.state now.device) (g.D.Device.state c.read.new.self)) went c.read.ensures.device);
      all = length-set now.units.items now.number c.read.new.unit ∙ now.invariant.all;
      sizes = sized now.units.items now.number c.units_of-count.result c.read.new.unit c.index_mut.result.now within c.loop-number-test.true
          now.invariant.sizes c.read.auto.unit c.index_mut.ensures.value;
      units = λ honest.
          let still = subst IsTrue (sym kept.same.honest) honest in
          let read = at_ok c.read.result went (c.read.ensures.read still) in
          taken start.store c.args.first now.units.items now.number c.read.new.unit within (now.invariant.units honest)
          (subst (λ (d : DeviceState). c.read.new.unit ≡ unit_at d.store (c.args.first + now.number)) (kept.kept honest refl) read);
    }

pub invariant_of-result : goal.invariant_of-result
invariant_of-result g c =
    let count = c.units_of-count.ensures in
    record {
      all = c.loop-number.invariant.all ∙ count;
      sizes = λ i h. c.loop-number.invariant.sizes i (omega (arith, h, count));
      places = omega (arith, c.requires.blocks, c.places-places.ensures, c.places-places.type_inv);
    }

pub returns-clause-units : goal.returns-clause-units
returns-clause-units g c = λ honest.
    all_taken (g.D.Device.state c.args.device.now).store c.args.first c.loop-number.units.items c.loop-number.number c.units_of-count.result _
    c.loop-number.invariant.all c.units_of-count.ensures c.loop-number-test.false c.loop-number.auto.number-end (c.loop-number.invariant.units honest)
