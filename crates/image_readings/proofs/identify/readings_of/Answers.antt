use Rattle.std.proofs.Common.{◌≡◌, ◌∙◌, sym, subst, arith, true, get_or, ℕ, List, length}
use Rattle.a2_device.specs.declared.order.Order.{Order}
use Rattle.a2_device.specs.declared.order.Order.TheVariants as orders
use Rattle.shop_jobs.specs.declared.input.FileSystem.{FileSystem}
use Rattle.shop_jobs.specs.declared.input.FileSystem.TheVariants as systems
use Rattle.image_readings.specs.Adding.{Adds}
use Rattle.image_readings.specs.IdentifyReply.{allows}
use Rattle.image_readings.proofs.Ways.{each_allowed, one_more}
use Rattle.image_readings.proofs.identify.readings_of.Goals as goal

-- a way, where a list has no more
abbrev none : FileSystem × Order
none = (systems.Dos, orders.Dos)

pub add_reading-requires : goal.add_reading-requires
add_reading-requires c =
    let now = c.loop-way in
    let ways = c.as_slice-way-items.result.now in
    let allowed = each_allowed c.args.image.now.items c.len.result c.args.ways.now ways now.way-index none (omega (arith, c.len.ensures, c.args.image.now.ok.0))
    (c.as_slice-way-items.ensures.value ∙ c.in_ok-allowed.ensures) c.loop-way-test.true in
    subst (λ (bytes : List ℕ). allows (length bytes) (get_or ways now.way-index none) ≡ true) (sym now.invariant.same) allowed

pub loop-way-preserved : goal.loop-way-preserved
loop-way-preserved c =
    let now = c.loop-way in
    let ways = c.as_slice-way-items.result.now in
    let more = one_more ways c.args.image.now.items now.readings.items c.add_reading.new.readings.items now.way-index none c.loop-way-test.true
    (record { in_order = now.invariant.in_order; each = now.invariant.each })
    (subst (λ (bytes : List ℕ). Adds bytes (get_or ways now.way-index none) now.readings.items c.add_reading.new.readings.items) now.invariant.same c.in_ok-add_reading.ensures.added) in
    record { same = c.in_ok-add_reading.ensures.same ∙ now.invariant.same; in_order = more.in_order; each = more.each }
