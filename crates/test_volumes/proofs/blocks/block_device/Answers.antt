use Rattle.std.proofs.Common.{ap, arith, refl, subst, sym, length, List, ℕ}
use Rattle.a2_device.specs.declared.order.Order.TheVariants.{Prodos}
use Rattle.a2_device.specs.Order.{IsImageLength}
use Rattle.a2_device.specs.Device.{DeviceState}
use Rattle.test_volumes.proofs.Opening.{blocks_within}
use Rattle.test_volumes.proofs.blocks.block_device.Goals as goal

pub returns-in-Ok-clause-places : goal.returns-in-Ok-clause-places
returns-in-Ok-clause-places c =
    let same = ap (λ (s : DeviceState). s.places) c.prodos.ensures in
    let within = blocks_within c.in-Ok.image c.in-Ok.ensures.order
    (subst (λ (bytes : List ℕ). IsImageLength Prodos (length bytes)) (sym c.in-Ok.ensures.bytes) (c.in-Ok.ensures.takes refl)) in
    (omega (arith, same, within.0), omega (arith, same, within.1))
