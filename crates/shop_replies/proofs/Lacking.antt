-- Why a read fails.
use Rattle.std.proofs.Common.{◌≡◌, refl, subst, arith, ⊎_elim}
use Rattle.std.specs.Prelude.{IsTrue, true, Some}
use Rattle.a2_device.specs.Device.{DeviceState, OnlyReads, UsesRead}
use Rattle.shop_replies.specs.Volume.{LacksUnit}

-- on a device that has no failure to come, a read fails where a unit can't be read
pub unit_lacks : (old new : DeviceState) → IsTrue old.honest → old.read_failures ≡ Some 0 → OnlyReads true old new → LacksUnit old
unit_lacks old new honest never reads =
    ⊎_elim
    (λ met. let used = subst (λ failures. UsesRead failures new.read_failures) never met.0 in absurd (omega (arith, used.1)))
    (λ lacks. ((reads.met honest refl).0, lacks.0))
    (reads.met honest refl).1
