-- How long an image may be.
use Rattle.std.proofs.Common.{ℕ, ◌<◌, ◌≤◌, arith}
use Rattle.a2_device.specs.declared.order.Order.{Order}
use Rattle.a2_device.specs.declared.order.Order.TheVariants.{Dos, Prodos, Nibble}
use Rattle.a2_device.specs.Order.{IsImageLength}

-- an image has bytes, and not too many
pub small : (order : Order) (bytes : ℕ) → IsImageLength order bytes → (0 < bytes) × (bytes ≤ 33553920)
unfolding IsImageLength
small Dos bytes is = (omega (arith, is), omega (arith, is))
small Prodos bytes is = (omega (arith, is), omega (arith, is))
small Nibble bytes is = (omega (arith, is), omega (arith, is))
