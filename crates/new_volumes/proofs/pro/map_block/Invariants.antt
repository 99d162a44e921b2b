use Rattle.std.proofs.Common.{◌≡◌, ℕ, ◌+◌, ◌*◌, ◌<◌, length}
use Rattle.std.specs.Prelude.{nat_lt, ◌&&◌}
use Rattle.pro_bitmap.specs.Bitmap.{is_free_in}
use Rattle.new_volumes.specs.ProUnits.{is_free_block}
use Rattle.new_volumes.proofs.pro.map_block.Given as goal

abbrev pub invariant-loop-bit : goal.invariant-loop-bit
invariant-loop-bit l = (length l.unit ≡ 512) × ((k : ℕ) → k < 4096 → is_free_in l.unit k ≡ (nat_lt k l.bit && is_free_block l.blocks (4096 * l.number + k)))
