-- Why the bytes of an image are not taken.
use Rattle.std.specs.Prelude.{◌≡◌, ℕ}
use Rattle.a2_image.specs.declared.error.ImageError.{ImageError}
use Rattle.a2_image.specs.declared.error.ImageError.TheVariants.{Length, Memory, Number, NoSector}
use Rattle.a2_device.specs.declared.order.Order.{Order}
use Rattle.a2_device.specs.declared.order.Order.TheVariants.{Nibble}
use Rattle.a2_device.specs.Order.{IsImageLength}

-- each refusal, and when it comes; only an image in nibble order takes memory
abbrev pub RefusesToOpen : Order → ℕ → ImageError → Type 0
RefusesToOpen order bytes Length = IsImageLength order bytes → ⊥
RefusesToOpen order bytes Memory = IsImageLength order bytes × (order ≡ Nibble)
RefusesToOpen order bytes Number = ⊥
RefusesToOpen order bytes NoSector = ⊥
