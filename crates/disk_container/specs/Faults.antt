-- Why bytes are no container: each fault says that none before it is there.
use Rattle.std.specs.Prelude.{◌<◌, ◌≤◌, ◌⊎◌, ℕ, List, length}
use Rattle.disk_container.specs.declared.error.ContainerFault.{ContainerFault}
use Rattle.disk_container.specs.declared.error.ContainerFault.TheVariants.{Data, Format, Header, Length, Magic}
use Rattle.a2_device.specs.declared.order.Order.{Order}
use Rattle.disk_container.specs.Container.{HasHeader, HoldsData, IsOfOrder, most_bytes}
use Rattle.disk_container.specs.Format.{BeginsLikeContainer, header_of, image_size}
use Rattle.a2_device.specs.Order.{IsImageLength}

-- the bytes begin with a header that says this order
pub record HasOrder (bytes : List ℕ) (order : Order) : Type 0 where
  pub header : HasHeader bytes
  pub says : IsOfOrder (header_of bytes) order

-- the bytes begin with a header, and that says no order
pub record HasNoOrder (bytes : List ℕ) : Type 0 where
  pub header : HasHeader bytes
  pub none : (order : Order) → ¬ IsOfOrder (header_of bytes) order

-- the data do not lie between the header and the end
pub record LacksData (bytes : List ℕ) : Type 0 where
  pub order : Order
  pub has_order : HasOrder bytes order
  pub outside : ¬ HoldsData (header_of bytes) order (length bytes)

-- the data lie there, but no image of the order has their length
pub record HasOddLength (bytes : List ℕ) : Type 0 where
  pub order : Order
  pub has_order : HasOrder bytes order
  pub holds : HoldsData (header_of bytes) order (length bytes)
  pub odd : ¬ IsImageLength order (image_size order (header_of bytes))

abbrev pub IsFault : List ℕ → ContainerFault → Type 0
IsFault bytes Magic = ¬ BeginsLikeContainer bytes
IsFault bytes Header = BeginsLikeContainer bytes × (length bytes ≤ most_bytes) × ¬ HasHeader bytes
IsFault bytes Format = HasNoOrder bytes
IsFault bytes Data = LacksData bytes
IsFault bytes Length = (BeginsLikeContainer bytes × (most_bytes < length bytes)) ⊎ HasOddLength bytes
