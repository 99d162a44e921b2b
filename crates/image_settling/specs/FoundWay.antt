-- In which file system and order an image is read, where that is left to it.
use Rattle.std.specs.Prelude.{◌≡◌, ◌⊎◌, ℕ, List, Option, Some, None, IfSome}
use Rattle.a2_device.specs.declared.order.Order.{Order}
use Rattle.disk_container.specs.declared.container.Container.{Container}
use Rattle.image_readings.specs.BestReading.{IsChoice}
use Rattle.image_readings.specs.declared.best.Choice.TheVariants.{Way, Ambiguous, Unknown}
use Rattle.image_settling.specs.declared.unsettled.Unsettled.{Unsettled}
use Rattle.image_settling.specs.declared.unsettled.Unsettled.TheVariants as unsettled
use Rattle.shop_jobs.specs.Input.{AsBytes, AsSectors, AsVolume, ReadingView}
use Rattle.shop_jobs.specs.declared.input.FileSystem.{FileSystem}
use Rattle.shop_jobs.specs.declared.input.OrderSaid.{OrderSaid}
use Rattle.shop_jobs.specs.declared.input.OrderSaid.TheVariants.{Is, ByContainer, ByReading}
use Rattle.shop_replies.specs.declared.refusal.Refusal.TheVariants as refusals

-- the order that is said, or that the container says where it is left to that
abbrev pub order_given : OrderSaid → Option Container → Option Order
order_given (Is order) container = Some order
order_given ByContainer None = None
order_given ByContainer (Some container) = Some container.order
order_given ByReading container = None

-- ---- by the readings of the image

-- the order is that which the container says, if there is one
abbrev pub Agrees : Option Container → Order → Type 0
Agrees container order = IfSome container (λ (says : Container). says.order ≡ order)

-- This way is chosen by the readings of the image that have what is given; one in a container is read in the order that
-- this says.
pub record IsBestWay (file_system : Option FileSystem) (order : Option Order) (container : Option Container)
    (image : List ℕ) (way : FileSystem × Order) : Type 0 where
  pub chosen : IsChoice file_system order image (Way way.0 way.1)
  pub agrees : Agrees container way.1

-- the best reading is in another order than the container says
pub record IsInOtherOrder (file_system : Option FileSystem) (order : Option Order) (container : Option Container)
    (image : List ℕ) : Type 0 where
  pub way : FileSystem × Order
  pub chosen : IsChoice file_system order image (Way way.0 way.1)
  pub other : ¬ Agrees container way.1

-- why none is: no reading beats every other, or it is in another order; or there is no volume; or there is no memory
abbrev pub RefusesChoice : Option FileSystem → Option Order → Option Container → List ℕ → Unsettled → Type 0
RefusesChoice file_system order container image unsettled.Memory = Unit {0}
RefusesChoice file_system order container image (unsettled.Refused refusals.Ambiguous) =
    IsChoice file_system order image Ambiguous ⊎ IsInOtherOrder file_system order container image
RefusesChoice file_system order container image (unsettled.Refused refusals.Unknown) =
    IsChoice file_system order image Unknown
RefusesChoice file_system order container image (unsettled.Refused refusal) = ⊥

-- ---- of what is given, and what is not

-- a way whose file system and order are given is that; of another one its best
abbrev pub IsFoundIn : Option FileSystem → Option Order → Option Container → List ℕ → FileSystem × Order → Type 0
IsFoundIn (Some file_system) (Some order) container image way = (way.0 ≡ file_system) × (way.1 ≡ order)
IsFoundIn file_system order container image way = IsBestWay file_system order container image way

abbrev pub RefusesIn : Option FileSystem → Option Order → Option Container → List ℕ → Unsettled → Type 0
RefusesIn (Some file_system) (Some order) container image error = ⊥
RefusesIn file_system order container image error = RefusesChoice file_system order container image error

-- so of an order, where a file system is given or not
abbrev pub IsFoundOrder : Option FileSystem → Option Order → Option Container → List ℕ → Order → Type 0
IsFoundOrder file_system (Some given) container image order = order ≡ given
IsFoundOrder file_system None container image order =
    (of : FileSystem) × IsBestWay file_system None container image (of, order)

abbrev pub RefusesOrder : Option FileSystem → Option Order → Option Container → List ℕ → Unsettled → Type 0
RefusesOrder file_system (Some given) container image error = ⊥
RefusesOrder file_system None container image error = RefusesChoice file_system None container image error

-- ---- the way of an image

-- of a volume its file system and its order, of sectors their order
abbrev pub IsFoundWay : ReadingView → Option Container → List ℕ → FileSystem × Order → Type 0
IsFoundWay AsBytes container image way = Unit {0}
IsFoundWay (AsSectors order) container image way =
    IsFoundOrder None (order_given order container) container image way.1
IsFoundWay (AsVolume volume) container image way =
    IsFoundIn volume.file_system (order_given volume.order container) container image way

abbrev pub RefusesWay : ReadingView → Option Container → List ℕ → Unsettled → Type 0
RefusesWay AsBytes container image error = ⊥
RefusesWay (AsSectors order) container image error =
    RefusesOrder None (order_given order container) container image error
RefusesWay (AsVolume volume) container image error =
    RefusesIn volume.file_system (order_given volume.order container) container image error
