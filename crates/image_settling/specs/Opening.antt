-- Which bytes are read as a container, and what is taken out of one.
use Rattle.std.specs.Prelude.{◌≡◌, ℕ, Bool, false, List, Option, Some, None}
use Rattle.disk_container.specs.Container.{HasParts, IsContainer}
use Rattle.disk_container.specs.Faults.{IsFault}
use Rattle.disk_container.specs.Format.{BeginsLikeContainer}
use Rattle.disk_container.specs.declared.error.ContainerFault.{ContainerFault}
use Rattle.image_settling.specs.declared.container.OpenContainer.{OpenContainer}
use Rattle.image_settling.specs.declared.unsettled.Unsettled.{Unsettled}
use Rattle.image_settling.specs.declared.unsettled.Unsettled.TheVariants as unsettled
use Rattle.shop_jobs.specs.declared.input.OrderSaid.{OrderSaid}
use Rattle.shop_jobs.specs.declared.input.OrderSaid.TheVariants.{Is, ByContainer, ByReading}
use Rattle.shop_replies.specs.declared.refusal.Refusal.TheVariants as refusals

-- bytes are read as a container where the order is to be found by that; or by a reading, and they begin like one; a
-- bare image stands in none
abbrev pub IsReadAsContainer : OrderSaid → Bool → List ℕ → Type 0
IsReadAsContainer ByContainer is_bare bytes = Unit {0}
IsReadAsContainer ByReading is_bare bytes = (is_bare ≡ false) × BeginsLikeContainer bytes
IsReadAsContainer (Is order) is_bare bytes = ⊥

-- bytes that are no such are as they were; of a container the payload is left, and its parts are known
abbrev pub IsOpened : OrderSaid → Bool → List ℕ → List ℕ → Option OpenContainer → Type 0
IsOpened order is_bare old new None = (¬ IsReadAsContainer order is_bare old) × (new ≡ old)
IsOpened order is_bare old new (Some container) =
    IsReadAsContainer order is_bare old × IsContainer old container.says
    × HasParts old container.says container.shell.front.items new container.shell.back.items

-- why there is none: what is wrong with bytes that are read as one; or there is no memory
abbrev pub RefusesContainer : OrderSaid → Bool → List ℕ → Unsettled → Type 0
RefusesContainer order is_bare bytes unsettled.Memory = IsReadAsContainer order is_bare bytes
RefusesContainer order is_bare bytes (unsettled.Refused (refusals.Container fault)) =
    IsReadAsContainer order is_bare bytes × IsFault bytes fault
RefusesContainer order is_bare bytes (unsettled.Refused refusal) = ⊥
