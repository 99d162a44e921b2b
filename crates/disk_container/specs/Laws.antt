-- What the laws on containers speak of.
use Rattle.std.specs.Prelude.{◌≡◌, ◌<◌, ℕ, ◌+◌, Bool, List, ◌++◌, Option, IfSome, drop, length, take}
use Rattle.disk_container.specs.declared.container.Container.{Container}
use Rattle.disk_container.specs.declared.error.ContainerFault.{ContainerFault}
use Rattle.a2_device.specs.declared.order.Order.{Order}
use Rattle.disk_container.specs.Container.{HasParts, IsContainer, payload_in}
use Rattle.disk_container.specs.Faults.{IsFault}
use Rattle.disk_container.specs.Wrapped.{CanBeWrapped, wrapped_bytes}

-- a file is one container at most
abbrev pub AreOne : List ℕ → Container → Container → Type 0
AreOne bytes container other = IsContainer bytes container → IsContainer bytes other → container ≡ other

-- a file with a fault is no container, and has no other fault
abbrev pub IsOnlyFault : List ℕ → ContainerFault → Type 0
IsOnlyFault bytes fault = IsFault bytes fault
    → ((container : Container) → ¬ IsContainer bytes container)
    × ((other : ContainerFault) → IsFault bytes other → fault ≡ other)

-- a container is what stands in front of the payload, the payload, and what stands behind it
abbrev pub IsInParts : List ℕ → Container → Type 0
IsInParts bytes container = IsContainer bytes container
    → HasParts bytes container (take container.start bytes)
    (payload_in bytes container)
    (drop (container.start + container.size) bytes)

-- another payload of the same length may be put into a container, and all else that it says stays
abbrev pub CanBePut : List ℕ → List ℕ → List ℕ → List ℕ → Container → Type 0
CanBePut front payload back other container =
    IsContainer (front ++ payload ++ back) container
    → HasParts (front ++ payload ++ back) container front payload back → length other ≡ length payload
    → IsContainer (front ++ other ++ back) container

-- what is wrapped is a container that says what it was made of
abbrev pub IsUnwrapped : Order → Option ℕ → List ℕ → Bool → List ℕ → Type 0
IsUnwrapped order volume comment protect payload =
    CanBeWrapped order (length payload) (length comment) → IfSome volume (λ number. number < 256)
    → IsContainer (wrapped_bytes order volume comment protect payload) (record {
      order = order;
      protected = protect;
      volume = volume;
      start = 64;
      size = length payload;
    })
