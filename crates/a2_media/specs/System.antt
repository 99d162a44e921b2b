-- A file of the system, and which of its units are those of an image.
use Rattle.std.specs.Prelude.{◌≡◌, ◌⊎◌, ◌≤◌, ℕ, ◌*◌, ◌+◌, false, [], IfSome, Option}
use Rattle.a2_device.specs.declared.order.Order.{Order}
use Rattle.a2_device.specs.declared.order.Order.TheVariants.{Dos, Prodos}
use Rattle.a2_device.specs.Order.{IsImageLength}
use Rattle.a2_device.specs.Device.{DeviceState}
use Rattle.a2_media.specs.ImageDevice.{unit_bytes}
use Rattle.a2_media.specs.declared.units.UnitKind.{UnitKind}
use Rattle.a2_media.specs.declared.units.UnitKind.TheVariants.{Sector, Block}
use Rattle.a2_media.specs.File.{FileState}
use Rattle.a2_media.specs.FileDevice.{file_device_state}
use Rattle.a2_media.specs.Window.{image_extent, window_state}
use Rattle.a2_media.specs.declared.window.Extent.{Extent}

-- A file of the system of so many bytes. Nothing is known of what it holds: that it is honest is not proved.
abbrev pub system_file : ℕ → FileState
system_file size = record { size = size; honest = false; bytes = []; standing = 0 }

-- The units of an image that stand whole and in their order in its file: the sectors in DOS order, the blocks in ProDOS
-- order.
abbrev pub IsInPlace : Order → UnitKind → Type 0
IsInPlace order kind = ((order ≡ Dos) × (kind ≡ Sector)) ⊎ ((order ≡ Prodos) × (kind ≡ Block))

-- The device of a part of a file in place of an image in this order: its units stand there so, it has as many as an
-- image of the part's length, and nothing was written to it.
abbrev pub IsDeviceOf : Order → UnitKind → FileState → DeviceState → Type 0
IsDeviceOf order kind part device =
    IsInPlace order kind × ((places : ℕ) × (unit_bytes kind * places ≡ part.size) × IsImageLength order part.size
    × (device ≡ file_device_state kind places 0 0 part))

-- the part of a file in which an image stands: the one that is said, or else all of it
abbrev pub part_state : Option Extent → FileState → FileState
part_state said file =
    let extent = image_extent said file.size in window_state extent.start extent.size file

-- a part that is said is inside its file
abbrev pub IsInside : Option Extent → ℕ → Type 0
IsInside said size = IfSome said (λ extent. extent.start + extent.size ≤ size)
